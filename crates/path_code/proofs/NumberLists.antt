-- Lists of numbers that grow by the next one.
use Rattle.std.proofs.Common.{◌≡◌, ◌+◌, ◌-◌, ◌≤◌, ℕ, zero, suc, List, [], ◌∷◌, ◌++◌, length, replicate, arith, ap, ◌∙◌}
use Rattle.path_code.specs.PathCodes.{numbered_values, numbers_from}

zeros_more : (n k : ℕ) → numbered_values n (replicate (suc k) 0) ≡ numbered_values n (replicate k 0) ++ (n + k, 0) ∷ []
zeros_more n zero = ap (λ i. (i, 0) ∷ []) (let z : n ≡ n + 0 = omega arith in z)
zeros_more n (suc k) = ap (λ zs. (n, 0) ∷ zs) (zeros_more (n + 1) k ∙ ap (λ i. numbered_values (n + 1) (replicate k 0) ++ (i, 0) ∷ []) (let z : n + 1 + k ≡ n + suc k = omega arith in z))

numbers_more : (n k : ℕ) → numbers_from n (suc k) ≡ numbers_from n k ++ (n + k) ∷ []
numbers_more n zero = ap (λ i. i ∷ []) (let z : n ≡ n + 0 = omega arith in z)
numbers_more n (suc k) = ap (λ zs. n ∷ zs) (numbers_more (n + 1) k ∙ ap (λ i. numbers_from (n + 1) k ++ i ∷ []) (let z : n + 1 + k ≡ n + suc k = omega arith in z))

-- a path's own semaphore and those of its first semicolons, up to the number n
abbrev pub first_values : ℕ → ℕ → List (ℕ × ℕ)
first_values own n = (own, 1) ∷ numbered_values (own + 1) (replicate (n - (own + 1)) 0)

pub own_alone : (own : ℕ) → first_values own (own + 1) ≡ (own, 1) ∷ []
own_alone own = ap (λ k. (own, 1) ∷ numbered_values (own + 1) (replicate k 0)) (let z : own + 1 - (own + 1) ≡ 0 = omega arith in z)

pub next_zero : (own n : ℕ) → own + 1 ≤ n → first_values own (n + 1) ≡ first_values own n ++ (n, 0) ∷ []
next_zero own n l =
    ap (λ k. (own, 1) ∷ numbered_values (own + 1) (replicate k 0)) (let z : n + 1 - (own + 1) ≡ suc (n - (own + 1)) = omega arith in z)
    ∙ ap (λ zs. (own, 1) ∷ zs) (zeros_more (own + 1) (n - (own + 1)) ∙ ap (λ i. numbered_values (own + 1) (replicate (n - (own + 1)) 0) ++ (i, 0) ∷ []) (let z : own + 1 + (n - (own + 1)) ≡ n = omega arith in z))

-- the numbers from one up to another
abbrev pub between : ℕ → ℕ → List ℕ
between first n = numbers_from first (n - first)

pub none_between : (first : ℕ) → between first first ≡ []
none_between first = ap (numbers_from first) (let z : first - first ≡ 0 = omega arith in z)

pub next_number : (first n : ℕ) → first ≤ n → between first (n + 1) ≡ between first n ++ n ∷ []
next_number first n l =
    ap (numbers_from first) (let z : n + 1 - first ≡ suc (n - first) = omega arith in z)
    ∙ numbers_more first (n - first)
    ∙ ap (λ i. numbers_from first (n - first) ++ i ∷ []) (let z : first + (n - first) ≡ n = omega arith in z)

-- values after others
pub numbered_append : (n : ℕ) (xs ys : List ℕ) → numbered_values n (xs ++ ys) ≡ numbered_values n xs ++ numbered_values (n + length xs) ys
numbered_append n [] ys = ap (λ k. numbered_values k ys) (let z : n ≡ n + 0 = omega arith in z)
numbered_append n (x ∷ xs) ys = ap (λ zs. (n, x) ∷ zs) (numbered_append (n + 1) xs ys ∙ ap (λ k. numbered_values (n + 1) xs ++ numbered_values k ys) (let z : n + 1 + length xs ≡ n + length (x ∷ xs) = omega arith in z))
