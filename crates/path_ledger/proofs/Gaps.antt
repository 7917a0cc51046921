-- Activations behind a gap: what is behind it after one left.
use Rattle.std.proofs.Common.{◌≡◌, ℕ, ◌+◌, ◌-◌, ◌<◌, suc, zero, List, [], ◌∷◌, ◌++◌, length, take, drop, arith, refl, ap, ◌∙◌, subst, append_assoc}
use Rattle.std.specs.List.{remove, copy_within}
use Rattle.std.proofs.Math.Seq.{drop-append_seam}
use Rattle.std.proofs.lemmas.List.{length-take-le}
use Rattle.path_model.specs.declared.journal.Activation.{Activation}

-- what is behind k more
drop_more : (f k place : ℕ) (xs : List Activation) → place ≡ f + k → drop place xs ≡ drop k (drop f xs)
drop_more zero k place xs e = ap (λ (n : ℕ). drop n xs) (let same : place ≡ k = omega (arith, e) in same)
drop_more (suc f) k zero xs e = absurd (omega arith)
drop_more (suc f) zero (suc place) [] e = refl
drop_more (suc f) (suc k) (suc place) [] e = refl
drop_more (suc f) k (suc place) (x ∷ xs) e = drop_more f k place xs (omega arith)

drop_seam : (n : ℕ) (xs ys : List Activation) → length xs ≡ n → drop n (xs ++ ys) ≡ ys
drop_seam n xs ys e = subst (λ (k : ℕ). drop k (xs ++ ys) ≡ ys) e (drop-append_seam xs ys)

-- one leaves from behind the gap, and those behind it move down
pub left_behind : (gap i place : ℕ) (xs : List Activation) → place ≡ gap + i → drop gap (remove xs place) ≡ remove (drop gap xs) i
left_behind zero i place xs e = ap (remove xs) (let same : place ≡ i = omega (arith, e) in same)
left_behind (suc gap) i zero xs e = absurd (omega arith)
left_behind (suc gap) zero (suc place) [] e = refl
left_behind (suc gap) (suc i) (suc place) [] e = refl
left_behind (suc gap) i (suc place) (x ∷ xs) e = left_behind gap i place xs (omega arith)

-- those before it move up, and the gap is longer by one
pub left_in_front : (gap i place : ℕ) (xs : List Activation) → place ≡ gap + i → place < length xs → drop (gap + 1) (copy_within xs gap place (gap + 1)) ≡ remove (drop gap xs) i
left_in_front gap i place xs e h =
    let count : place - gap ≡ i = omega (arith, e) in
    let front : length (take (gap + 1) xs) ≡ gap + 1 = length-take-le (gap + 1) xs (omega (arith, e, h)) in
    let moved : drop (gap + 1) (copy_within xs gap place (gap + 1)) ≡ take (place - gap) (drop gap xs) ++ drop (gap + 1 + (place - gap)) xs =
    ap (drop (gap + 1)) (append_assoc (take (gap + 1) xs) (take (place - gap) (drop gap xs)) (drop (gap + 1 + (place - gap)) xs))
    ∙ drop_seam (gap + 1) (take (gap + 1) xs) (take (place - gap) (drop gap xs) ++ drop (gap + 1 + (place - gap)) xs) front in
    let counted : take (place - gap) (drop gap xs) ++ drop (gap + 1 + (place - gap)) xs ≡ take i (drop gap xs) ++ drop (gap + 1 + i) xs =
    ap (λ (n : ℕ). take n (drop gap xs) ++ drop (gap + 1 + n) xs) count in
    let behind : drop (gap + 1 + i) xs ≡ drop (suc i) (drop gap xs) = drop_more gap (suc i) (gap + 1 + i) xs (omega arith) in
    moved ∙ counted ∙ ap (λ (ys : List Activation). take i (drop gap xs) ++ ys) behind
