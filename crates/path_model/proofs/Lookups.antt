-- Activations among others: found by number, left out, counted.
use Rattle.std.proofs.Common.{◌≡◌, ◌==◌, ◌||◌, ◌<◌, ◌≤◌, ◌+◌, ℕ, Bool, true, false, not, cond, List, [], ◌∷◌, ◌++◌, length, filter, get_or, Some, None, refl, sym, ap, ◌∙◌, subst, arith}
use Rattle.std.proofs.lemmas.Bool.{eqb-true, eqb-false, eq-eqb, ne_eqb, cond-true, cond-false}
use Rattle.std.proofs.lemmas.List.Elements.{All-nil, All-cons}
use Rattle.std.specs.Prelude.{All}
use Rattle.path_model.specs.declared.ids.OpId.{OpId}
use Rattle.path_model.specs.declared.ids.ActId.{ActId}
use Rattle.path_model.specs.declared.journal.Activation.{Activation}
use Rattle.path_model.specs.Journals.{activation_of, without, AreNumberedFrom, AreCountedFrom, live_count}

pub act_same : (m n : ActId) → m.0 ≡ n.0 → m ≡ n
act_same m n e = ap (λ k. let a : ActId = record { 0 = k } in a) e

pub eqb_sym : (m n : ℕ) → (m == n) ≡ (n == m)
eqb_sym m n = go (m == n) refl
  where
    go : (b : Bool) → (m == n) ≡ b → b ≡ (n == m)
    go true e = sym (eq-eqb n m (sym (eqb-true m n e)))
    go false e = sym (ne_eqb n m (λ k. eqb-false m n e (sym k)))

-- an activation has the number that it is found by
pub number_of : (n : ActId) (xs : List Activation) (a : Activation) → activation_of n xs ≡ Some a → a.act.0 ≡ n.0
number_of n [] a e = absurd (cc)
number_of n (x ∷ xs) a e = go (x.act.0 == n.0) refl (number_of n xs a) e
  where
    go : (b : Bool) → (x.act.0 == n.0) ≡ b → (activation_of n xs ≡ Some a → a.act.0 ≡ n.0) → cond b (Some x) (activation_of n xs) ≡ Some a → a.act.0 ≡ n.0
    go true t r f = let same : x ≡ a = cc in ap (λ y. y.act.0) (sym same) ∙ eqb-true x.act.0 n.0 t
    go false t r f = r f

-- those whose numbers don't meet a test
abbrev pub those : (ActId → Bool) → List Activation → List Activation
those p xs = filter (λ a. not (p a.act)) xs

module _ (p : ActId → Bool) where
  pub lookup_those : (n : ActId) (xs : List Activation) → activation_of n (those p xs) ≡ cond (p n) None (activation_of n xs)
  lookup_those n [] = go (p n)
    where
      go : (b : Bool) → activation_of n [] ≡ cond b None None
      go true = refl
      go false = refl
  lookup_those n (x ∷ xs) = go (x.act.0 == n.0) refl (p x.act) refl (p n) refl (lookup_those n xs)
    where
      one : (x.act.0 == n.0) ≡ true → p x.act ≡ p n
      one e = ap p (act_same x.act n (eqb-true x.act.0 n.0 e))

      go : (t : Bool) → (x.act.0 == n.0) ≡ t → (q : Bool) → p x.act ≡ q → (r : Bool) → p n ≡ r → activation_of n (those p xs) ≡ cond r None (activation_of n xs)
          → activation_of n (cond (not q) (x ∷ those p xs) (those p xs)) ≡ cond r None (cond t (Some x) (activation_of n xs))
      go true e true f true g h = h
      go true e true f false g h = absurd (let k = one e in (cc))
      go true e false f true g h = absurd (let k = one e in (cc))
      go true e false f false g h = cond-true _ _ _ e
      go false e true f r g h = h
      go false e false f r g h = cond-false _ _ _ e ∙ h

  -- what is found among those is found among all, and its number doesn't meet the test
  pub found_those : (n : ActId) (xs : List Activation) (a : Activation) → activation_of n (those p xs) ≡ Some a → (activation_of n xs ≡ Some a) × (p n ≡ false)
  found_those n xs a e = go (p n) refl (sym (lookup_those n xs) ∙ e)
    where
      go : (b : Bool) → p n ≡ b → cond b None (activation_of n xs) ≡ Some a → (activation_of n xs ≡ Some a) × (p n ≡ false)
      go true f g = absurd (cc)
      go false f g = (g, f)

  pub numbered_those : (n low : ℕ) (xs : List Activation) → low ≤ n → AreCountedFrom n xs → AreNumberedFrom low (those p xs) (n + length xs)
  numbered_those n low [] l c = omega (arith, l)
  numbered_those n low (x ∷ xs) l c = go (p x.act) (numbered_those (n + 1) (x.act.0 + 1) xs (omega (arith, c.0)) c.1) (numbered_those (n + 1) low xs (omega (arith, l)) c.1)
    where
      same : (n + 1) + length xs ≡ n + length (x ∷ xs)
      same = omega arith

      go : (b : Bool) → AreNumberedFrom (x.act.0 + 1) (those p xs) ((n + 1) + length xs) → AreNumberedFrom low (those p xs) ((n + 1) + length xs)
          → AreNumberedFrom low (cond (not b) (x ∷ those p xs) (those p xs)) (n + length (x ∷ xs))
      go true h k = subst (λ m. AreNumberedFrom low (those p xs) m) same k
      go false h k = (omega (arith, l, c.0), subst (λ m. AreNumberedFrom (x.act.0 + 1) (those p xs) m) same h)

-- those without one more number
pub without_those : (p : ActId → Bool) (n : ActId) (xs : List Activation) → filter (λ a. not (p a.act || (n.0 == a.act.0))) xs ≡ without n (those p xs)
without_those p n [] = refl
without_those p n (x ∷ xs) = go (p x.act) (without_those p n xs)
  where
    go : (q : Bool) → filter (λ a. not (p a.act || (n.0 == a.act.0))) xs ≡ without n (those p xs)
        → cond (not (q || (n.0 == x.act.0))) (x ∷ filter (λ a. not (p a.act || (n.0 == a.act.0))) xs) (filter (λ a. not (p a.act || (n.0 == a.act.0))) xs) ≡ without n (cond (not q) (x ∷ those p xs) (those p xs))
    go true h = h
    go false h = ap (λ y. cond (not (n.0 == x.act.0)) (x ∷ y) y) h ∙ ap (λ b. cond (not b) (x ∷ without n (those p xs)) (without n (those p xs))) (eqb_sym n.0 x.act.0)

-- where numbers rise, each is found by its number
pub each_found : (low : ℕ) (xs : List Activation) (end : ℕ) → AreNumberedFrom low xs end → All (λ a. (low ≤ a.act.0) × (activation_of a.act xs ≡ Some a)) xs
each_found low [] end h = All-nil (λ a. (low ≤ a.act.0) × (activation_of a.act [] ≡ Some a))
each_found low (x ∷ xs) end h =
    All-cons (λ a. (low ≤ a.act.0) × (activation_of a.act (x ∷ xs) ≡ Some a)) x xs (h.0, cond-true (x.act.0 == x.act.0) (Some x) (activation_of x.act xs) (eq-eqb x.act.0 x.act.0 refl))
    (λ k d l. one (get_or xs k d) (each_found (x.act.0 + 1) xs end h.1 k d l))
  where
    one : (a : Activation) → (x.act.0 + 1 ≤ a.act.0) × (activation_of a.act xs ≡ Some a) → (low ≤ a.act.0) × (activation_of a.act (x ∷ xs) ≡ Some a)
    one a r = (omega (arith, h.0, r.0), cond-false (x.act.0 == a.act.0) (Some x) (activation_of a.act xs) (ne_eqb x.act.0 a.act.0 (λ e. omega (arith, e, r.0))) ∙ r.1)

-- numbers above n: nothing has the number n, and nothing is left out
pub without_above : (n : ActId) (low : ℕ) (xs : List Activation) (end : ℕ) → n.0 < low → AreNumberedFrom low xs end → without n xs ≡ xs
without_above n low [] end l h = refl
without_above n low (x ∷ xs) end l h =
    let e : (x.act.0 == n.0) ≡ false = ne_eqb x.act.0 n.0 (λ k. omega (arith, k, l, h.0)) in
    ap (λ b. cond (not b) (x ∷ without n xs) (without n xs)) e ∙ ap (λ y. x ∷ y) (without_above n (x.act.0 + 1) xs end (omega (arith, l, h.0)) h.1)

-- one for an activation of the operation
abbrev pub one : Activation → OpId → ℕ
one x a = cond (x.op.0 == a.0) 1 0

-- what the one that is left out takes along
pub record Left (n : ActId) (xs : List Activation) (a : Activation) : Type 0 where
  pub fewer : length (without n xs) + 1 ≡ length xs
  pub counts : (b : OpId) → live_count b (without n xs) + one a b ≡ live_count b xs

pub left_out : (n : ActId) (low : ℕ) (xs : List Activation) (end : ℕ) (a : Activation) → AreNumberedFrom low xs end → activation_of n xs ≡ Some a → Left n xs a
left_out n low [] end a h e = absurd (cc)
left_out n low (x ∷ xs) end a h e = go (x.act.0 == n.0) refl (left_out n (x.act.0 + 1) xs end a h.1) e
  where
    go : (b : Bool) → (x.act.0 == n.0) ≡ b → (activation_of n xs ≡ Some a → Left n xs a) → cond b (Some x) (activation_of n xs) ≡ Some a → Left n (x ∷ xs) a
    go true t r f =
        let same : x ≡ a = cc in
        let rest = without_above n (x.act.0 + 1) xs end (let k = eqb-true x.act.0 n.0 t in omega (arith, k)) h.1 in
        let all : without n (x ∷ xs) ≡ xs = ap (λ b. cond (not b) (x ∷ without n xs) (without n xs)) t ∙ rest in
        record {
          fewer = let k = ap length all in omega (arith, k);
          counts = λ b. (let k = ap (live_count b) all in let m = ap (λ y. one y b) same in omega (arith, k, m));
        }
    go false t r f =
        let k = r f in
        let all : without n (x ∷ xs) ≡ x ∷ without n xs = ap (λ b. cond (not b) (x ∷ without n xs) (without n xs)) t in
        record {
          fewer = let m = ap length all in omega (arith, m, k.fewer);
          counts = λ b. (let m = ap (live_count b) all in let c = k.counts b in omega (arith, m, c));
        }

one_self : (a : Activation) → one a a.op ≡ 1
one_self a = cond-true _ _ _ (eq-eqb a.op.0 a.op.0 refl)

pub some_found : (n : ActId) (low : ℕ) (xs : List Activation) (end : ℕ) (a : Activation) → AreNumberedFrom low xs end → activation_of n xs ≡ Some a → 0 < live_count a.op xs
some_found n low xs end a h e = let k = (left_out n low xs end a h e).counts a.op in let m = one_self a in omega (arith, k, m)

pub count_more : (b : OpId) (xs : List Activation) (a : Activation) → live_count b (xs ++ a ∷ []) ≡ live_count b xs + one a b
count_more b [] a = omega arith
count_more b (x ∷ xs) a = let k = count_more b xs a in omega (arith, k)

pub counted_more : (n : ℕ) (xs : List Activation) (a : Activation) → AreCountedFrom n xs → a.act.0 ≡ n + length xs → AreCountedFrom n (xs ++ a ∷ [])
counted_more n [] a c e = (omega (arith, e), tt)
counted_more n (x ∷ xs) a c e = (c.0, counted_more (n + 1) xs a c.1 (omega (arith, e)))

pub numbered_end : (low : ℕ) (xs : List Activation) (end : ℕ) → AreNumberedFrom low xs end → low ≤ end
numbered_end low [] end h = h
numbered_end low (x ∷ xs) end h = let k = numbered_end (x.act.0 + 1) xs end h.1 in omega (arith, k, h.0)

pub found_below : (n : ActId) (low : ℕ) (xs : List Activation) (end : ℕ) (a : Activation) → AreNumberedFrom low xs end → activation_of n xs ≡ Some a → n.0 < end
found_below n low [] end a h e = absurd (cc)
found_below n low (x ∷ xs) end a h e = go (x.act.0 == n.0) refl (found_below n (x.act.0 + 1) xs end a h.1) e
  where
    go : (b : Bool) → (x.act.0 == n.0) ≡ b → (activation_of n xs ≡ Some a → n.0 < end) → cond b (Some x) (activation_of n xs) ≡ Some a → n.0 < end
    go true t r f = let k = eqb-true x.act.0 n.0 t in let m = numbered_end (x.act.0 + 1) xs end h.1 in omega (arith, k, m)
    go false t r f = r f
