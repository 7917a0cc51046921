-- The live activations are at the indices of their numbers.
use Rattle.std.proofs.Common.{◌≡◌, ℕ, ◌+◌, ◌<◌, ◌≤◌, suc, zero, List, [], ◌∷◌, ◌++◌, length, get_or, arith, refl, ap, sym, ◌∙◌, Option, Some, None, ne_eqb, eq-eqb, inl, inr}
use Rattle.std.proofs.Math.ListN.{set}
use Rattle.std.specs.Prelude.{◌==◌, true, false, is_some}
use Rattle.std.proofs.lemmas.Bool.{cases_eq, cases_lt, cond-true, cond-false}
use Rattle.path_model.specs.declared.ids.ActId.{ActId}
use Rattle.path_model.specs.declared.journal.Activation.{Activation}
use Rattle.path_model.specs.Journals.{activation_of, without}
use Rattle.path_audit.specs.declared.activations.Owner.{Owner}
use Rattle.path_audit.specs.Inner.Owners.{owned, live_from}

-- the activation of an owner
abbrev pub activation : ℕ → Owner → Activation
activation n o = record { act = record { 0 = n }; worker = o.worker; op = o.op }

-- no more are live than were begun
pub few : (k : ℕ) (xs : List (Option Owner)) → length (live_from k xs) ≤ length xs
few k [] = omega arith
few k (None ∷ xs) = let rest = few (k + 1) xs in omega arith
few k (Some o ∷ xs) = let rest = few (k + 1) xs in omega arith

-- one more at the end
pub more : (k m : ℕ) (xs : List (Option Owner)) (o : Owner) → m ≡ k + length xs → live_from k (xs ++ Some o ∷ []) ≡ live_from k xs ++ activation m o ∷ []
more k m [] o e = let same : k ≡ m = omega arith in ap (λ j. activation j o ∷ []) same
more k m (None ∷ xs) o e = more (k + 1) m xs o (omega arith)
more k m (Some p ∷ xs) o e = ap (λ rest. activation k p ∷ rest) (more (k + 1) m xs o (omega arith))

-- none more at the end
pub no_more : (k : ℕ) (xs : List (Option Owner)) → live_from k (xs ++ None ∷ []) ≡ live_from k xs
no_more k [] = refl
no_more k (None ∷ xs) = no_more (k + 1) xs
no_more k (Some p ∷ xs) = ap (λ rest. activation k p ∷ rest) (no_more (k + 1) xs)

-- one less
pub fewer : (k i : ℕ) (xs : List (Option Owner)) (d : Option Owner) (o : Owner) → i < length xs → get_or xs i d ≡ Some o
    → length (live_from k (set xs i None)) + 1 ≡ length (live_from k xs)
fewer k i [] d o h is = absurd (omega arith)
fewer k zero (None ∷ xs) d o h is = absurd (cc)
fewer k zero (Some p ∷ xs) d o h is = omega arith
fewer k (suc i) (None ∷ xs) d o h is = fewer (k + 1) i xs d o (omega arith) is
fewer k (suc i) (Some p ∷ xs) d o h is = let rest = fewer (k + 1) i xs d o (omega arith) is in omega arith

module _ (n : ActId) where
  -- a number below the first is of none
  early : (k : ℕ) (xs : List (Option Owner)) → n.0 < k → activation_of n (live_from k xs) ≡ None
  early k [] h = refl
  early k (None ∷ xs) h = early (k + 1) xs (omega arith)
  early k (Some o ∷ xs) h = cond-false _ _ _ (ne_eqb k n.0 (λ e. omega arith)) ∙ early (k + 1) xs (omega arith)

  -- so is one past the last
  pub late : (k : ℕ) (xs : List (Option Owner)) → k + length xs ≤ n.0 → activation_of n (live_from k xs) ≡ None
  late k [] h = refl
  late k (None ∷ xs) h = late (k + 1) xs (omega arith)
  late k (Some o ∷ xs) h = cond-false _ _ _ (ne_eqb k n.0 (λ e. omega arith)) ∙ late (k + 1) xs (omega arith)

  -- the activation at the place of its number
  pub here : (k i : ℕ) (xs : List (Option Owner)) (d : Option Owner) → n.0 ≡ k + i → i < length xs → activation_of n (live_from k xs) ≡ owned n.0 (get_or xs i d)
  here k i [] d e h = absurd (omega arith)
  here k zero (None ∷ xs) d e h = early (k + 1) xs (omega arith)
  here k zero (Some o ∷ xs) d e h = let same : k ≡ n.0 = omega arith in cond-true _ _ _ (eq-eqb k n.0 same) ∙ ap (λ m. Some (activation m o)) same
  here k (suc i) (None ∷ xs) d e h = here (k + 1) i xs d (omega arith) (omega arith)
  here k (suc i) (Some o ∷ xs) d e h = cond-false _ _ _ (ne_eqb k n.0 (λ f. omega arith)) ∙ here (k + 1) i xs d (omega arith) (omega arith)

  -- none is left out for a number below the first
  without_early : (k : ℕ) (xs : List (Option Owner)) → n.0 < k → without n (live_from k xs) ≡ live_from k xs
  without_early k [] h = refl
  without_early k (None ∷ xs) h = without_early (k + 1) xs (omega arith)
  without_early k (Some o ∷ xs) h = let rest = without_early (k + 1) xs (omega arith) in rw (ne_eqb k n.0 (λ e. omega arith)) (ap (λ r. activation k o ∷ r) rest)

  -- the place of the number is emptied
  pub without_here : (k i : ℕ) (xs : List (Option Owner)) → n.0 ≡ k + i → i < length xs → without n (live_from k xs) ≡ live_from k (set xs i None)
  without_here k i [] e h = absurd (omega arith)
  without_here k zero (None ∷ xs) e h = without_early (k + 1) xs (omega arith)
  without_here k zero (Some o ∷ xs) e h = rw (eq-eqb k n.0 (omega arith)) (without_early (k + 1) xs (omega arith))
  without_here k (suc i) (None ∷ xs) e h = without_here (k + 1) i xs (omega arith) (omega arith)
  without_here k (suc i) (Some o ∷ xs) e h = let rest = without_here (k + 1) i xs (omega arith) (omega arith) in rw (ne_eqb k n.0 (λ f. omega arith)) (ap (λ r. activation k o ∷ r) rest)

  -- none is left out where none has the number
  pub nowhere : (xs : List Activation) → activation_of n xs ≡ None → without n xs ≡ xs
  nowhere [] h = refl
  nowhere (a ∷ xs) h = elim (cases_eq a.act.0 n.0) [
    | inl same ↦ absurd (let found : activation_of n (a ∷ xs) ≡ Some a = cond-true _ _ _ (eq-eqb a.act.0 n.0 same) in cc)
    | inr other ↦ (let apart : (a.act.0 == n.0) ≡ false = ne_eqb a.act.0 n.0 other in
        let behind : activation_of n xs ≡ None = sym (cond-false _ _ _ apart) ∙ h in
        rw apart (ap (λ r. a ∷ r) (nowhere xs behind)))
  ]

  -- what is found stands at its place
  pub found : (xs : List (Option Owner)) (a : Activation) → activation_of n (live_from 0 xs) ≡ Some a → n.0 < length xs
  found xs a is = elim (cases_lt n.0 (length xs)) [
    | inl within ↦ within
    | inr past ↦ absurd (let none = late 0 xs (omega arith) in cc)
  ]

  -- and that place has an owner
  pub held : (xs : List (Option Owner)) (a : Activation) (d : Option Owner) → activation_of n (live_from 0 xs) ≡ Some a → (o : Owner) × (get_or xs n.0 d ≡ Some o)
  held xs a d is = go (get_or xs n.0 d) refl
    where
      go : (p : Option Owner) → get_or xs n.0 d ≡ p → (o : Owner) × (get_or xs n.0 d ≡ Some o)
      go (Some o) e = (o, e)
      go None e = absurd (let at = here 0 n.0 xs d (omega arith) (found xs a is) in let none : activation_of n (live_from 0 xs) ≡ None = at ∙ ap (owned n.0) e in cc)

-- what there is
pub there_is : {A : Type 0} (o : Option A) → is_some o ≡ true → (a : A) × (o ≡ Some a)
there_is (Some a) h = (a, refl)
there_is None h = absurd (cc)

pub there_is_none : {A : Type 0} (o : Option A) → is_some o ≡ false → o ≡ None
there_is_none (Some a) h = absurd (cc)
there_is_none None h = refl
