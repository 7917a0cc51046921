-- The values of a path that stands so are those that a walk over its tree finds.
use Rattle.std.proofs.Common.{◌≡◌, ◌⊎◌, ◌+◌, ◌-◌, ◌<◌, ◌≤◌, ℕ, zero, suc, cond, List, ◌∷◌, ◌++◌, length, get_or, arith, refl, sym, ap, ◌∙◌, inl, inr}
use Rattle.std.specs.Prelude.{nat_lt}
use Rattle.std.proofs.lemmas.Bool.{cases_lt, cases_eq, cond-true, cond-false, lt-ltb, le-ltb}
use Rattle.std.proofs.lemmas.List.{get_or_append_left, get_or-append-add}
use Rattle.path_model.specs.declared.ids.OpId.{OpId}
use Rattle.path_model.specs.Trees.{Tree, op, seq, alt, burst, any, most}
use Rattle.path_model.specs.Machine.{semicolons, braces, Values}
use Rattle.path_model.specs.Flat.{counted_braces, HasBound, rank}
use Rattle.path_model.proofs.CallerLemmas.{rank_before, rank_after, rank_low, bound_within}
use Rattle.path_state.specs.Pasts.{underway}
use Rattle.path_state.specs.Values.{PartsStand}
use Rattle.path_standings.specs.Numbers.{spares, tallies}
use Rattle.path_standings.proofs.Fits.{spares_long, tallies_long}

-- each bound's semaphore has a number
pub bound_of : (s : Tree) (m k : ℕ) → k < counted_braces s → (c : ℕ) × (HasBound s m c × (rank s m c ≡ k))
bound_of (op a) m k l = absurd (omega (arith, l))
bound_of (seq s t) m k l = elim (cases_lt k (counted_braces s)) [
  | inl low ↦ let b = bound_of s m k low in let w = bound_within s m b.0 b.1.0 in (b.0, (inl b.1.0, omega (arith, b.1.1, rank_before t (m + braces s) b.0 (omega (arith, w.1)))))
  | inr high ↦ let b = bound_of t (m + braces s) (k - counted_braces s) (omega (arith, high, l)) in
      let w = bound_within t (m + braces s) b.0 b.1.0 in (b.0, (inr b.1.0, omega (arith, high, b.1.1, rank_after s m b.0 w.0)))
]
bound_of (alt s t) m k l = elim (cases_lt k (counted_braces s)) [
  | inl low ↦ let b = bound_of s m k low in let w = bound_within s m b.0 b.1.0 in (b.0, (inl b.1.0, omega (arith, b.1.1, rank_before t (m + braces s) b.0 (omega (arith, w.1)))))
  | inr high ↦ let b = bound_of t (m + braces s) (k - counted_braces s) (omega (arith, high, l)) in
      let w = bound_within t (m + braces s) b.0 b.1.0 in (b.0, (inr b.1.0, omega (arith, high, b.1.1, rank_after s m b.0 w.0)))
]
bound_of (burst any s) m k l =
    let b = bound_of s (m + 1) k (omega (arith, l)) in
    let w = bound_within s (m + 1) b.0 b.1.0 in
    let none : ◌≡◌ {A = ℕ} (cond (nat_lt m b.0) 0 0) 0 = cond-true (nat_lt m b.0) 0 0 (lt-ltb m b.0 (omega (arith, w.0))) in
    (b.0, (inr b.1.0, omega (arith, none, b.1.1)))
bound_of (burst (most n) s) m zero l =
    let none : ◌≡◌ {A = ℕ} (cond (nat_lt m m) 1 0) 0 = cond-false (nat_lt m m) 1 0 (le-ltb m m (omega arith)) in
    (m, (inl (tt, refl), omega (arith, none, rank_before s (m + 1) m (omega arith))))
bound_of (burst (most n) s) m (suc k) l =
    let b = bound_of s (m + 1) k (omega (arith, l)) in
    let w = bound_within s (m + 1) b.0 b.1.0 in
    let one : ◌≡◌ {A = ℕ} (cond (nat_lt m b.0) 1 0) 1 = cond-true (nat_lt m b.0) 1 0 (lt-ltb m b.0 (omega (arith, w.0))) in
    (b.0, (inr b.1.0, omega (arith, one, b.1.1)))

-- a number of the first of two lists, and of the second
in_left : (x y : List ℕ) (i j : ℕ) → i ≡ j → j < length x → get_or (x ++ y) i 0 ≡ get_or x j 0
in_left x y i j e l = ap (λ k. get_or (x ++ y) k 0) e ∙ get_or_append_left x y 0 j l

in_right : (x y : List ℕ) (i j : ℕ) → i ≡ length x + j → get_or (x ++ y) i 0 ≡ get_or y j 0
in_right x y i j e = ap (λ k. get_or (x ++ y) k 0) e ∙ get_or-append-add x y j 0

module _ (progress : OpId → ℕ) (row : List ℕ) (v : Values) where
  -- the semaphore of each `;`
  pub row_value : (t : Tree) (place m : ℕ) → PartsStand t place m progress row v → (k : ℕ) → place ≤ k → k < place + semicolons t → v.semaphore (k + 1) ≡ get_or row k 0
  row_value (op a) place m p k low high = absurd (omega (arith, low, high))
  row_value (seq l r) place m p k low high = elim (cases_lt k (place + semicolons l)) [
    | inl before ↦ row_value l place m p.0 k low before
    | inr behind ↦ elim (cases_eq k (place + semicolons l)) [
      | inl here ↦ ap v.semaphore (omega (arith, here)) ∙ p.2 ∙ ap (λ i. get_or row i 0) (sym here)
      | inr apart ↦ row_value r (place + semicolons l + 1) (m + braces l) p.1 k (omega (arith, behind, apart)) (omega (arith, high))
    ]
  ]
  row_value (alt l r) place m p k low high = elim (cases_lt k (place + semicolons l)) [
    | inl before ↦ row_value l place m p.0 k low before
    | inr behind ↦ row_value r (place + semicolons l) (m + braces l) p.1 k behind (omega (arith, high))
  ]
  row_value (burst bd t) place m p k low high = row_value t place (m + 1) p.0 k low high

  two_counters : (l r : Tree) (place behind m c : ℕ) → c < braces l + braces r
      → ((i : ℕ) → i < braces l → v.counter (m + i) ≡ get_or (tallies l place progress row) i 0)
      → ((i : ℕ) → i < braces r → v.counter (m + braces l + i) ≡ get_or (tallies r behind progress row) i 0)
      → v.counter (m + c) ≡ get_or (tallies l place progress row ++ tallies r behind progress row) c 0
  two_counters l r place behind m c h f g = elim (cases_lt c (braces l)) [
    | inl low ↦ f c low ∙ sym (in_left (tallies l place progress row) (tallies r behind progress row) c c refl (omega (arith, low, tallies_long progress row l place)))
    | inr high ↦
        ap v.counter (omega (arith, high)) ∙ g (c - braces l) (omega (arith, high, h))
        ∙ sym (in_right (tallies l place progress row) (tallies r behind progress row) c (c - braces l) (omega (arith, high, tallies_long progress row l place)))
  ]

  -- the counter of each pair of braces
  pub tally_value : (t : Tree) (place m : ℕ) → PartsStand t place m progress row v → (c : ℕ) → c < braces t → v.counter (m + c) ≡ get_or (tallies t place progress row) c 0
  tally_value (op a) place m p c h = absurd (omega (arith, h))
  tally_value (seq l r) place m p c h = two_counters l r place (place + semicolons l + 1) m c h (tally_value l place m p.0) (tally_value r (place + semicolons l + 1) (m + braces l) p.1)
  tally_value (alt l r) place m p c h = two_counters l r place (place + semicolons l) m c h (tally_value l place m p.0) (tally_value r (place + semicolons l) (m + braces l) p.1)
  tally_value (burst bd t) place m p zero h = ap v.counter (omega arith) ∙ p.1
  tally_value (burst bd t) place m p (suc c) h = ap v.counter (omega arith) ∙ tally_value t place (m + 1) p.0 c (omega (arith, h))

  two_bounds : (l r : Tree) (place behind m c : ℕ) → HasBound l m c ⊎ HasBound r (m + braces l) c
      → (HasBound l m c → v.bound c ≡ get_or (spares l place progress row) (rank l m c) 0)
      → (HasBound r (m + braces l) c → v.bound c ≡ get_or (spares r behind progress row) (rank r (m + braces l) c) 0)
      → v.bound c ≡ get_or (spares l place progress row ++ spares r behind progress row) (rank l m c + rank r (m + braces l) c) 0
  two_bounds l r place behind m c (inl h) f g =
      let w = bound_within l m c h in
      f h ∙ sym (in_left (spares l place progress row) (spares r behind progress row) (rank l m c + rank r (m + braces l) c) (rank l m c)
      (omega (arith, rank_before r (m + braces l) c (omega (arith, w.1)))) (omega (arith, rank_low l m c h, spares_long progress row l place)))
  two_bounds l r place behind m c (inr h) f g =
      let w = bound_within r (m + braces l) c h in
      g h ∙ sym (in_right (spares l place progress row) (spares r behind progress row) (rank l m c + rank r (m + braces l) c) (rank r (m + braces l) c)
      (omega (arith, rank_after l m c w.0, spares_long progress row l place)))

  -- the semaphore of each bound
  pub spare_value : (t : Tree) (place m : ℕ) → PartsStand t place m progress row v → (c : ℕ) → HasBound t m c → v.bound c ≡ get_or (spares t place progress row) (rank t m c) 0
  spare_value (op a) place m p c h = absurd h
  spare_value (seq l r) place m p c h = two_bounds l r place (place + semicolons l + 1) m c h (spare_value l place m p.0 c) (spare_value r (place + semicolons l + 1) (m + braces l) p.1 c)
  spare_value (alt l r) place m p c h = two_bounds l r place (place + semicolons l) m c h (spare_value l place m p.0 c) (spare_value r (place + semicolons l) (m + braces l) p.1 c)
  spare_value (burst any t) place m p c (inl h) = absurd h.0
  spare_value (burst any t) place m p c (inr h) =
      let w = bound_within t (m + 1) c h in
      let none : ◌≡◌ {A = ℕ} (cond (nat_lt m c) 0 0) 0 = cond-true (nat_lt m c) 0 0 (lt-ltb m c (omega (arith, w.0))) in
      let i : cond (nat_lt m c) 0 0 + rank t (m + 1) c ≡ rank t (m + 1) c = omega (arith, none) in
      spare_value t place (m + 1) p.0 c h ∙ sym (ap (λ k. get_or (spares t place progress row) k 0) i)
  spare_value (burst (most n) t) place m p c (inl h) =
      let e = h.1 in
      let none : ◌≡◌ {A = ℕ} (cond (nat_lt m c) 1 0) 0 = cond-false (nat_lt m c) 1 0 (le-ltb m c (omega (arith, e))) in
      let i : cond (nat_lt m c) 1 0 + rank t (m + 1) c ≡ 0 = omega (arith, none, rank_before t (m + 1) c (omega (arith, e))) in
      let here : v.bound m ≡ n - underway t place progress row = omega (arith, p.1, p.2) in
      ap v.bound e ∙ here ∙ sym (ap (λ k. get_or ((n - underway t place progress row) ∷ spares t place progress row) k 0) i)
  spare_value (burst (most n) t) place m p c (inr h) =
      let w = bound_within t (m + 1) c h in
      let one : ◌≡◌ {A = ℕ} (cond (nat_lt m c) 1 0) 1 = cond-true (nat_lt m c) 1 0 (lt-ltb m c (omega (arith, w.0))) in
      let i : cond (nat_lt m c) 1 0 + rank t (m + 1) c ≡ suc (rank t (m + 1) c) = omega (arith, one) in
      spare_value t place (m + 1) p.0 c h ∙ sym (ap (λ k. get_or ((n - underway t place progress row) ∷ spares t place progress row) k 0) i)
