-- How often operations began and ended, after one more event.
use Rattle.std.proofs.Common.{◌≡◌, ◌+◌, ◌-◌, ◌<◌, ◌≤◌, ◌==◌, ℕ, cond, Bool, true, false, List, [], ◌∷◌, ◌++◌, length, get_or, arith, refl, sym, subst, inl, inr}
use Rattle.std.proofs.Math.ListN.{set}
use Rattle.std.proofs.lemmas.List.{get_or-set_other, get_or-set_same}
use Rattle.std.proofs.lemmas.Bool.{cases_eq, cond_both, cond-true, cond-false, eq-eqb, ne_eqb}
use Rattle.path_model.specs.declared.ids.OpId.{OpId}
use Rattle.path_model.specs.declared.history.Event.{Event}
use Rattle.path_model.specs.declared.history.Event.TheVariants.{Began, Ended}
use Rattle.path_model.specs.Histories.{begun, ended, starts_in}

begun_grow : (a : OpId) (b : Bool) (x y z : ℕ) → x ≡ y + z → cond b (x + 1) x ≡ cond b (y + 1) y + z
begun_grow a true x y z e = omega arith
begun_grow a false x y z e = e

pub begun_snoc : (a : OpId) (h : List Event) (e : Event) → begun a (h ++ e ∷ []) ≡ begun a h + begun a (e ∷ [])
begun_snoc a [] e = omega arith
begun_snoc a (Began b ∷ h) e = begun_grow a (b.0 == a.0) (begun a (h ++ e ∷ [])) (begun a h) (begun a (e ∷ [])) (begun_snoc a h e)
begun_snoc a (Ended b ∷ h) e = begun_snoc a h e

pub ended_snoc : (a : OpId) (h : List Event) (e : Event) → ended a (h ++ e ∷ []) ≡ ended a h + ended a (e ∷ [])
ended_snoc a [] e = omega arith
ended_snoc a (Ended b ∷ h) e = begun_grow a (b.0 == a.0) (ended a (h ++ e ∷ [])) (ended a h) (ended a (e ∷ [])) (ended_snoc a h e)
ended_snoc a (Began b ∷ h) e = ended_snoc a h e

pub starts_snoc : (h : List Event) (e : Event) → starts_in (h ++ e ∷ []) ≡ starts_in h + starts_in (e ∷ [])
starts_snoc [] e = omega arith
starts_snoc (Began b ∷ h) e = let r = starts_snoc h e in omega arith
starts_snoc (Ended b ∷ h) e = starts_snoc h e

pub begun_few : (a : OpId) (h : List Event) → begun a h ≤ starts_in h
begun_few a [] = omega arith
begun_few a (Began b ∷ h) =
    let r = begun_few a h in
    cond_both (b.0 == a.0) (begun a h + 1) (begun a h) (λ n. n ≤ starts_in h + 1) (λ _. omega arith) (λ _. omega arith)
begun_few a (Ended b ∷ h) = begun_few a h

-- the counts after a start of an operation that has terms
pub counts_start : (counts : List ℕ) (a b : OpId) (h : List Event) → b.0 < length counts → get_or counts a.0 0 + ended a h ≡ begun a h
    → get_or (set counts b.0 (get_or counts b.0 0 + 1)) a.0 0 + ended a (h ++ Began b ∷ []) ≡ begun a (h ++ Began b ∷ [])
counts_start counts a b h l r = elim (cases_eq a.0 b.0) [
  | inl e ↦
      let same : get_or (set counts b.0 (get_or counts b.0 0 + 1)) a.0 0 ≡ get_or counts a.0 0 + 1 = subst (λ y. get_or (set counts b.0 (get_or counts b.0 0 + 1)) y 0 ≡ get_or counts y 0 + 1) (sym e) (get_or-set_same counts b.0 (get_or counts b.0 0 + 1) 0 l) in
      let one : begun a (Began b ∷ []) ≡ 1 = cond-true (b.0 == a.0) (0 + 1) 0 (eq-eqb b.0 a.0 (sym e)) in
      let x = begun_snoc a h (Began b) in
      let y = ended_snoc a h (Began b) in
      let z : ended a (Began b ∷ []) ≡ 0 = refl in
      omega arith
  | inr n ↦
      let same : get_or (set counts b.0 (get_or counts b.0 0 + 1)) a.0 0 ≡ get_or counts a.0 0 = get_or-set_other counts b.0 a.0 (get_or counts b.0 0 + 1) 0 n in
      let one : begun a (Began b ∷ []) ≡ 0 = cond-false (b.0 == a.0) (0 + 1) 0 (ne_eqb b.0 a.0 (λ q. n (sym q))) in
      let x = begun_snoc a h (Began b) in
      let y = ended_snoc a h (Began b) in
      let z : ended a (Began b ∷ []) ≡ 0 = refl in
      omega arith
]

-- the counts after a finish of an operation that has terms and is in progress
pub counts_finish : (counts : List ℕ) (a b : OpId) (h : List Event) → b.0 < length counts → 0 < get_or counts b.0 0 → get_or counts a.0 0 + ended a h ≡ begun a h
    → get_or (set counts b.0 (get_or counts b.0 0 - 1)) a.0 0 + ended a (h ++ Ended b ∷ []) ≡ begun a (h ++ Ended b ∷ [])
counts_finish counts a b h l some r = elim (cases_eq a.0 b.0) [
  | inl e ↦
      let same : get_or (set counts b.0 (get_or counts b.0 0 - 1)) a.0 0 + 1 ≡ get_or counts a.0 0 = subst (λ y. get_or (set counts b.0 (get_or counts b.0 0 - 1)) y 0 + 1 ≡ get_or counts y 0) (sym e) (let g = get_or-set_same counts b.0 (get_or counts b.0 0 - 1) 0 l in omega arith) in
      let one : ended a (Ended b ∷ []) ≡ 1 = cond-true (b.0 == a.0) (0 + 1) 0 (eq-eqb b.0 a.0 (sym e)) in
      let x = begun_snoc a h (Ended b) in
      let y = ended_snoc a h (Ended b) in
      let z : begun a (Ended b ∷ []) ≡ 0 = refl in
      omega arith
  | inr n ↦
      let same : get_or (set counts b.0 (get_or counts b.0 0 - 1)) a.0 0 ≡ get_or counts a.0 0 = get_or-set_other counts b.0 a.0 (get_or counts b.0 0 - 1) 0 n in
      let one : ended a (Ended b ∷ []) ≡ 0 = cond-false (b.0 == a.0) (0 + 1) 0 (ne_eqb b.0 a.0 (λ q. n (sym q))) in
      let x = begun_snoc a h (Ended b) in
      let y = ended_snoc a h (Ended b) in
      let z : begun a (Ended b ∷ []) ≡ 0 = refl in
      omega arith
]

-- other events leave a count
pub counts_other : (counts : List ℕ) (a b : OpId) (h : List Event) → (a.0 ≡ b.0 → ⊥) → get_or counts a.0 0 + ended a h ≡ begun a h
    → (get_or counts a.0 0 + ended a (h ++ Began b ∷ []) ≡ begun a (h ++ Began b ∷ [])) × (get_or counts a.0 0 + ended a (h ++ Ended b ∷ []) ≡ begun a (h ++ Ended b ∷ []))
counts_other counts a b h n r =
    let one : begun a (Began b ∷ []) ≡ 0 = cond-false (b.0 == a.0) (0 + 1) 0 (ne_eqb b.0 a.0 (λ q. n (sym q))) in
    let two : ended a (Ended b ∷ []) ≡ 0 = cond-false (b.0 == a.0) (0 + 1) 0 (ne_eqb b.0 a.0 (λ q. n (sym q))) in
    let x = begun_snoc a h (Began b) in
    let y = ended_snoc a h (Began b) in
    let u = begun_snoc a h (Ended b) in
    let w = ended_snoc a h (Ended b) in
    let z : ended a (Began b ∷ []) ≡ 0 = refl in
    let o : begun a (Ended b ∷ []) ≡ 0 = refl in
    (omega arith, omega arith)
