-- How many executions are underway where a path stands so.
use Rattle.std.proofs.Common.{◌≡◌, ◌⊎◌, ◌==◌, ◌<◌, ◌≤◌, ◌+◌, ◌-◌, ℕ, suc, List, [], ◌∷◌, ◌++◌, length, get_or, refl, sym, ap, ◌∙◌, subst, inl, inr, arith, append_assoc, append-nil, length-append}
use Rattle.std.proofs.Math.Seq.{get_or-append_seam}
use Rattle.std.proofs.lemmas.Bool.{cases_lt, eq-eqb, ne_eqb, cond-true, cond-false}
use Rattle.path_model.specs.declared.ids.OpId.{OpId}
use Rattle.path_model.specs.declared.history.Event.{Event}
use Rattle.path_model.specs.Trees.{Bound, any, most, Tree, op, seq, alt, burst, Names, WellFormed}
use Rattle.path_model.specs.Histories.{begun, ended}
use Rattle.path_model.specs.Machine.{semicolons}
use Rattle.path_model.specs.Executions.{entered, left}
use Rattle.path_model.specs.Guarantees.{FitsBound, PartsKeep, Keeps}
use Rattle.path_model.proofs.CallerLemmas.{each_path_keeps_its_counts}
use Rattle.path_state.specs.Standings.{stands_after, LeadsTo}
use Rattle.path_state.specs.Pasts.{underway, BoundsFit, CanStand}
use Rattle.path_state.proofs.Standings.{stands_long}

-- so many stand behind each `;` of the tree, the first of which has this place
abbrev pub StandAt : Tree → ℕ → List ℕ → List Event → Type 0
StandAt (op a) place stands h = Unit {0}
StandAt (seq l r) place stands h =
    StandAt l place stands h × StandAt r (place + semicolons l + 1) stands h × (get_or stands (place + semicolons l) 0 + entered r h ≡ left l h)
StandAt (alt l r) place stands h = StandAt l place stands h × StandAt r (place + semicolons l) stands h
StandAt (burst bd t) place stands h = StandAt t place stands h

-- the list of a history has them
stand_among : (t : Tree) (h : List Event) → PartsKeep t h → (x y : List ℕ) → StandAt t (length x) (x ++ (stands_after t h ++ y)) h
stand_among (op a) h k x y = tt
stand_among (seq l r) h k x y = (
  subst (λ zs. StandAt l (length x) zs h) front (stand_among l h k.0 x (here ∷ (stands_after r h ++ y))),
  subst (λ n. StandAt r n (x ++ (stands_after (seq l r) h ++ y)) h) behind (subst (λ zs. StandAt r (length (x ++ (stands_after l h ++ here ∷ []))) zs h) back (stand_among r h k.1 (x ++ (stands_after l h ++ here ∷ [])) y)),
  omega (arith, k.2, at),
)
  where
    here : ℕ
    here = left l h - entered r h

    front : x ++ (stands_after l h ++ here ∷ (stands_after r h ++ y)) ≡ x ++ (stands_after (seq l r) h ++ y)
    front = ap (λ zs. x ++ zs) (sym (append_assoc (stands_after l h) (here ∷ stands_after r h) y))

    back : (x ++ (stands_after l h ++ here ∷ [])) ++ (stands_after r h ++ y) ≡ x ++ (stands_after (seq l r) h ++ y)
    back =
        append_assoc x (stands_after l h ++ here ∷ []) (stands_after r h ++ y)
        ∙ ap (λ zs. x ++ zs) (append_assoc (stands_after l h) (here ∷ []) (stands_after r h ++ y) ∙ sym (append_assoc (stands_after l h) (here ∷ stands_after r h) y))

    behind : length (x ++ (stands_after l h ++ here ∷ [])) ≡ length x + semicolons l + 1
    behind = omega (arith, length-append x (stands_after l h ++ here ∷ []), length-append (stands_after l h) (here ∷ []), stands_long l h)

    at : get_or (x ++ (stands_after (seq l r) h ++ y)) (length x + semicolons l) 0 ≡ here
    at =
        ap (λ n. get_or (x ++ (stands_after (seq l r) h ++ y)) n 0) (omega (arith, length-append x (stands_after l h), stands_long l h))
        ∙ ap (λ zs. get_or zs (length (x ++ stands_after l h)) 0) (sym front ∙ sym (append_assoc x (stands_after l h) (here ∷ (stands_after r h ++ y))))
        ∙ get_or-append_seam (x ++ stands_after l h) here (stands_after r h ++ y) 0
stand_among (alt l r) h k x y = (
  subst (λ zs. StandAt l (length x) zs h) (ap (λ zs. x ++ zs) (sym (append_assoc (stands_after l h) (stands_after r h) y))) (stand_among l h k.0 x (stands_after r h ++ y)),
  subst (λ n. StandAt r n (x ++ (stands_after (alt l r) h ++ y)) h) (omega (arith, length-append x (stands_after l h), stands_long l h))
      (subst (λ zs. StandAt r (length (x ++ stands_after l h)) zs h)
      (append_assoc x (stands_after l h) (stands_after r h ++ y) ∙ ap (λ zs. x ++ zs) (sym (append_assoc (stands_after l h) (stands_after r h) y)))
      (stand_among r h k.1 (x ++ stands_after l h) y)),
)
stand_among (burst bd t) h k x y = stand_among t h k.0 x y

pub stand_after : (t : Tree) (h : List Event) → PartsKeep t h → StandAt t 0 (stands_after t h) h
stand_after t h k = subst (λ zs. StandAt t 0 zs h) (append-nil (stands_after t h)) (stand_among t h k [] [])

-- and no other list of its length
stand_same : (t : Tree) (place : ℕ) (x y : List ℕ) (h : List Event) → StandAt t place x h → StandAt t place y h → (k : ℕ) → place ≤ k → k < place + semicolons t → get_or x k 0 ≡ get_or y k 0
stand_same (op a) place x y h p q k m n = absurd (omega (arith, m, n))
stand_same (seq l r) place x y h p q k m n = elim (cases_lt k (place + semicolons l)) [
  | inl i ↦ stand_same l place x y h p.0 q.0 k m i
  | inr i ↦ elim (cases_lt (place + semicolons l) k) [
    | inl j ↦ stand_same r (place + semicolons l + 1) x y h p.1 q.1 k (omega (arith, j)) (omega (arith, n))
    | inr j ↦ let same : place + semicolons l ≡ k = omega (arith, i, j) in subst (λ c. get_or x c 0 ≡ get_or y c 0) same (omega (arith, p.2, q.2))
  ]
]
stand_same (alt l r) place x y h p q k m n = elim (cases_lt k (place + semicolons l)) [
  | inl i ↦ stand_same l place x y h p.0 q.0 k m i
  | inr i ↦ stand_same r (place + semicolons l) x y h p.1 q.1 k i (omega (arith, n))
]
stand_same (burst bd t) place x y h p q k m n = stand_same t place x y h p q k m n

lists_same : (x y : List ℕ) → length x ≡ length y → ((k : ℕ) → k < length x → get_or x k 0 ≡ get_or y k 0) → x ≡ y
lists_same [] [] l e = refl
lists_same [] (b ∷ y) l e = absurd (omega (arith, l))
lists_same (a ∷ x) [] l e = absurd (omega (arith, l))
lists_same (a ∷ x) (b ∷ y) l e =
    let first : a ≡ b = e 0 (omega arith) in
    let rest : x ≡ y = lists_same x y (omega (arith, l)) (λ k m. e (suc k) (omega (arith, m))) in
    cc

pub stand_only : (t : Tree) (h : List Event) (stands : List ℕ) → PartsKeep t h → length stands ≡ semicolons t → StandAt t 0 stands h → stands_after t h ≡ stands
stand_only t h stands k l p =
    lists_same (stands_after t h) stands (stands_long t h ∙ sym l) (λ i m. stand_same t 0 (stands_after t h) stands h (stand_after t h k) p i (omega arith) (omega (arith, m, stands_long t h)))

-- as much was entered as was left and is underway
abbrev pub Counted : Tree → (OpId → ℕ) → List Event → Type 0
Counted t progress h = (a : OpId) → Names t a → progress a + ended a h ≡ begun a h

pub underway_is : (t : Tree) (place : ℕ) (progress : OpId → ℕ) (stands : List ℕ) (h : List Event) → PartsKeep t h → Counted t progress h → StandAt t place stands h
    → entered t h ≡ left t h + underway t place progress stands
underway_is (op a) place progress stands h k c p = omega (arith, c a refl)
underway_is (seq l r) place progress stands h k c p = omega (
  arith,
  p.2,
  underway_is l place progress stands h k.0 (λ a n. c a (inl n)) p.0,
  underway_is r (place + semicolons l + 1) progress stands h k.1 (λ a n. c a (inr n)) p.1,
)
underway_is (alt l r) place progress stands h k c p = omega (
  arith,
  underway_is l place progress stands h k.0 (λ a n. c a (inl n)) p.0,
  underway_is r (place + semicolons l) progress stands h k.1 (λ a n. c a (inr n)) p.1,
)
underway_is (burst bd t) place progress stands h k c p = go k.2 (underway_is t place progress stands h k.0 c p)
  where
    go : ((entered t h ≡ left t h) × (entered (burst bd t) h ≡ left (burst bd t) h)) ⊎ ((left t h < entered t h) × (entered (burst bd t) h ≡ left (burst bd t) h + 1))
        → entered t h ≡ left t h + underway t place progress stands → entered (burst bd t) h ≡ left (burst bd t) h + underway (burst bd t) place progress stands
    go (inl x) e = omega (arith, x.1, cond-true {A = ℕ} (underway t place progress stands == 0) 0 1 (eq-eqb (underway t place progress stands) 0 (omega (arith, x.0, e))))
    go (inr x) e = omega (arith, x.1, cond-false {A = ℕ} (underway t place progress stands == 0) 0 1 (ne_eqb (underway t place progress stands) 0 (λ z. omega (arith, x.0, e, z))))

bounds_fit : (t : Tree) (place : ℕ) (progress : OpId → ℕ) (stands : List ℕ) (h : List Event) → PartsKeep t h → Counted t progress h → StandAt t place stands h → BoundsFit t place progress stands
bounds_fit (op a) place progress stands h k c p = tt
bounds_fit (seq l r) place progress stands h k c p =
    (bounds_fit l place progress stands h k.0 (λ a n. c a (inl n)) p.0, bounds_fit r (place + semicolons l + 1) progress stands h k.1 (λ a n. c a (inr n)) p.1)
bounds_fit (alt l r) place progress stands h k c p =
    (bounds_fit l place progress stands h k.0 (λ a n. c a (inl n)) p.0, bounds_fit r (place + semicolons l) progress stands h k.1 (λ a n. c a (inr n)) p.1)
bounds_fit (burst bd t) place progress stands h k c p = (bounds_fit t place progress stands h k.0 c p, fits bd k.1 (underway_is t place progress stands h k.0 c p))
  where
    fits : (b : Bound) → FitsBound b (entered t h) (left t h) → entered t h ≡ left t h + underway t place progress stands → FitsBound b (underway t place progress stands) 0
    fits any f e = tt
    fits (most n) f e = omega (arith, f, e)

-- where a history leads, a path can stand
pub past_can_stand : (s : Tree) → WellFormed s → (progress : OpId → ℕ) (stands : List ℕ) (h : List Event) → LeadsTo s progress stands h → CanStand s progress stands
past_can_stand s wf progress stands h k = record {
  places = sym (ap length k.standing) ∙ stands_long s h;
  bounds = bounds_fit s 0 progress stands h keeps.parts k.counted there;
  one = omega (arith, keeps.one, underway_is s 0 progress stands h keeps.parts k.counted there);
}
  where
    keeps : Keeps s h
    keeps = each_path_keeps_its_counts s wf h k.legal

    there : StandAt s 0 stands h
    there = subst (λ zs. StandAt s 0 zs h) k.standing (stand_after s h keeps.parts)
