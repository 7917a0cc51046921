-- What the paths of a legal history guarantee, in words of operations.
use Rattle.std.proofs.Common.{◌≡◌, ◌⊎◌, ◌<◌, ◌≤◌, ◌+◌, ℕ, List, ◌++◌, sym, ap, ◌∙◌, subst, inl, inr, arith}
use Rattle.std.proofs.lemmas.List.{append_assoc}
use Rattle.std.proofs.lemmas.Bool.{cases_lt}
use Rattle.path_model.specs.declared.ids.OpId.{OpId}
use Rattle.path_model.specs.declared.history.Event.{Event}
use Rattle.path_model.specs.Trees.{Bound, any, most, Tree, op, seq, alt, burst, Names, NoBraces, NoNesting, WellFormed}
use Rattle.path_model.specs.Histories.{InProgress}
use Rattle.path_model.specs.Behaviour.{IsRepeated}
use Rattle.path_model.specs.Projection.{projection, LegalOn}
use Rattle.path_model.specs.BurstCounts.{Spare}
use Rattle.path_model.specs.Machine.{Values, opening, values_after}
use Rattle.path_model.specs.Executions.{entered, left, begins_within, ends_within, TreeInProgress}
use Rattle.path_model.specs.Guarantees.{PartOf, OutsideBraces, FitsBound, PartsKeep, Keeps, PartsCount, ValuesCount, EachFrontIsLegal, EachFrontIsLegalOnAll, CountsAddUp, EachPathKeepsItsCounts, EachValueIsACount, EnteredPartsAreInProgress, EachEndWasBegun, EachPartOutsideBracesIsAlone, TreesOfOperationsAreInProgress, BoundsHold, SequencesKeepTheirOrder, SequencesGoRoundByRound}
use Rattle.path_model.proofs.Counts.{count}
use Rattle.path_model.proofs.Path.{flat_fits, meets, Live, behaves_live}
use Rattle.path_model.proofs.Steady.{Steady, live_steady}
use Rattle.path_model.proofs.Upward.{Holds}
use Rattle.path_model.proofs.OnePath.{Rooted, rooted}
use Rattle.path_model.proofs.Labelled.{projection_append}
use Rattle.path_model.proofs.AmongOthers.{among}
use Rattle.path_model.proofs.AllPaths.{every_map}
use Rattle.path_model.proofs.BoundedValues.{live_ends}
use Rattle.path_model.proofs.Progress.{begun-append, ended-append}
use Rattle.path_model.proofs.Executions.{inn_among, out_among, OpenOnce, live_once, once_flat, steady_flat}

-- fronts, and longer histories
pub each_front_is_legal : EachFrontIsLegal
each_front_is_legal s x y (xs, (z, r)) =
    (xs, (projection s y ++ z, subst (IsRepeated s xs) (ap (λ w. w ++ z) (projection_append s x y) ∙ append_assoc (projection s x) (projection s y) z) r))

pub each_front_is_legal_on_all : EachFrontIsLegalOnAll
each_front_is_legal_on_all ss x y l = every_map {P = λ s. LegalOn s (x ++ y)} {Q = λ s. LegalOn s x} (λ s k. each_front_is_legal s x y k) ss l

pub counts_add_up : CountsAddUp
counts_add_up a x y = (begun-append a x y, ended-append a x y)

-- the counts of each part
module _ (s : Tree) (wf : WellFormed s) (h : List Event) (l : LegalOn s h) where
  pub live : Live s (projection s h)
  live = behaves_live s (meets s wf.names_once wf.not_nested) (projection s h) l

  root : Rooted s (projection s h) (values_after s (projection s h))
  root = rooted s wf.names_once wf.not_nested live

  parts_keep : (t : Tree) → ((a : OpId) → Names t a → Names s a) → NoNesting t → (n m : ℕ) (v : Values) → Holds t n m (projection s h) v → OpenOnce t (projection s h) → Steady t (projection s h) → PartsKeep t h
  parts_keep (op b) sub f n m v H o y = omega (arith, live_ends s live b, inn_among s (op b) sub h, out_among s (op b) sub h)
  parts_keep (seq p q) sub f n m v H o y =
      let sp : (a : OpId) → Names p a → Names s a = λ a k. sub a (inl k) in
      let sq : (a : OpId) → Names q a → Names s a = λ a k. sub a (inr k) in
      (parts_keep p sp f.0 n m v H.0 o.0 y.0, parts_keep q sq f.1 _ _ v H.1 o.1 y.1, omega (arith, H.2, inn_among s q sq h, out_among s p sp h))
  parts_keep (alt p q) sub f n m v H o y =
      (parts_keep p (λ a k. sub a (inl k)) f.0 n m v H.0 o.0 y.0, parts_keep q (λ a k. sub a (inr k)) f.1 _ _ v H.1 o.1 y.1)
  parts_keep (burst bd t) sub f n m v H o y =
      (parts_keep t sub (flat_fits t f.0) n (m + 1) v H.0 (once_flat t f.0 (projection s h)) (steady_flat t f.0 (projection s h)), fits bd H.2, once o)
    where
      fits : (b : Bound) → Spare b (v.bound m) (count t 0 (projection s h)) → FitsBound b (entered t h) (left t h)
      fits any p = tt
      fits (most k) p = omega (arith, p, y.1, inn_among s t sub h, out_among s t sub h)

      once : OpenOnce (burst bd t) (projection s h) → ((entered t h ≡ left t h) × (entered (burst bd t) h ≡ left (burst bd t) h)) ⊎ ((left t h < entered t h) × (entered (burst bd t) h ≡ left (burst bd t) h + 1))
      once (inl q) = inl (omega (arith, q.0, y.1, inn_among s t sub h, out_among s t sub h), omega (arith, q.1, inn_among s (burst bd t) sub h, out_among s (burst bd t) sub h))
      once (inr q) = inr (omega (arith, q.0, y.1, inn_among s t sub h, out_among s t sub h), omega (arith, q.1, inn_among s (burst bd t) sub h, out_among s (burst bd t) sub h))

  parts_count : (t : Tree) → ((a : OpId) → Names t a → Names s a) → NoNesting t → (n m : ℕ) (v : Values) → Holds t n m (projection s h) v → Steady t (projection s h) → PartsCount t n m h v
  parts_count (op b) sub f n m v H y = tt
  parts_count (seq p q) sub f n m v H y =
      let sp : (a : OpId) → Names p a → Names s a = λ a k. sub a (inl k) in
      let sq : (a : OpId) → Names q a → Names s a = λ a k. sub a (inr k) in
      (parts_count p sp f.0 n m v H.0 y.0, parts_count q sq f.1 _ _ v H.1 y.1, omega (arith, H.2, inn_among s q sq h, out_among s p sp h))
  parts_count (alt p q) sub f n m v H y = (parts_count p (λ a k. sub a (inl k)) f.0 n m v H.0 y.0, parts_count q (λ a k. sub a (inr k)) f.1 _ _ v H.1 y.1)
  parts_count (burst bd t) sub f n m v H y = (
    parts_count t sub (flat_fits t f.0) n (m + 1) v H.0 (steady_flat t f.0 (projection s h)),
    omega (arith, H.1, y.1, inn_among s t sub h, out_among s t sub h),
    subst (Spare bd (v.bound m)) (sym H.1) H.2,
  )

  pub path_keeps : Keeps s h
  path_keeps = record {
    parts = parts_keep s (λ a k. k) wf.not_nested 1 0 _ root.holds (live_once s wf.names_once wf.not_nested live) (live_steady s wf.names_once wf.not_nested live);
    one = omega (arith, root.own, inn_among s s (λ a k. k) h, out_among s s (λ a k. k) h);
  }

  values_count : ValuesCount s h (values_after s (projection s h))
  values_count = record {
    parts = parts_count s (λ a k. k) wf.not_nested 1 0 _ root.holds (live_steady s wf.names_once wf.not_nested live);
    own = omega (arith, root.own, inn_among s s (λ a k. k) h, out_among s s (λ a k. k) h);
  }

pub each_path_keeps_its_counts : EachPathKeepsItsCounts
each_path_keeps_its_counts = path_keeps

pub each_value_is_a_count : EachValueIsACount
each_value_is_a_count s wf h l = subst (ValuesCount s h) (sym (among s (opening s) h)) (values_count s wf h l)

-- what follows from the counts
module _ (h : List Event) where
  pub left_entered : (t : Tree) → PartsKeep t h → left t h ≤ entered t h
  left_entered (op b) k = k
  left_entered (seq p q) k = omega (arith, left_entered p k.0, left_entered q k.1, k.2)
  left_entered (alt p q) k = omega (arith, left_entered p k.0, left_entered q k.1)
  left_entered (burst bd t) k = elim k.2 [ inl x ↦ omega (arith, x.1) | inr x ↦ omega (arith, x.1) ]

  pub underway_to : (t : Tree) → PartsKeep t h → left t h < entered t h → TreeInProgress t h
  underway_to (op b) k l = l
  underway_to (seq p q) k l = elim (cases_lt (left p h) (entered p h)) [
    | inl x ↦ inl (underway_to p k.0 x)
    | inr x ↦ elim (cases_lt (entered q h) (left p h)) [ inl y ↦ inr (inl y) | inr y ↦ inr (inr (underway_to q k.1 (omega (arith, l, x, y)))) ]
  ]
  underway_to (alt p q) k l = elim (cases_lt (left p h) (entered p h)) [
    | inl x ↦ inl (underway_to p k.0 x)
    | inr x ↦ inr (underway_to q k.1 (omega (arith, l, x)))
  ]
  underway_to (burst bd t) k l = elim k.2 [ inl x ↦ absurd (omega (arith, x.1, l)) | inr x ↦ underway_to t k.0 x.0 ]

  pub underway_from : (t : Tree) → PartsKeep t h → TreeInProgress t h → left t h < entered t h
  underway_from (op b) k u = u
  underway_from (seq p q) k (inl u) = omega (arith, underway_from p k.0 u, left_entered q k.1, k.2)
  underway_from (seq p q) k (inr (inl u)) = omega (arith, u, left_entered p k.0, left_entered q k.1)
  underway_from (seq p q) k (inr (inr u)) = omega (arith, underway_from q k.1 u, left_entered p k.0, k.2)
  underway_from (alt p q) k (inl u) = omega (arith, underway_from p k.0 u, left_entered q k.1)
  underway_from (alt p q) k (inr u) = omega (arith, underway_from q k.1 u, left_entered p k.0)
  underway_from (burst bd t) k u = let l = underway_from t k.0 u in elim k.2 [ inl x ↦ absurd (omega (arith, x.0, l)) | inr x ↦ omega (arith, x.1) ]

  -- what is in progress is underway
  pub progress_underway : (t : Tree) (a : OpId) → Names t a → InProgress a h → TreeInProgress t h
  progress_underway (op b) a k l = subst (λ x. InProgress x h) k l
  progress_underway (seq p q) a (inl k) l = inl (progress_underway p a k l)
  progress_underway (seq p q) a (inr k) l = inr (inr (progress_underway q a k l))
  progress_underway (alt p q) a (inl k) l = inl (progress_underway p a k l)
  progress_underway (alt p q) a (inr k) l = inr (progress_underway q a k l)
  progress_underway (burst bd t) a k l = progress_underway t a k l

  quiet : (t : Tree) → PartsKeep t h → entered t h ≤ left t h → (a : OpId) → Names t a → InProgress a h → ⊥
  quiet t k e a n l = let u = underway_from t k (progress_underway t a n l) in omega (arith, e, u)

  pub part_keeps : (t s : Tree) → PartOf t s → PartsKeep s h → PartsKeep t h
  part_keeps t (op b) p k = subst (λ x. PartsKeep x h) (sym p) k
  part_keeps t (seq x y) (inl p) k = subst (λ x. PartsKeep x h) (sym p) k
  part_keeps t (seq x y) (inr (inl p)) k = part_keeps t x p k.0
  part_keeps t (seq x y) (inr (inr p)) k = part_keeps t y p k.1
  part_keeps t (alt x y) (inl p) k = subst (λ x. PartsKeep x h) (sym p) k
  part_keeps t (alt x y) (inr (inl p)) k = part_keeps t x p k.0
  part_keeps t (alt x y) (inr (inr p)) k = part_keeps t y p k.1
  part_keeps t (burst bd x) (inl p) k = subst (λ x. PartsKeep x h) (sym p) k
  part_keeps t (burst bd x) (inr p) k = part_keeps t x p k.0

  -- outside braces at most one execution is underway
  one_down : (t s : Tree) → OutsideBraces t s → PartsKeep s h → entered s h ≤ left s h + 1 → entered t h ≤ left t h + 1
  one_down t (op b) p k o = subst (λ x. entered x h ≤ left x h + 1) (sym p) o
  one_down t (seq x y) (inl p) k o = subst (λ x. entered x h ≤ left x h + 1) (sym p) o
  one_down t (seq x y) (inr (inl p)) k o = one_down t x p k.0 (omega (arith, o, k.2, left_entered y k.1))
  one_down t (seq x y) (inr (inr p)) k o = one_down t y p k.1 (omega (arith, o, k.2, left_entered x k.0))
  one_down t (alt x y) (inl p) k o = subst (λ x. entered x h ≤ left x h + 1) (sym p) o
  one_down t (alt x y) (inr (inl p)) k o = one_down t x p k.0 (omega (arith, o, left_entered y k.1))
  one_down t (alt x y) (inr (inr p)) k o = one_down t y p k.1 (omega (arith, o, left_entered x k.0))
  one_down t (burst bd x) p k o = subst (λ x. entered x h ≤ left x h + 1) (sym p) o

  up : (t s : Tree) → OutsideBraces t s → PartsKeep s h → left t h < entered t h → left s h < entered s h
  up t (op b) p k l = subst (λ x. left x h < entered x h) p l
  up t (seq x y) (inl p) k l = subst (λ x. left x h < entered x h) p l
  up t (seq x y) (inr (inl p)) k l = omega (arith, up t x p k.0 l, k.2, left_entered y k.1)
  up t (seq x y) (inr (inr p)) k l = omega (arith, up t y p k.1 l, k.2, left_entered x k.0)
  up t (alt x y) (inl p) k l = subst (λ x. left x h < entered x h) p l
  up t (alt x y) (inr (inl p)) k l = omega (arith, up t x p k.0 l, left_entered y k.1)
  up t (alt x y) (inr (inr p)) k l = omega (arith, up t y p k.1 l, left_entered x k.0)
  up t (burst bd x) p k l = subst (λ x. left x h < entered x h) p l

  -- and while it is, nothing else of the path is in progress
  apart : (t s : Tree) → OutsideBraces t s → PartsKeep s h → entered s h ≤ left s h + 1 → left t h < entered t h → (a : OpId) → Names s a → InProgress a h → Names t a
  apart t (op b) p k o l a n i = subst (λ x. Names x a) (sym p) n
  apart t (seq x y) (inl p) k o l a n i = subst (λ x. Names x a) (sym p) n
  apart t (seq x y) (inr (inl p)) k o l a (inl n) i = apart t x p k.0 (omega (arith, o, k.2, left_entered y k.1)) l a n i
  apart t (seq x y) (inr (inl p)) k o l a (inr n) i = absurd (quiet y k.1 (omega (arith, up t x p k.0 l, o, k.2, left_entered y k.1)) a n i)
  apart t (seq x y) (inr (inr p)) k o l a (inl n) i = absurd (quiet x k.0 (omega (arith, up t y p k.1 l, o, k.2, left_entered x k.0)) a n i)
  apart t (seq x y) (inr (inr p)) k o l a (inr n) i = apart t y p k.1 (omega (arith, o, k.2, left_entered x k.0)) l a n i
  apart t (alt x y) (inl p) k o l a n i = subst (λ x. Names x a) (sym p) n
  apart t (alt x y) (inr (inl p)) k o l a (inl n) i = apart t x p k.0 (omega (arith, o, left_entered y k.1)) l a n i
  apart t (alt x y) (inr (inl p)) k o l a (inr n) i = absurd (quiet y k.1 (omega (arith, up t x p k.0 l, o)) a n i)
  apart t (alt x y) (inr (inr p)) k o l a (inl n) i = absurd (quiet x k.0 (omega (arith, up t y p k.1 l, o)) a n i)
  apart t (alt x y) (inr (inr p)) k o l a (inr n) i = apart t y p k.1 (omega (arith, o, left_entered x k.0)) l a n i
  apart t (burst bd x) p k o l a n i = subst (λ x. Names x a) (sym p) n

  -- within braces each operation in progress is in an execution of its own
  pub one_each : (t : Tree) → NoBraces t → PartsKeep t h → begins_within t h + left t h ≤ ends_within t h + entered t h
  one_each (op b) f k = omega arith
  one_each (seq p q) f k = omega (arith, one_each p f.0 k.0, one_each q f.1 k.1, k.2)
  one_each (alt p q) f k = omega (arith, one_each p f.0 k.0, one_each q f.1 k.1)
  one_each (burst bd t) f k = absurd f

pub outside_part : (t s : Tree) → OutsideBraces t s → PartOf t s
outside_part t (op b) p = p
outside_part t (seq x y) (inl p) = inl p
outside_part t (seq x y) (inr (inl p)) = inr (inl (outside_part t x p))
outside_part t (seq x y) (inr (inr p)) = inr (inr (outside_part t y p))
outside_part t (alt x y) (inl p) = inl p
outside_part t (alt x y) (inr (inl p)) = inr (inl (outside_part t x p))
outside_part t (alt x y) (inr (inr p)) = inr (inr (outside_part t y p))
outside_part t (burst bd x) p = inl p

named_part : (s : Tree) (a : OpId) → Names s a → PartOf (op a) s
named_part (op b) a n = ap op n
named_part (seq x y) a (inl n) = inr (inl (named_part x a n))
named_part (seq x y) a (inr n) = inr (inr (named_part y a n))
named_part (alt x y) a (inl n) = inr (inl (named_part x a n))
named_part (alt x y) a (inr n) = inr (inr (named_part y a n))
named_part (burst bd x) a n = inr (named_part x a n)

part_fits : (t s : Tree) → PartOf t s → NoNesting s → NoNesting t
part_fits t (op b) p f = subst NoNesting (sym p) f
part_fits t (seq x y) (inl p) f = subst NoNesting (sym p) f
part_fits t (seq x y) (inr (inl p)) f = part_fits t x p f.0
part_fits t (seq x y) (inr (inr p)) f = part_fits t y p f.1
part_fits t (alt x y) (inl p) f = subst NoNesting (sym p) f
part_fits t (alt x y) (inr (inl p)) f = part_fits t x p f.0
part_fits t (alt x y) (inr (inr p)) f = part_fits t y p f.1
part_fits t (burst bd x) (inl p) f = subst NoNesting (sym p) f
part_fits t (burst bd x) (inr p) f = part_fits t x p (flat_fits x f.0)

-- the laws
pub entered_parts_are_underway : EnteredPartsAreInProgress
entered_parts_are_underway s wf h l t p =
    let k = part_keeps h t s p (path_keeps s wf h l).parts in
    (underway_to h t k, underway_from h t k)

pub each_end_was_begun : EachEndWasBegun
each_end_was_begun s wf h l a n = part_keeps h (op a) s (named_part s a n) (path_keeps s wf h l).parts

pub each_part_outside_braces_is_alone : EachPartOutsideBracesIsAlone
each_part_outside_braces_is_alone s wf h l t p =
    let k = path_keeps s wf h l in
    (one_down h t s p k.parts k.one, λ u. apart h t s p k.parts k.one (underway_from h t (part_keeps h t s (outside_part t s p) k.parts) u))

pub progress_is_underway : TreesOfOperationsAreInProgress
progress_is_underway t h a k i = progress_underway h t a k i

pub bounds_hold : BoundsHold
bounds_hold s wf h l n t p =
    let k = part_keeps h (burst (most n) t) s p (path_keeps s wf h l).parts in
    omega (arith, k.1, one_each h t (part_fits (burst (most n) t) s p wf.not_nested).0 k.0)

pub sequences_keep_their_order : SequencesKeepTheirOrder
sequences_keep_their_order s wf h l x y p = (part_keeps h (seq x y) s p (path_keeps s wf h l).parts).2

pub sequences_go_round_by_round : SequencesGoRoundByRound
sequences_go_round_by_round s wf h l x y p =
    let k = path_keeps s wf h l in
    let o : entered x h ≤ left y h + 1 = one_down h (seq x y) s p k.parts k.one in
    let q = part_keeps h (seq x y) s (outside_part (seq x y) s p) k.parts in
    (omega (arith, o, left_entered h x q.0, left_entered h y q.1), o)
