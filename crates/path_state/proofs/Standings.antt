-- Where a path stands tells what may follow.
use Rattle.std.proofs.Common.{◌≡◌, ◌+◌, ◌-◌, ℕ, List, [], ◌∷◌, ◌++◌, length, refl, sym, ◌∙◌, subst, inl, inr, arith, append-nil, length-append}
use Rattle.std.proofs.lemmas.List.{append_assoc}
use Rattle.path_model.specs.declared.ids.OpId.{OpId}
use Rattle.path_model.specs.declared.history.Event.{Event}
use Rattle.path_model.specs.declared.history.Event.TheVariants.{Began, Ended}
use Rattle.path_model.specs.Trees.{Tree, op, seq, alt, burst, Names, WellFormed}
use Rattle.path_model.specs.Histories.{begun, ended}
use Rattle.path_model.specs.Projection.{LegalOn}
use Rattle.path_model.specs.Machine.{semicolons}
use Rattle.path_model.specs.Executions.{entered, left, TreeInProgress}
use Rattle.path_model.specs.Guarantees.{PartOf, PartsKeep}
use Rattle.path_model.proofs.CallerLemmas.{each_path_keeps_its_counts, entered_parts_are_underway, starts_are_legal_unless_opposed, finishes_are_legal_in_progress, each_front_is_legal}
use Rattle.path_state.specs.Standings.{stands_after, LeadsTo, StandingsTellWhatMayFollow}
use Rattle.path_state.proofs.Alike.{Alike, alike_sym, alike_underway, alike_began, alike_ended, against_same}

-- lists whose fronts are equally long
pub parts_same : {A : Type 0} → (x y z w : List A) → length x ≡ length z → x ++ y ≡ z ++ w → (x ≡ z) × (y ≡ w)
parts_same [] y [] w l e = (refl, e)
parts_same [] y (b ∷ z) w l e = absurd (omega (arith, l))
parts_same (a ∷ x) y [] w l e = absurd (omega (arith, l))
parts_same (a ∷ x) y (b ∷ z) w l e =
    let tail : x ++ y ≡ z ++ w = cc in
    let r = parts_same x y z w (omega (arith, l)) tail in
    let first : x ≡ z = r.0 in
    (cc, r.1)

pub stands_long : (t : Tree) (h : List Event) → length (stands_after t h) ≡ semicolons t
stands_long (op a) h = refl
stands_long (seq l r) h = omega (arith, stands_long l h, stands_long r h, length-append {A = ℕ})
stands_long (alt l r) h = omega (arith, stands_long l h, stands_long r h, length-append {A = ℕ})
stands_long (burst bd t) h = stands_long t h

as_long : (t : Tree) (h g : List Event) → length (stands_after t h) ≡ length (stands_after t g)
as_long t h g = stands_long t h ∙ sym (stands_long t g)

-- the same in progress and the same standing: they are alike
pub alike_of : (t : Tree) (h g : List Event) → PartsKeep t h → PartsKeep t g → ((a : OpId) → Names t a → begun a h + ended a g ≡ begun a g + ended a h) → stands_after t h ≡ stands_after t g → Alike t h g
alike_of (op a) h g k m p e = p a refl
alike_of (seq l r) h g k m p e =
    let x = parts_same (stands_after l h) _ (stands_after l g) _ (as_long l h g) e in
    let tail = x.1 in
    let here : left l h - entered r h ≡ left l g - entered r g = cc in
    let rest : stands_after r h ≡ stands_after r g = cc in (
      alike_of l h g k.0 m.0 (λ a n. p a (inl n)) x.0,
      alike_of r h g k.1 m.1 (λ a n. p a (inr n)) rest,
      omega (arith, here, k.2, m.2),
    )
alike_of (alt l r) h g k m p e =
    let x = parts_same (stands_after l h) _ (stands_after l g) _ (as_long l h g) e in
    (alike_of l h g k.0 m.0 (λ a n. p a (inl n)) x.0, alike_of r h g k.1 m.1 (λ a n. p a (inr n)) x.1)
alike_of (burst bd t) h g k m p e = alike_of t h g k.0 m.0 p e

-- and where they are alike the standing is the same
pub stands_alike : (t : Tree) (h g : List Event) → PartsKeep t h → PartsKeep t g → Alike t h g → stands_after t h ≡ stands_after t g
stands_alike (op a) h g k m x = refl
stands_alike (seq l r) h g k m x =
    let here : left l h - entered r h ≡ left l g - entered r g = omega (arith, x.2, k.2, m.2) in
    let first = stands_alike l h g k.0 m.0 x.0 in
    let rest = stands_alike r h g k.1 m.1 x.1 in
    cc
stands_alike (alt l r) h g k m x =
    let first = stands_alike l h g k.0 m.0 x.0 in
    let rest = stands_alike r h g k.1 m.1 x.1 in
    cc
stands_alike (burst bd t) h g k m x = stands_alike t h g k.0 m.0 x

pub alike_progress : (t : Tree) (h g : List Event) → Alike t h g → (a : OpId) → Names t a → begun a h + ended a g ≡ begun a g + ended a h
alike_progress (op b) h g x a n = subst (λ c. begun c h + ended c g ≡ begun c g + ended c h) (sym n) x
alike_progress (seq l r) h g x a (inl n) = alike_progress l h g x.0 a n
alike_progress (seq l r) h g x a (inr n) = alike_progress r h g x.1 a n
alike_progress (alt l r) h g x a (inl n) = alike_progress l h g x.0 a n
alike_progress (alt l r) h g x a (inr n) = alike_progress r h g x.1 a n
alike_progress (burst bd t) h g x a n = alike_progress t h g x a n

-- a tree is a part of itself
pub whole : (s : Tree) → PartOf s s
whole (op a) = refl
whole (seq l r) = inl refl
whole (alt l r) = inl refl
whole (burst bd t) = inl refl

-- alike histories of a path go on alike
module _ (s : Tree) (wf : WellFormed s) where
  keeps : (h : List Event) → LegalOn s h → PartsKeep s h
  keeps h l = (each_path_keeps_its_counts s wf h l).parts

  underway_same : (h g : List Event) → LegalOn s h → LegalOn s g → Alike s h g → TreeInProgress s h → TreeInProgress s g
  underway_same h g l m x u =
      let k = (entered_parts_are_underway s wf h l s (whole s)).1 u in
      (entered_parts_are_underway s wf g m s (whole s)).0 (omega (arith, k, alike_underway s h g (keeps h l) (keeps g m) x))

  start_same : (h g : List Event) → LegalOn s h → LegalOn s g → Alike s h g → (a : OpId) → LegalOn s (h ++ Began a ∷ []) → LegalOn s (g ++ Began a ∷ [])
  start_same h g l m x a y =
      (starts_are_legal_unless_opposed s wf g m a).1 (λ n z.
      (starts_are_legal_unless_opposed s wf h l a).0 y n
      (against_same s g h a (keeps g m) (keeps h l) (alike_sym s h g x) _ _ (underway_same g h m l (alike_sym s h g x)) z)
      )

  finish_same : (h g : List Event) → LegalOn s h → LegalOn s g → Alike s h g → (a : OpId) → LegalOn s (h ++ Ended a ∷ []) → LegalOn s (g ++ Ended a ∷ [])
  finish_same h g l m x a y =
      (finishes_are_legal_in_progress s wf g m a).1 (λ n. let i = (finishes_are_legal_in_progress s wf h l a).0 y n in omega (arith, i, alike_progress s h g x a n))

  pub event_same : (h g : List Event) → LegalOn s h → LegalOn s g → Alike s h g → (e : Event) → LegalOn s (h ++ e ∷ []) → LegalOn s (g ++ e ∷ []) × Alike s (h ++ e ∷ []) (g ++ e ∷ [])
  event_same h g l m x (Began a) y = let z = start_same h g l m x a y in (z, alike_began s h g a (keeps h l) (keeps g m) (keeps _ y) (keeps _ z) x)
  event_same h g l m x (Ended a) y = let z = finish_same h g l m x a y in (z, alike_ended s h g a (keeps h l) (keeps g m) (keeps _ y) (keeps _ z) x)

  pub goes_on_same : (h g : List Event) → LegalOn s h → LegalOn s g → Alike s h g → (w : List Event) → LegalOn s (h ++ w) → LegalOn s (g ++ w)
  goes_on_same h g l m x [] y = subst (LegalOn s) (sym (append-nil g)) m
  goes_on_same h g l m x (e ∷ w) y =
      let z : LegalOn s ((h ++ e ∷ []) ++ w) = subst (LegalOn s) (sym (append_assoc h (e ∷ []) w)) y in
      let i = each_front_is_legal s (h ++ e ∷ []) w z in
      let j = event_same h g l m x e i in
      subst (LegalOn s) (append_assoc g (e ∷ []) w) (goes_on_same (h ++ e ∷ []) (g ++ e ∷ []) i j.0 j.1 w z)

  pub led_alike : (progress : OpId → ℕ) (stands : List ℕ) (h g : List Event) → LeadsTo s progress stands h → LeadsTo s progress stands g → Alike s h g
  led_alike progress stands h g k m =
      alike_of s h g (keeps h k.legal) (keeps g m.legal) (λ a n. omega (arith, k.counted a n, m.counted a n)) (k.standing ∙ sym m.standing)

pub standings_tell_what_may_follow : StandingsTellWhatMayFollow
standings_tell_what_may_follow s wf progress stands h g k m w = (
  goes_on_same s wf h g k.legal m.legal (led_alike s wf progress stands h g k m) w,
  goes_on_same s wf g h m.legal k.legal (led_alike s wf progress stands g h m k) w,
)
