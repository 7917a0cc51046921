-- Two histories that a path can't tell apart: as much of each part is underway after both, and as many stand behind each `;`.
use Rattle.std.proofs.Common.{◌≡◌, ◌⊎◌, ◌==◌, if◌then◌else◌, ◌<◌, ◌≤◌, ◌+◌, ◌-◌, ℕ, Bool, true, false, List, [], ◌∷◌, ◌++◌, refl, sym, ap, inl, inr, arith}
use Rattle.std.proofs.lemmas.Bool.{cond_both}
use Rattle.path_model.specs.declared.ids.OpId.{OpId}
use Rattle.path_model.specs.declared.history.Event.{Event}
use Rattle.path_model.specs.declared.history.Event.TheVariants.{Began, Ended}
use Rattle.path_model.specs.Trees.{Bound, any, most, Tree, op, seq, alt, burst, has}
use Rattle.path_model.specs.Histories.{begun, ended}
use Rattle.path_model.specs.Executions.{entry, exit, opens, closes, entered, left}
use Rattle.path_model.specs.Guarantees.{PartsKeep}
use Rattle.path_model.specs.Refusals.{IsFull, Where, Against}
use Rattle.path_model.proofs.CallerLemmas.{counts_add_up}

-- a start leaves nothing, and a finish enters nothing
pub began_exit : (t : Tree) (a : OpId) → exit t (Began a) ≡ 0
began_exit (op b) a = refl
began_exit (seq l r) a = began_exit r a
began_exit (alt l r) a = omega (arith, began_exit l a, began_exit r a)
began_exit (burst bd t) a = began_exit t a

pub ended_entry : (t : Tree) (a : OpId) → entry t (Ended a) ≡ 0
ended_entry (op b) a = refl
ended_entry (seq l r) a = ended_entry l a
ended_entry (alt l r) a = omega (arith, ended_entry l a, ended_entry r a)
ended_entry (burst bd t) a = ended_entry t a

-- an event that doesn't enter a tree leaves the count of its entries, and one that doesn't leave it that of its exits
opens_still : (t : Tree) (e : Event) → entry t e ≡ 0 → (c : ℕ) (h : List Event) → opens t c (h ++ e ∷ []) ≡ opens t c h
opens_still t e z c [] = cond_both (c == 0) (entry t e) 0 (λ x. x + 0 ≡ 0) (λ _. omega (arith, z)) (λ _. refl)
opens_still t e z c (f ∷ h) = ap (λ x. (if c == 0 then entry t f else 0) + x) (opens_still t e z (c + entry t f - exit t f) h)

closes_still : (t : Tree) (e : Event) → exit t e ≡ 0 → (c : ℕ) (h : List Event) → closes t c (h ++ e ∷ []) ≡ closes t c h
closes_still t e z c [] = cond_both (c + entry t e - exit t e == 0) (exit t e) 0 (λ x. x + 0 ≡ 0) (λ _. omega (arith, z)) (λ _. refl)
closes_still t e z c (f ∷ h) = ap (λ x. (if c + entry t f - exit t f == 0 then exit t f else 0) + x) (closes_still t e z (c + entry t f - exit t f) h)

pub entered_step : (a : OpId) (h : List Event) (e : Event) → begun a (h ++ e ∷ []) ≡ begun a h + entry (op a) e
entered_step a h (Began b) = (counts_add_up a h (Began b ∷ [])).0
entered_step a h (Ended b) = (counts_add_up a h (Ended b ∷ [])).0

pub left_step : (a : OpId) (h : List Event) (e : Event) → ended a (h ++ e ∷ []) ≡ ended a h + exit (op a) e
left_step a h (Began b) = (counts_add_up a h (Began b ∷ [])).1
left_step a h (Ended b) = (counts_add_up a h (Ended b ∷ [])).1

pub entered_still : (t : Tree) (h : List Event) (e : Event) → entry t e ≡ 0 → entered t (h ++ e ∷ []) ≡ entered t h
entered_still (op b) h e z = omega (arith, entered_step b h e, z)
entered_still (seq l r) h e z = entered_still l h e z
entered_still (alt l r) h e z = omega (arith, entered_still l h e (omega (arith, z)), entered_still r h e (omega (arith, z)))
entered_still (burst bd t) h e z = opens_still t e z 0 h

pub left_still : (t : Tree) (h : List Event) (e : Event) → exit t e ≡ 0 → left t (h ++ e ∷ []) ≡ left t h
left_still (op b) h e z = omega (arith, left_step b h e, z)
left_still (seq l r) h e z = left_still r h e z
left_still (alt l r) h e z = omega (arith, left_still l h e (omega (arith, z)), left_still r h e (omega (arith, z)))
left_still (burst bd t) h e z = closes_still t e z 0 h

pub left_began : (t : Tree) (h : List Event) (a : OpId) → left t (h ++ Began a ∷ []) ≡ left t h
left_began t h a = left_still t h (Began a) (began_exit t a)

pub entered_ended : (t : Tree) (h : List Event) (a : OpId) → entered t (h ++ Ended a ∷ []) ≡ entered t h
entered_ended t h a = entered_still t h (Ended a) (ended_entry t a)

-- as many executions are underway, and as many stand behind each `;`
abbrev pub Alike : Tree → List Event → List Event → Type 0
Alike (op a) h g = begun a h + ended a g ≡ begun a g + ended a h
Alike (seq l r) h g = Alike l h g × Alike r h g × (left l h + entered r g ≡ left l g + entered r h)
Alike (alt l r) h g = Alike l h g × Alike r h g
Alike (burst bd t) h g = Alike t h g

pub alike_sym : (t : Tree) (h g : List Event) → Alike t h g → Alike t g h
alike_sym (op a) h g x = sym x
alike_sym (seq l r) h g x = (alike_sym l h g x.0, alike_sym r h g x.1, sym x.2)
alike_sym (alt l r) h g x = (alike_sym l h g x.0, alike_sym r h g x.1)
alike_sym (burst bd t) h g x = alike_sym t h g x

pub alike_underway : (t : Tree) (h g : List Event) → PartsKeep t h → PartsKeep t g → Alike t h g → entered t h + left t g ≡ entered t g + left t h
alike_underway (op a) h g k m x = x
alike_underway (seq l r) h g k m x = omega (arith, alike_underway l h g k.0 m.0 x.0, alike_underway r h g k.1 m.1 x.1, x.2)
alike_underway (alt l r) h g k m x = omega (arith, alike_underway l h g k.0 m.0 x.0, alike_underway r h g k.1 m.1 x.1)
alike_underway (burst bd t) h g k m x = go (alike_underway t h g k.0 m.0 x) k.2 m.2
  where
    go : entered t h + left t g ≡ entered t g + left t h
        → ((entered t h ≡ left t h) × (entered (burst bd t) h ≡ left (burst bd t) h)) ⊎ ((left t h < entered t h) × (entered (burst bd t) h ≡ left (burst bd t) h + 1))
        → ((entered t g ≡ left t g) × (entered (burst bd t) g ≡ left (burst bd t) g)) ⊎ ((left t g < entered t g) × (entered (burst bd t) g ≡ left (burst bd t) g + 1))
        → entered (burst bd t) h + left (burst bd t) g ≡ entered (burst bd t) g + left (burst bd t) h
    go e (inl p) (inl q) = omega (arith, p.1, q.1)
    go e (inl p) (inr q) = absurd (omega (arith, p.0, q.0, e))
    go e (inr p) (inl q) = absurd (omega (arith, p.0, q.0, e))
    go e (inr p) (inr q) = omega (arith, p.1, q.1)

-- one more event keeps them alike
pub alike_began : (t : Tree) (h g : List Event) (a : OpId) → PartsKeep t h → PartsKeep t g → PartsKeep t (h ++ Began a ∷ []) → PartsKeep t (g ++ Began a ∷ []) → Alike t h g
    → Alike t (h ++ Began a ∷ []) (g ++ Began a ∷ [])
alike_began (op b) h g a k m k' m' x =
    let p = counts_add_up b h (Began a ∷ []) in
    let q = counts_add_up b g (Began a ∷ []) in
    omega (arith, x, p.0, p.1, q.0, q.1)
alike_began (seq l r) h g a k m k' m' x =
    let y = alike_began l h g a k.0 m.0 k'.0 m'.0 x.0 in
    let z = alike_began r h g a k.1 m.1 k'.1 m'.1 x.1 in (
      y,
      z,
      omega (
        arith,
        x.2,
        alike_underway r h g k.1 m.1 x.1,
        alike_underway r (h ++ Began a ∷ []) (g ++ Began a ∷ []) k'.1 m'.1 z,
        left_began l h a,
        left_began l g a,
        left_began r h a,
        left_began r g a,
      ),
    )
alike_began (alt l r) h g a k m k' m' x = (alike_began l h g a k.0 m.0 k'.0 m'.0 x.0, alike_began r h g a k.1 m.1 k'.1 m'.1 x.1)
alike_began (burst bd t) h g a k m k' m' x = alike_began t h g a k.0 m.0 k'.0 m'.0 x

pub alike_ended : (t : Tree) (h g : List Event) (a : OpId) → PartsKeep t h → PartsKeep t g → PartsKeep t (h ++ Ended a ∷ []) → PartsKeep t (g ++ Ended a ∷ []) → Alike t h g
    → Alike t (h ++ Ended a ∷ []) (g ++ Ended a ∷ [])
alike_ended (op b) h g a k m k' m' x =
    let p = counts_add_up b h (Ended a ∷ []) in
    let q = counts_add_up b g (Ended a ∷ []) in
    omega (arith, x, p.0, p.1, q.0, q.1)
alike_ended (seq l r) h g a k m k' m' x =
    let y = alike_ended l h g a k.0 m.0 k'.0 m'.0 x.0 in
    let z = alike_ended r h g a k.1 m.1 k'.1 m'.1 x.1 in (
      y,
      z,
      omega (
        arith,
        x.2,
        alike_underway l h g k.0 m.0 x.0,
        alike_underway l (h ++ Ended a ∷ []) (g ++ Ended a ∷ []) k'.0 m'.0 y,
        entered_ended l h a,
        entered_ended l g a,
        entered_ended r h a,
        entered_ended r g a,
      ),
    )
alike_ended (alt l r) h g a k m k' m' x = (alike_ended l h g a k.0 m.0 k'.0 m'.0 x.0, alike_ended r h g a k.1 m.1 k'.1 m'.1 x.1)
alike_ended (burst bd t) h g a k m k' m' x = alike_ended t h g a k.0 m.0 k'.0 m'.0 x

-- what stands against a start after the one stands against it after the other
where_same : (b : Bool) (P Q R S : Type 0) → (P → R) → (Q → S) → Where b P Q → Where b R S
where_same true P Q R S f g x = f x
where_same false P Q R S f g x = g x

full_same : (bd : Bound) (t : Tree) (h g : List Event) → entered t h + left t g ≡ entered t g + left t h → IsFull bd t h → IsFull bd t g
full_same any t h g e f = f
full_same (most n) t h g e f = omega (arith, e, f)

pub against_same : (t : Tree) (h g : List Event) (a : OpId) → PartsKeep t h → PartsKeep t g → Alike t h g → (P Q : Type 0) → (P → Q) → Against t h a P → Against t g a Q
against_same (op b) h g a k m x P Q f y = f y
against_same (seq l r) h g a k m x P Q f y =
    where_same (has l a) _ _ _ _ (against_same l h g a k.0 m.0 x.0 P Q f) (against_same r h g a k.1 m.1 x.1 _ _ (λ z. omega (arith, z, x.2))) y
against_same (alt l r) h g a k m x P Q f y =
    where_same (has l a) _ _ _ _ (against_same l h g a k.0 m.0 x.0 P Q f) (against_same r h g a k.1 m.1 x.1 P Q f) y
against_same (burst bd t) h g a k m x P Q f y = against_same t h g a k.0 m.0 x _ _ over y
  where
    inside : entered t h + left t g ≡ entered t g + left t h
    inside = alike_underway t h g k.0 m.0 x

    over : IsFull bd t h ⊎ (P × (entered t h ≤ left t h)) → IsFull bd t g ⊎ (Q × (entered t g ≤ left t g))
    over (inl z) = inl (full_same bd t h g inside z)
    over (inr z) = inr (f z.0, omega (arith, z.1, inside))
