-- Why a path forbids a start, in words of operations.
use Rattle.std.specs.Prelude.{◌≤◌, ◌+◌, Bool, true, false, List, [], ◌∷◌, ◌++◌, ◌⊎◌, ◌↔◌}
use Rattle.path_model.specs.declared.ids.OpId.{OpId}
use Rattle.path_model.specs.declared.history.Event.{Event}
use Rattle.path_model.specs.declared.history.Event.TheVariants.{Began, Ended}
use Rattle.path_model.specs.Trees.{Bound, any, most, Tree, op, seq, alt, burst, Names, WellFormed, has}
use Rattle.path_model.specs.Histories.{InProgress}
use Rattle.path_model.specs.Projection.{LegalOn}
use Rattle.path_model.specs.Legal.{Forbids}
use Rattle.path_model.specs.Executions.{entered, left, TreeInProgress}

-- as many executions as the bound allows are underway
abbrev pub IsFull : Bound → Tree → List Event → Type 0
IsFull any t h = ⊥
IsFull (most n) t h = left t h + n ≤ entered t h

-- the one where the test holds, and otherwise the other
abbrev pub Where : Bool → Type 0 → Type 0 → Type 0
Where true P Q = P
Where false P Q = Q

-- what stands against a start, where P does against each entry: a left operand that has to end first, braces that are full or may not open
abbrev pub Against : Tree → List Event → OpId → Type 0 → Type 0
Against (op b) h a P = P
Against (seq l r) h a P = Where (has l a) (Against l h a P) (Against r h a (left l h ≤ entered r h))
Against (alt l r) h a P = Where (has l a) (Against l h a P) (Against r h a P)
Against (burst bd t) h a P = Against t h a (IsFull bd t h ⊎ (P × (entered t h ≤ left t h)))

-- what stands against a start in a whole path, whose entry waits until it is no longer underway
abbrev pub StandsAgainst : Tree → List Event → OpId → Type 0
StandsAgainst s h a = Against s h a (TreeInProgress s h)

-- a start is forbidden exactly where something stands against it
abbrev pub EachRefusalHasAReason : Type 0
EachRefusalHasAReason =
    (s : Tree) → WellFormed s → (h : List Event) → LegalOn s h
    → (a : OpId) → Forbids h a s ↔ (Names s a × StandsAgainst s h a)

-- and is legal exactly where nothing does
abbrev pub StartsAreLegalUnlessOpposed : Type 0
StartsAreLegalUnlessOpposed =
    (s : Tree) → WellFormed s → (h : List Event) → LegalOn s h
    → (a : OpId) → LegalOn s (h ++ Began a ∷ []) ↔ (Names s a → StandsAgainst s h a → ⊥)

-- a finish is legal exactly where its operation is in progress
abbrev pub FinishesAreLegalInProgress : Type 0
FinishesAreLegalInProgress =
    (s : Tree) → WellFormed s → (h : List Event) → LegalOn s h
    → (a : OpId) → LegalOn s (h ++ Ended a ∷ []) ↔ (Names s a → InProgress a h)
