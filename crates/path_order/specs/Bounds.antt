-- How long one waits: nothing that its operation excludes begins while its way is clear.
use Rattle.std.specs.Prelude.{◌+◌, ◌<◌, ◌≤◌, ℕ, List, [], ◌∷◌, ◌++◌, length, take, Option, Some, None}
use Rattle.path_model.specs.declared.ids.OpId.{OpId}
use Rattle.path_model.specs.declared.history.Event.{Event}
use Rattle.path_model.specs.declared.history.Event.TheVariants.{Began, Ended}
use Rattle.path_model.specs.Trees.{Tree}
use Rattle.path_model.specs.Histories.{begun, ended, InProgress}
use Rattle.path_model.specs.Legal.{Legal}
use Rattle.path_order.specs.declared.waiting.Waiter.{Waiter}
use Rattle.path_order.specs.declared.ruling.Ruling.{Ruling}
use Rattle.path_order.specs.declared.ruling.Ruling.TheVariants.{Goes}
use Rattle.path_order.specs.Waiting.{asked, waiter_at}
use Rattle.path_order.specs.Ways.{IsClear}

-- the ends of these
abbrev pub ends_of : List OpId → List Event
ends_of [] = []
ends_of (a ∷ run) = Ended a ∷ ends_of run

-- what runs is in progress: each operation as often as it runs, or more often
abbrev pub AreInProgress : List OpId → List Event → Type 0
AreInProgress run h = (a : OpId) → ended a (ends_of run) + ended a h ≤ begun a h

-- y excludes x: while x is in progress, some path forbids y
abbrev pub Excludes : List (ℕ × Tree) → OpId → OpId → Type 0
Excludes xs y x = (h : List Event) → Legal xs h → InProgress x h → Legal xs (h ++ Began y ∷ []) → ⊥

-- none of those ahead who have shut their door before w arrived, and whose way is clear, excludes what w asks for
abbrev pub IsExcludedByNone : List (ℕ × Tree) → List Event → List OpId → List Waiter → Waiter → Type 0
IsExcludedByNone xs h run ahead w =
    AreInProgress run h → (j : ℕ) → j < length ahead → (waiter_at ahead j).shut_at < w.arrived
    → IsClear xs h run (asked (waiter_at ahead j)) → Excludes xs (asked (waiter_at ahead j)) (asked w) → ⊥

-- a start that goes is excluded by none of those ahead
abbrev pub KeepsTheDoor : List (ℕ × Tree) → List Event → List OpId → List Waiter → Waiter → Ruling → Type 0
KeepsTheDoor xs h run ahead w Goes = IsExcludedByNone xs h run ahead w
KeepsTheDoor xs h run ahead w ruling = Unit {0}

-- who is next is excluded by none before it
abbrev pub LetsInUnopposed : List (ℕ × Tree) → List Event → List OpId → List Waiter → Option ℕ → Type 0
LetsInUnopposed xs h run ws None = Unit {0}
LetsInUnopposed xs h run ws (Some i) = IsExcludedByNone xs h run (take i ws) (waiter_at ws i)
