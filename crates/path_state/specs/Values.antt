-- Where a path stands says what the values of its semaphores are.
use Rattle.std.specs.Prelude.{◌≡◌, ◌+◌, ℕ, List, slice_index}
use Rattle.path_model.specs.declared.ids.OpId.{OpId}
use Rattle.path_model.specs.declared.history.Event.{Event}
use Rattle.path_model.specs.Trees.{Tree, op, seq, alt, burst, WellFormed}
use Rattle.path_model.specs.BurstCounts.{Spare}
use Rattle.path_model.specs.Machine.{semicolons, braces, Values, opening}
use Rattle.path_model.specs.AmongOthers.{values_among}
use Rattle.path_state.specs.Standings.{LeadsTo}
use Rattle.path_state.specs.Pasts.{underway}

-- The semaphore of a `;` is the number that stands behind it, the counter of braces the number of their executions that are underway, and
-- a bound's semaphore what is left of it. The first `;` of the tree has this place, and its first braces this number.
abbrev pub PartsStand : Tree → ℕ → ℕ → (OpId → ℕ) → List ℕ → Values → Type 0
PartsStand (op a) place m progress stands v = Unit {0}
PartsStand (seq l r) place m progress stands v =
    PartsStand l place m progress stands v × PartsStand r (place + semicolons l + 1) (m + braces l) progress stands v
    × (v.semaphore (place + semicolons l + 1) ≡ slice_index stands (place + semicolons l))
PartsStand (alt l r) place m progress stands v =
    PartsStand l place m progress stands v × PartsStand r (place + semicolons l) (m + braces l) progress stands v
PartsStand (burst bd t) place m progress stands v =
    PartsStand t place (m + 1) progress stands v × (v.counter m ≡ underway t place progress stands) × Spare bd (v.bound m) (v.counter m)

-- and the path's own semaphore is 1 exactly where no execution of it is underway
pub record ValuesStand (s : Tree) (progress : OpId → ℕ) (stands : List ℕ) (v : Values) : Type 0 where
  pub parts : PartsStand s 0 0 progress stands v
  pub own : v.semaphore 0 + underway s 0 progress stands ≡ 1

-- the values follow from what is in progress and what stands behind each `;`
abbrev pub StandingsTellTheValues : Type 0
StandingsTellTheValues =
    (s : Tree) → WellFormed s → (progress : OpId → ℕ) (stands : List ℕ) (h : List Event)
    → LeadsTo s progress stands h → ValuesStand s progress stands (values_among s (opening s) h)
