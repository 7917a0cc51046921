-- Where a path can stand: the standings to which a history of the path alone leads.
use Rattle.std.specs.Prelude.{◌≡◌, ◌==◌, ◌≤◌, ◌+◌, ◌*◌, if◌then◌else◌, ℕ, List, length, slice_index, ◌↔◌}
use Rattle.path_model.specs.declared.ids.OpId.{OpId}
use Rattle.path_model.specs.declared.history.Event.{Event}
use Rattle.path_model.specs.Trees.{Tree, op, seq, alt, burst, WellFormed}
use Rattle.path_model.specs.Histories.{starts_in}
use Rattle.path_model.specs.Machine.{semicolons}
use Rattle.path_model.specs.Guarantees.{FitsBound}
use Rattle.path_state.specs.Standings.{LeadsTo}

-- How many executions of the tree are underway: what is in progress and what stands behind a `;`, where all within braces count as one.
-- The first `;` of the tree has this place in the path.
abbrev pub underway : Tree → ℕ → (OpId → ℕ) → List ℕ → ℕ
underway (op a) place progress stands = progress a
underway (seq l r) place progress stands =
    underway l place progress stands + slice_index stands (place + semicolons l) + underway r (place + semicolons l + 1) progress stands
underway (alt l r) place progress stands = underway l place progress stands + underway r (place + semicolons l) progress stands
underway (burst bd t) place progress stands = if underway t place progress stands == 0 then 0 else 1

-- no braces have more executions underway than their bound
abbrev pub BoundsFit : Tree → ℕ → (OpId → ℕ) → List ℕ → Type 0
BoundsFit (op a) place progress stands = Unit {0}
BoundsFit (seq l r) place progress stands = BoundsFit l place progress stands × BoundsFit r (place + semicolons l + 1) progress stands
BoundsFit (alt l r) place progress stands = BoundsFit l place progress stands × BoundsFit r (place + semicolons l) progress stands
BoundsFit (burst bd t) place progress stands = BoundsFit t place progress stands × FitsBound bd (underway t place progress stands) 0

-- A path can stand so: there is a number for each `;`, bounds are kept, and of the whole path at most one execution is underway.
pub record CanStand (s : Tree) (progress : OpId → ℕ) (stands : List ℕ) : Type 0 where
  pub places : length stands ≡ semicolons s
  pub bounds : BoundsFit s 0 progress stands
  pub one : underway s 0 progress stands ≤ 1

-- a history of the path leads there
abbrev pub Past : Tree → (OpId → ℕ) → List ℕ → Type 0
Past s progress stands = (h : List Event) × LeadsTo s progress stands h

-- a path can stand so exactly if it has a past
abbrev pub EachStandingHasAPast : Type 0
EachStandingHasAPast =
    (s : Tree) → WellFormed s → (progress : OpId → ℕ) (stands : List ℕ) → CanStand s progress stands ↔ Past s progress stands

-- how many executions of its operations are in progress, and how many stand behind a `;`, all together
abbrev pub in_all : Tree → ℕ → (OpId → ℕ) → List ℕ → ℕ
in_all (op a) place progress stands = progress a
in_all (seq l r) place progress stands =
    in_all l place progress stands + slice_index stands (place + semicolons l) + in_all r (place + semicolons l + 1) progress stands
in_all (alt l r) place progress stands = in_all l place progress stands + in_all r (place + semicolons l) progress stands
in_all (burst bd t) place progress stands = in_all t place progress stands

-- how many names there are in a tree
abbrev pub names_in : Tree → ℕ
names_in (op a) = 1
names_in (seq l r) = names_in l + names_in r
names_in (alt l r) = names_in l + names_in r
names_in (burst bd t) = names_in t

-- the history leads there, and for each execution that is in progress or stands behind a `;` it has at most one start of each name
pub record IsShortPast (s : Tree) (progress : OpId → ℕ) (stands : List ℕ) (h : List Event) : Type 0 where
  pub leads : LeadsTo s progress stands h
  pub few : starts_in h ≤ in_all s 0 progress stands * names_in s

-- wherever a path can stand, it can have come there by a short history
abbrev pub EachStandingHasAShortPast : Type 0
EachStandingHasAShortPast =
    (past : Tree → (OpId → ℕ) → List ℕ → List Event)
    × ((s : Tree) → WellFormed s → (progress : OpId → ℕ) (stands : List ℕ) → CanStand s progress stands
    → IsShortPast s progress stands (past s progress stands))
