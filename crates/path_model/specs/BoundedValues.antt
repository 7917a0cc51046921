-- How large values can become.
use Rattle.std.specs.Prelude.{◌≤◌, ◌<◌, ◌+◌, ℕ, List}
use Rattle.path_model.specs.declared.history.Event.{Event}
use Rattle.path_model.specs.Trees.{Tree, WellFormed}
use Rattle.path_model.specs.Histories.{starts_in}
use Rattle.path_model.specs.Behaviour.{Behaves}
use Rattle.path_model.specs.Projection.{LegalOn}
use Rattle.path_model.specs.Legal.{Every, Legal}
use Rattle.path_model.specs.Machine.{semicolons, braces, Values, bound_at, opening, values_after}
use Rattle.path_model.specs.AmongOthers.{values_among}
use Rattle.path_model.specs.Flat.{HasBound, Sited, sited, bound_number, Table, flat_from, flat_opening}

-- bounds on the values of the path after n starts
pub record Bounded (s : Tree) (v : Values) (n : ℕ) : Type 0 where
  pub semaphores : (q : ℕ) → v.semaphore q ≤ 1 + n
  pub counters : (c : ℕ) → v.counter c ≤ n
  -- a bound's semaphore stays within the bound
  pub limits : (c : ℕ) → v.bound c ≤ bound_at s 0 c

abbrev pub EachValueIsBounded : Type 0
EachValueIsBounded = (s : Tree) → WellFormed s → (h : List Event) → Behaves s h → Bounded s (values_after s h) (starts_in h)

-- the same for a path among others
abbrev pub ValuesAmongAreBounded : Type 0
ValuesAmongAreBounded =
    (s : Tree) → WellFormed s → (h : List Event) → LegalOn s h → Bounded s (values_among s (opening s) h) (starts_in h)

-- bounds on the values of the path in the table after n starts
pub record BoundedInTable (x : Sited) (v : Table) (n : ℕ) : Type 0 where
  pub semaphores : (q : ℕ) → q ≤ semicolons x.tree → v.semaphore (x.own + q) ≤ 1 + n
  pub counters : (c : ℕ) → c < braces x.tree → v.counter (x.first + c) ≤ n
  pub limits : (c : ℕ) → HasBound x.tree 0 c → v.semaphore (bound_number x c) ≤ bound_at x.tree 0 c

-- the same for all paths in one table
abbrev pub TableValuesAreBounded : Type 0
TableValuesAreBounded =
    (xs : List (ℕ × Tree)) → Every WellFormed xs → (h : List Event) → Legal xs h
    → Every (λ x. BoundedInTable x (flat_from (sited 0 0 xs) (flat_opening (sited 0 0 xs)) h) (starts_in h)) (sited 0 0 xs)
