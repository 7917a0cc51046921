-- The program's own devices: what they are at first.
use Rattle.std.specs.Prelude.{ℕ, List, map}
use Rattle.path_model.specs.Declarations.{Declaration}
use Rattle.path_shelf.specs.States.{State}
use Rattle.path_shelf.specs.Openings.{opening_numbers, opening_state}

-- their states: each cell and tally contains 0, each queue is empty
abbrev pub own_states : Declaration → List State
own_states d = map (λ r. opening_state r.law) d.resources

-- what they contain: 0 in each cell and tally, nothing in each queue
abbrev pub own_openings : Declaration → List (List ℕ)
own_openings d = map (λ r. opening_numbers r.law) d.resources
