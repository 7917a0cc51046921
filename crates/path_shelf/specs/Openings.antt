-- What a new device contains.
use Rattle.std.specs.Prelude.{ℕ, List, [], ◌∷◌}
use Rattle.path_model.specs.declared.resource.Law.{Law}
use Rattle.path_model.specs.declared.resource.Law.TheVariants.{Cell, Tally, Queue}
use Rattle.path_shelf.specs.States.{State}

-- 0 in a cell and a tally, nothing in a queue
abbrev pub opening_numbers : Law → List ℕ
opening_numbers Cell = 0 ∷ []
opening_numbers Tally = 0 ∷ []
opening_numbers (Queue n) = []

-- a new device of this law
abbrev pub opening_state : Law → State
opening_state law = record { law = law; contents = opening_numbers law; failures = 0 }
