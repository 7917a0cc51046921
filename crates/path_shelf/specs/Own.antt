-- The state of the one type of device for all laws.
use Rattle.std.specs.Prelude.{[], ◌∷◌}
use Rattle.path_model.specs.declared.resource.Law.TheVariants as laws
use Rattle.path_shelf.specs.declared.own.OwnDevice.{OwnDevice}
use Rattle.path_shelf.specs.declared.own.OwnDevice.TheVariants as kinds
use Rattle.path_shelf.specs.States.{State}

-- the state of the cell, tally or queue that it is
abbrev pub own_state : {Y : Type 0} → OwnDevice Y → State
own_state (kinds.Cell c) = record { law = laws.Cell; contents = c.number ∷ []; failures = 0 }
own_state (kinds.Tally t) = record { law = laws.Tally; contents = t.total ∷ []; failures = 0 }
own_state (kinds.Queue q) = record { law = laws.Queue q.capacity; contents = q.numbers.items; failures = 0 }
