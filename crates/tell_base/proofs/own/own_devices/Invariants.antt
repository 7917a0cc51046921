-- The devices so far are those of the first resources.
use Rattle.std.proofs.Common.{◌≡◌, take}
use Rattle.std.specs.Prelude.{map}
use Rattle.path_shelf.specs.Own.{own_state}
use Rattle.tell_base.specs.Own.{own_states}
use Rattle.tell_base.proofs.own.own_devices.Given as goal

abbrev pub invariant-loop-number : goal.invariant-loop-number
invariant-loop-number g l = map own_state l.devices.items ≡ take l.number (own_states l.decl.declaration)
