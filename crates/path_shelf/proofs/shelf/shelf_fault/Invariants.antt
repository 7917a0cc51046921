-- The devices so far have the laws of their resources.
use Rattle.std.proofs.Common.{◌≡◌, take}
use Rattle.std.specs.Prelude.{map}
use Rattle.path_shelf.specs.States.{laws_of}
use Rattle.path_shelf.specs.Shelves.{declared_laws}
use Rattle.path_shelf.proofs.shelf.shelf_fault.Given as goal

abbrev pub invariant-loop-i : goal.invariant-loop-i
invariant-loop-i g l = take l.i (laws_of (map g.D.Device.state l.devices)) ≡ take l.i (declared_laws l.decl.declaration)
