-- The lines so far were taken.
use Rattle.std.proofs.Common.{◌≡◌, take}
use Rattle.std.specs.Prelude.{map}
use Rattle.path_model.specs.Rooms.{IsRoom}
use Rattle.path_shelf.specs.Shelves.{declared_laws}
use Rattle.path_shelf.specs.States.{laws_of}
use Rattle.path_system.specs.Accounts.{IsSystem}
use Rattle.path_system.specs.Resumed.{after_lines}
use Rattle.path_system.proofs.system.System.resume.Given as goal

abbrev pub invariant-loop-n : goal.invariant-loop-n
invariant-loop-n g l = record {
  taken : l.system ≡ after_lines l.fn.decl.declaration l.room (map g.D.Device.state l.fn.devices.items) (take l.n l.lines) l.system.failures;
  system : IsSystem l.system;
  laws : laws_of (map g.D.Device.state l.fn.devices.items) ≡ declared_laws l.fn.decl.declaration;
  good_room : IsRoom l.room;
}
