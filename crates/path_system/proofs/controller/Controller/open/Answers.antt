-- The room and the devices are tested first.
use Rattle.path_system.proofs.Opened.{good_room}
use Rattle.path_system.proofs.controller.Controller.open.Goals as goal

pub over-requires-clause-room : goal.over-requires-clause-room
over-requires-clause-room g c = good_room c.args.room c.in-None.ensures.none.0
