-- A system may go to another thread.
use denote.Param.Send.{sendable}
use Rattle.path_system.proofs.CallerLemmas.{system_send}
use Rattle.example_desk.proofs.served.Goals as goal

pub served_by_two-requires-send-S : goal.served_by_two-requires-send-S
served_by_two-requires-send-S g c κs within = search (sendable, system_send) depth 20
