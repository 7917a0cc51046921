-- A system may go to another thread.
use denote.Param.Send.{sendable}
use Rattle.path_system.proofs.CallerLemmas.{system_send}
use Rattle.example_buffer.proofs.shared.Goals as goal

pub shared_by_two-requires-send-S : goal.shared_by_two-requires-send-S
shared_by_two-requires-send-S g c κs within = search (sendable, system_send) depth 20
