-- A system may go to another thread.
use denote.Param.Send.{sendable}
use Rattle.path_system.proofs.CallerLemmas.{system_send}
use Rattle.bench_desk.proofs.readers.timed_at.Goals as goal

pub measured-requires-send-S : goal.measured-requires-send-S
measured-requires-send-S g c κs within = search (sendable, system_send) depth 20
