-- A system may go to another thread.
use denote.Param.Send.{sendable}
use Rattle.path_system.proofs.CallerLemmas.{system_send}
use Rattle.tests_runs.proofs.tests.workers.threads.worked.Goals as goal

pub settled-requires-send-S : goal.settled-requires-send-S
settled-requires-send-S g c κs within = search (sendable, system_send) depth 20
