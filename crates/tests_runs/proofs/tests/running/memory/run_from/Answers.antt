-- A system may go to another thread.
use denote.Param.Send.{sendable}
use Rattle.path_system.proofs.CallerLemmas.{system_send}
use Rattle.tests_runs.proofs.tests.running.memory.run_from.Goals as goal

pub run-requires-send-S : goal.run-requires-send-S
run-requires-send-S g c κs within = search (sendable, system_send) depth 20
