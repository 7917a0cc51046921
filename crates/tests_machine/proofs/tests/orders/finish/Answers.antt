-- The gate has one more finish.
use Rattle.std.proofs.Common.{arith}
use Rattle.path_order.proofs.CallerLemmas.{runs_finished, ready_moved}
use Rattle.tests_machine.proofs.tests.orders.finish.Goals as goal

pub returns-then-in_progress-gt0-clause-runs : goal.returns-then-in_progress-gt0-clause-runs
returns-then-in_progress-gt0-clause-runs g c = runs_finished c.args.door.now.gate c.release.new.self c.args.op c.requires.ready.clear.well_formed (omega (arith, c.in_progress.ensures.counted)) c.requires.runs c.release.ensures.moves

pub returns-then-in_progress-gt0-clause-ready : goal.returns-then-in_progress-gt0-clause-ready
returns-then-in_progress-gt0-clause-ready g c = ready_moved c.args.door.now.gate c.release.new.self c.args.door.now.order.spares c.release.ensures.moves.paths c.release.ensures.places c.requires.ready
