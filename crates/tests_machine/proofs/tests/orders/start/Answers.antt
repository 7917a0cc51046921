-- The gate has one more start, or is as it was.
use Rattle.path_order.proofs.CallerLemmas.{runs_started, ready_moved}
use Rattle.tests_machine.proofs.tests.orders.start.Goals as goal

pub returns-in-Ok-clause-runs : goal.returns-in-Ok-clause-runs
returns-in-Ok-clause-runs g c = runs_started c.args.door.now.gate c.admit.new.self c.args.op c.admit.result c.in-Ok.field-0 c.in-Ok.is c.requires.runs c.admit.ensures.judges c.in-Ok.ensures.ok

pub returns-in-Ok-clause-ready : goal.returns-in-Ok-clause-ready
returns-in-Ok-clause-ready g c = ready_moved c.args.door.now.gate c.admit.new.self c.args.door.now.order.spares c.in-Ok.ensures.ok.paths c.in-Ok.ensures.places c.requires.ready
