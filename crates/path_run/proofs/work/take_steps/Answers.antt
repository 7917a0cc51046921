use Rattle.path_run.proofs.Steps.{stopped_at, done_at}
use Rattle.path_run.proofs.work.take_steps.Goals as goal

pub returns-then-not-may_step-clause-run : goal.returns-then-not-may_step-clause-run
returns-then-not-may_step-clause-run g c = stopped_at c.args.steps.now c.loop-place.place c.loop-place.entered c.loop-place.pass.receipts c.loop-place-test.true c.loop-place.invariant.2

pub returns-clause-run : goal.returns-clause-run
returns-clause-run g c = done_at c.args.steps.now c.loop-place.place c.loop-place.entered c.loop-place.pass.receipts c.loop-place-test.false c.loop-place.invariant.1 c.loop-place.invariant.2
