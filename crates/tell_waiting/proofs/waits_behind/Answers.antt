-- A line of another worker's that is no finish.
use Rattle.tell_waiting.proofs.Steps.{waits_on, waits_as_little}
use Rattle.tell_waiting.proofs.waits_behind.Goals as goal

pub returns-clause-some : goal.returns-clause-some
returns-clause-some c = waits_on c.args.waits c.args.worker c.args.line.now c.if-line-worker.false c.in_default.not-Finished

pub returns-clause-none : goal.returns-clause-none
returns-clause-none c = waits_as_little c.args.waits c.args.worker c.args.line.now c.if-line-worker.false
