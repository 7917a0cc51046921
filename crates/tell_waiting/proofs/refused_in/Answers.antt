-- The line is the start that a path refused.
use Rattle.tell_waiting.proofs.Steps.{waits_now}
use Rattle.tell_waiting.proofs.refused_in.Goals as goal

pub returns-in-Start-Blocked-clause-some : goal.returns-in-Start-Blocked-clause-some
returns-in-Start-Blocked-clause-some c = waits_now c.args.line.now c.in-Start-Blocked.op _ c.in-Start-Blocked.is-0 c.in-Start-Blocked.is-1
