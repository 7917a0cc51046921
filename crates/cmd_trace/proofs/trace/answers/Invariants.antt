-- The first attempts got their replies.
use Rattle.std.proofs.Common.{length}
use Rattle.path_shelf.specs.States.{MayFail}
use Rattle.cmd_trace.proofs.TraceLemmas.{AnswersSoFar}
use Rattle.cmd_trace.proofs.trace.answers.Given as goal

abbrev pub invariant-loop-rest : goal.invariant-loop-rest
invariant-loop-rest g l = AnswersSoFar (MayFail g.D.Device.state) l.initial.system l.system l.attempts l.rest l.trace.items l.number

abbrev pub decreases-loop-rest : goal.decreases-loop-rest
decreases-loop-rest g l = length l.rest
