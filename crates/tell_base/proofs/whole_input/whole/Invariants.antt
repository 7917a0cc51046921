-- Some lines were passed, and none was a mark.
use Rattle.std.proofs.Common.{length}
use Rattle.tell_base.proofs.WholeLemmas.{Passed}
use Rattle.tell_base.proofs.whole_input.whole.Given as goal

abbrev pub invariant-loop-line : goal.invariant-loop-line
invariant-loop-line l = Passed l.input l.at l.rest

abbrev pub decreases-loop-line : goal.decreases-loop-line
decreases-loop-line l = length l.rest
