use Rattle.std.proofs.Common.{length}
use Rattle.path_read.specs.Inner.Reading.{told}
use Rattle.path_read.specs.Inner.Taking.{taken}
use Rattle.path_read.proofs.Lists.{ReachedFile}
use Rattle.path_read.proofs.outline.resources.Given as goal

abbrev pub invariant-loop-rest : goal.invariant-loop-rest
invariant-loop-rest g l = ReachedFile (told l.tokens) (taken l.fn.out) (told l.rest) (taken l.out)

abbrev pub decreases-loop-rest : goal.decreases-loop-rest
decreases-loop-rest g l = length l.rest
