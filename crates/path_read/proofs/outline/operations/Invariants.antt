use Rattle.std.proofs.Common.{◌<◌, length}
use Rattle.path_read.specs.Inner.Reading.{told}
use Rattle.path_read.specs.Inner.Taking.{taken}
use Rattle.path_read.proofs.Lists.{ReachedNames}
use Rattle.path_read.proofs.outline.operations.Given as goal

abbrev pub invariant-loop-left : goal.invariant-loop-left
invariant-loop-left g l = record { shorter : length l.rest < length l.tokens; reached : ReachedNames (told l.tokens) (taken l.fn.out) (told l.rest) (taken l.out) }

abbrev pub decreases-loop-left : goal.decreases-loop-left
decreases-loop-left g l = length l.rest
