use Rattle.std.proofs.Common.{◌<◌, length}
use Rattle.path_read.specs.Inner.Reading.{told}
use Rattle.path_read.specs.Inner.Taking.{taken}
use Rattle.path_read.proofs.Lists.{ReachedBody}
use Rattle.path_read.proofs.outline.body.Given as goal

abbrev pub invariant-loop-at : goal.invariant-loop-at
invariant-loop-at g l = record { shorter : length l.rest < length l.tokens; reached : ReachedBody (told l.tokens) (taken l.fn.out) (told l.rest) (taken l.out) }

abbrev pub decreases-loop-at : goal.decreases-loop-at
decreases-loop-at g l = length l.rest
