use Rattle.std.proofs.Common.{◌*◌, ◌+◌, ◌<◌, length}
use Rattle.path_read.specs.Inner.Reading.{told}
use Rattle.path_read.specs.Inner.Taking.{taken}
use Rattle.path_read.proofs.Reached.{ReachedAlt, ReachedSeq}
use Rattle.path_read.proofs.grammar.+grammar.Given as goal

abbrev pub decreases-alt : goal.decreases-alt
decreases-alt g l = 4 * l.depth + 2

abbrev pub decreases-seq : goal.decreases-seq
decreases-seq g l = 4 * l.depth + 3

abbrev pub decreases-unit : goal.decreases-unit
decreases-unit g l = 4 * l.depth + 1

abbrev pub decreases-braces : goal.decreases-braces
decreases-braces g l = 4 * l.depth

abbrev pub invariant-alt-loop-at : goal.invariant-alt-loop-at
invariant-alt-loop-at g l = record { shorter : length l.rest < length l.tokens; reached : ReachedAlt l.depth (told l.tokens) (taken l.fn.out) (told l.rest) (taken l.out) }

abbrev pub decreases-alt-loop-at : goal.decreases-alt-loop-at
decreases-alt-loop-at g l = length l.rest

abbrev pub invariant-seq-loop-at : goal.invariant-seq-loop-at
invariant-seq-loop-at g l = record { shorter : length l.rest < length l.tokens; reached : ReachedSeq l.depth (told l.tokens) (taken l.fn.out) (told l.rest) (taken l.out) }

abbrev pub decreases-seq-loop-at : goal.decreases-seq-loop-at
decreases-seq-loop-at g l = length l.rest
