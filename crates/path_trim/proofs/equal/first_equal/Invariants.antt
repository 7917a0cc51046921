-- The paths so far have other trees.
use Rattle.std.proofs.Common.{All, take}
use Rattle.path_model.specs.Trees.{shape}
use Rattle.path_trim.specs.Inner.FirstEqual.{HasOther}
use Rattle.path_trim.proofs.equal.first_equal.Given as goal

abbrev pub invariant-loop-place : goal.invariant-loop-place
invariant-loop-place g l = All (HasOther (shape l.tree)) (take l.place l.paths)
