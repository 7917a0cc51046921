-- What is left of the operations so far.
use Rattle.std.proofs.Common.{◌≡◌, map, take}
use Rattle.path_trim.specs.Inner.Steps.{op_kept}
use Rattle.path_trim.proofs.left.lean_ops.Given as goal

abbrev pub invariant-loop-op : goal.invariant-loop-op
invariant-loop-op g l = l.lean.items ≡ map (op_kept l.whole) (take l.op-index l.ops)
