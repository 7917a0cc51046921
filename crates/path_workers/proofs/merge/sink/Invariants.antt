use Rattle.std.proofs.Common.{◌≡◌, ◌-◌, length}
use Rattle.path_workers.proofs.merge.sink.Given as goal

abbrev pub invariant-loop-slot : goal.invariant-loop-slot
invariant-loop-slot g l = l.passes ≡ l.fn.passes

abbrev pub decreases-loop-slot : goal.decreases-loop-slot
decreases-loop-slot g l = length l.passes - l.slot
