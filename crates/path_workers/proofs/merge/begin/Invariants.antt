use Rattle.std.proofs.Common.{◌≡◌}
use Rattle.path_workers.proofs.merge.begin.Given as goal

abbrev pub invariant-loop-slot : goal.invariant-loop-slot
invariant-loop-slot g l = l.passes ≡ l.fn.passes
