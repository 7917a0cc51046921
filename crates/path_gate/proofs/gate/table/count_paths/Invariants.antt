-- Each operation has a count.
use Rattle.std.proofs.Common.{◌≡◌, length}
use Rattle.path_gate.proofs.gate.table.count_paths.Given as goal

abbrev pub invariant-loop-path : goal.invariant-loop-path
invariant-loop-path g l = length l.counts.items ≡ 256
