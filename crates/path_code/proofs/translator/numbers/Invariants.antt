-- The numbers so far.
use Rattle.std.proofs.Common.{◌≡◌}
use Rattle.path_code.proofs.NumberLists.{between}
use Rattle.path_code.proofs.translator.numbers.Given as goal

abbrev pub invariant-loop-number : goal.invariant-loop-number
invariant-loop-number g l = l.numbers.items ≡ between l.first l.number
