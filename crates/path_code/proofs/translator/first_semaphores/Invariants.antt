-- The semaphores so far.
use Rattle.std.proofs.Common.{◌≡◌}
use Rattle.path_code.proofs.NumberLists.{first_values}
use Rattle.path_code.proofs.translator.first_semaphores.Given as goal

abbrev pub invariant-loop-number : goal.invariant-loop-number
invariant-loop-number g l = l.semaphores.items ≡ first_values l.own l.number
