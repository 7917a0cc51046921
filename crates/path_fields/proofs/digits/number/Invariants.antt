-- Some digits were read.
use Rattle.std.proofs.Common.{◌-◌, length}
use Rattle.path_fields.proofs.Numbers.{ReadSoFar}
use Rattle.path_fields.proofs.digits.number.Given as goal

abbrev pub invariant-loop-digit : goal.invariant-loop-digit
invariant-loop-digit l = ReadSoFar l.text l.at l.value

abbrev pub decreases-loop-digit : goal.decreases-loop-digit
decreases-loop-digit l = length l.text - l.at
