-- The result for the paths so far.
use Rattle.std.proofs.Common.{take}
use Rattle.path_code.specs.PathCodes.{sites}
use Rattle.path_trim.proofs.Walk.{Made}
use Rattle.path_trim.proofs.trimming.trimmed.Given as goal

abbrev pub invariant-loop-number : goal.invariant-loop-number
invariant-loop-number g l = Made l.parts (take l.number (sites l.code.paths))
