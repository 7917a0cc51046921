-- The lines so far were taken over.
use Rattle.std.proofs.Common.{take}
use Rattle.path_service.specs.Taken.{TakesLines}
use Rattle.path_service.proofs.service.Service.take_lines.Given as goal

abbrev pub invariant-loop-n : goal.invariant-loop-n
invariant-loop-n l = TakesLines l.fn.self (take l.n l.lines) l.self
