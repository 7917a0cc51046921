-- The lines so far were taken.
use Rattle.std.proofs.Common.{take}
use Rattle.tell_journals.specs.Inner.{HasTaken}
use Rattle.tell_journals.proofs.taking.take_lines.Given as goal

abbrev pub invariant-loop-n : goal.invariant-loop-n
invariant-loop-n g l = HasTaken l.initial.system (take l.n l.lines) l.system
