use Rattle.path_run.specs.Lines.{HasNoFinish}
use Rattle.path_run.proofs.lines.has_finish.Given as goal

abbrev pub invariant-loop-place : goal.invariant-loop-place
invariant-loop-place l = HasNoFinish l.journal l.low l.place
