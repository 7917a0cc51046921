-- Some steps were read.
use Rattle.std.proofs.Common.{length}
use Rattle.path_script.proofs.Progress.{ReadSteps}
use Rattle.path_script.proofs.steps.read_steps.Given as goal

abbrev pub invariant-loop-rest : goal.invariant-loop-rest
invariant-loop-rest g l = ReadSteps l.decl.declaration l.text l.before l.steps.items l.entered l.rest

abbrev pub decreases-loop-rest : goal.decreases-loop-rest
decreases-loop-rest g l = length l.rest
