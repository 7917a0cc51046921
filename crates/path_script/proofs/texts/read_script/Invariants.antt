-- Some processes were read.
use Rattle.std.proofs.Common.{length}
use Rattle.path_script.proofs.Progress.{ReadProcesses}
use Rattle.path_script.proofs.texts.read_script.Given as goal

abbrev pub invariant-loop-rest : goal.invariant-loop-rest
invariant-loop-rest g l = ReadProcesses l.decl.declaration l.text l.processes.items l.told l.rest

abbrev pub decreases-loop-rest : goal.decreases-loop-rest
decreases-loop-rest g l = length l.rest
