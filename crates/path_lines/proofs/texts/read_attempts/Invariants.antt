-- Some lines were read.
use Rattle.std.proofs.Common.{length}
use Rattle.path_lines.proofs.AttemptLemmas.{ReadEntries}
use Rattle.path_lines.proofs.texts.read_attempts.Given as goal

abbrev pub invariant-loop-rest : goal.invariant-loop-rest
invariant-loop-rest g l = ReadEntries l.decl.declaration l.text l.entries.items l.rest

abbrev pub decreases-loop-rest : goal.decreases-loop-rest
decreases-loop-rest g l = length l.rest
