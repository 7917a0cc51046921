-- Some lines were read.
use Rattle.std.proofs.Common.{length}
use Rattle.path_journal.proofs.JournalLemmas.{ReadRecords}
use Rattle.path_journal.proofs.journal.read_lines.Given as goal

abbrev pub invariant-loop-rest : goal.invariant-loop-rest
invariant-loop-rest g l = ReadRecords l.decl.declaration l.text l.lines.items l.rest

abbrev pub decreases-loop-rest : goal.decreases-loop-rest
decreases-loop-rest g l = length l.rest
