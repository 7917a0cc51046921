-- The lines so far.
use Rattle.std.proofs.Common.{◌≡◌, ◌++◌, take}
use Rattle.std.specs.String.{string_bytes}
use Rattle.path_journal.specs.JournalTexts.{lines_text}
use Rattle.path_journal.proofs.writer.push_lines.Given as goal

abbrev pub invariant-loop-line : goal.invariant-loop-line
invariant-loop-line g l = string_bytes l.out ≡ string_bytes l.fn.out ++ lines_text l.decl.declaration (take l.line-index l.lines)
