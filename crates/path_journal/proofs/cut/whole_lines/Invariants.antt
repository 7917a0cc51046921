-- Some lines were read.
use Rattle.std.proofs.Common.{◌+◌, ◌≤◌, length}
use Rattle.path_journal.specs.CutTexts.{AreLinesRead}
use Rattle.path_journal.proofs.cut.whole_lines.Given as goal

abbrev pub invariant-loop-line : goal.invariant-loop-line
invariant-loop-line g l = record {
  read : AreLinesRead l.decl.declaration l.marks l.text l.lines.items l.rest;
  few : length l.lines.items + length l.rest ≤ length l.text;
}

abbrev pub decreases-loop-line : goal.decreases-loop-line
decreases-loop-line g l = length l.rest
