-- No line without a mark stands behind a line feed so far.
use Rattle.std.proofs.Common.{◌≡◌, List, ℕ, ◌++◌, length}
use Rattle.path_journal.specs.CutTexts.{HasLineBehind}
use Rattle.path_journal.proofs.cut.has_line_behind.Given as goal

abbrev pub invariant-loop-after : goal.invariant-loop-after
invariant-loop-after g l = record {
  front : (front : List ℕ) × (l.text ≡ front ++ l.rest);
  left : HasLineBehind l.decl.declaration l.text → HasLineBehind l.decl.declaration l.rest;
}

abbrev pub decreases-loop-after : goal.decreases-loop-after
decreases-loop-after g l = length l.rest
