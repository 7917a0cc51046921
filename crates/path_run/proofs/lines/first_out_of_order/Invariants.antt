use Rattle.path_run.specs.Lines.{AreInOrderTo}
use Rattle.path_run.proofs.lines.first_out_of_order.Given as goal

abbrev pub invariant-loop-i : goal.invariant-loop-i
invariant-loop-i l = AreInOrderTo l.i l.journal l.receipts
