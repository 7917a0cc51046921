-- The runs so far.
use Rattle.std.proofs.Common.{◌≡◌, take}
use Rattle.path_gate.specs.Inner.Soundness.{IsLaidOut, runs_of}
use Rattle.path_gate.specs.Inner.Initial.{rows_of}
use Rattle.path_gate.proofs.gate.table.in_one_list.Given as goal

abbrev pub invariant-loop-run : goal.invariant-loop-run
invariant-loop-run g l = record {
  runs : runs_of l.terms.items l.ranges.items ≡ take l.run-index (rows_of l.by_op);
  laid_out : IsLaidOut l.terms.items l.ranges.items;
}
