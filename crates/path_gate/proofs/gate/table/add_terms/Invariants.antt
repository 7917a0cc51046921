-- The operations that are left are still to be added.
use Rattle.std.proofs.Common.{◌≡◌, ◌++◌, drop, length}
use Rattle.path_model.specs.declared.ids.OpId.{OpId}
use Rattle.path_gate.specs.Inner.Initial.{terms_for, ops_terms}
use Rattle.path_gate.proofs.gate.table.add_terms.Given as goal

abbrev pub invariant-loop-lean_op : goal.invariant-loop-lean_op
invariant-loop-lean_op g l = record {
  kept : length l.by_op.items ≡ length l.initial.by_op.items;
  added : (a : OpId) → terms_for l.by_op.items a ++ ops_terms l.path (drop l.lean_op-index l.ops) a ≡ terms_for l.initial.by_op.items a ++ ops_terms l.path l.ops a;
}
