-- The paths that are left are still to be added.
use Rattle.std.proofs.Common.{◌≡◌, ◌++◌, [], drop, length, map}
use Rattle.path_model.specs.declared.ids.OpId.{OpId}
use Rattle.path_trim.specs.LeanTable.{lean_table}
use Rattle.path_trim.specs.Rows.{row_of}
use Rattle.path_gate.specs.Inner.Initial.{terms_for, semaphores_put, counters_put, rows_terms}
use Rattle.path_gate.proofs.gate.Gate.open.Given as goal

abbrev pub invariant-loop-path : goal.invariant-loop-path
invariant-loop-path g l = record {
  semaphores : semaphores_put (map row_of (drop l.path-index l.path-items)) l.levels.semaphores.items ≡ semaphores_put (lean_table l.fn.lean.trees) [];
  counters : counters_put (map row_of (drop l.path-index l.path-items)) l.levels.counters.items ≡ counters_put (lean_table l.fn.lean.trees) [];
  rows : length l.by_op.items ≡ 256;
  terms : (a : OpId) → terms_for l.by_op.items a ++ rows_terms (map row_of (drop l.path-index l.path-items)) a ≡ rows_terms (lean_table l.fn.lean.trees) a;
}
