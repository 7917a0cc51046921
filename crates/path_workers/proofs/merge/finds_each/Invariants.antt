use Rattle.std.proofs.Common.{◌≡◌, ◌<◌, ◌≤◌, ℕ}
use Rattle.std.specs.Prelude.{slice_index_or}
use Rattle.path_model.specs.declared.journal.Line.{Line}
use Rattle.path_workers.specs.Settled.{copies}
use Rattle.path_workers.proofs.merge.finds_each.Given as goal

abbrev pub invariant-loop-place : goal.invariant-loop-place
invariant-loop-place g l = record {
  same : l.passes ≡ l.fn.passes;
  found : (k : ℕ) (d : Line) → l.before ≤ k → k < l.place → 1 ≤ copies k (slice_index_or l.journal k d) l.fn.passes;
}
