use Rattle.std.proofs.Common.{◌≡◌, ◌≤◌, ◌<◌, ℕ}
use Rattle.std.specs.Prelude.{slice_index_or}
use Rattle.path_model.specs.declared.journal.Line.{Line}
use Rattle.path_workers.specs.Settled.{copies}
use Rattle.path_workers.proofs.settle.first_mismatch.Given as goal

abbrev pub invariant-loop-place : goal.invariant-loop-place
invariant-loop-place g l = (k : ℕ) (d : Line) → l.before ≤ k → k < l.place → copies k (slice_index_or l.journal k d) l.passes ≡ 1
