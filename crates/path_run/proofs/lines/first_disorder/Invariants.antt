use Rattle.std.proofs.Common.{ℕ, ◌<◌}
use Rattle.std.specs.Prelude.{slice_index_or}
use Rattle.path_workers.specs.Attempts.{Held}
use Rattle.path_run.specs.declared.outcome.End.{End}
use Rattle.path_run.specs.Lines.{AreInOrder, IsCurrent}
use Rattle.path_run.proofs.lines.first_disorder.Given as goal

abbrev pub invariant-loop-i : goal.invariant-loop-i
invariant-loop-i g l = (i : ℕ) (h : Held) (e : End) → i < l.i
    → AreInOrder l.journal (slice_index_or l.closed_passes i h).receipts × IsCurrent l.journal (slice_index_or l.closed_passes i h).receipts (slice_index_or l.ends i e)
