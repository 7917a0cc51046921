use Rattle.std.proofs.Common.{◌≡◌, ℕ, ◌≤◌, ◌<◌, length, vec_len, vec_capacity, get_or}
use Rattle.std.specs.Prelude.{vec_items}
use Rattle.path_run.proofs.begun.fn.work_in_threads.scope.Given as goal

abbrev pub invariant-loop-process : goal.invariant-loop-process
invariant-loop-process g l =
    (vec_len l.begun ≡ l.process-index) × (length l.processes ≤ vec_capacity l.begun)
    × ((k : ℕ) (d : _) → k < l.process-index → (get_or (vec_items l.begun) k d).0 ≡ k)
    × ((k : ℕ) (d : _) (p : _) → k < l.process-index → (get_or (vec_items l.begun) k d).1 ≡ (get_or l.processes k p).steps)
