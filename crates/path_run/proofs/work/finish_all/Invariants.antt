use Rattle.std.proofs.Common.{◌≡◌, List, ◌++◌, length}
use Rattle.path_workers.specs.declared.answer.Receipt.{Receipt}
use Rattle.path_run.specs.Runs.{Finishes}
use Rattle.path_run.proofs.work.finish_all.Given as goal

abbrev pub invariant-loop-act : goal.invariant-loop-act
invariant-loop-act g l =
    (l.pass.worker ≡ l.initial.pass.worker)
    × ((gained : List Receipt) × (l.pass.receipts ≡ l.initial.pass.receipts ++ gained)
    × ((rs : List Receipt) → Finishes l.entered rs → Finishes l.initial.entered (gained ++ rs)))

abbrev pub decreases-loop-act : goal.decreases-loop-act
decreases-loop-act g l = length l.entered
