use Rattle.std.proofs.Common.{◌≡◌, List, [], ◌++◌, length, drop}
use Rattle.path_workers.specs.declared.answer.Receipt.{Receipt}
use Rattle.path_script.specs.Scripts.{Leads}
use Rattle.path_run.specs.declared.outcome.End.{End}
use Rattle.path_run.specs.Runs.{IsRun}
use Rattle.path_run.proofs.work.take_steps.Given as goal

abbrev pub invariant-loop-place : goal.invariant-loop-place
invariant-loop-place g l =
    (l.pass.worker ≡ l.initial.pass.worker) × Leads (length l.entered) (drop l.place l.steps) 0
    × ((rs : List Receipt) (end : End) → IsRun (drop l.place l.steps) l.entered rs end → IsRun l.steps [] (l.pass.receipts ++ rs) end)
