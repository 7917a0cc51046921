use Rattle.std.proofs.Common.{◌≡◌, List, ◌++◌}
use Rattle.path_workers.specs.declared.answer.Receipt.{Receipt}
use Rattle.path_run.specs.Inner.Parts.{AreTries}
use Rattle.path_run.proofs.enter.enter.Given as goal

abbrev pub invariant-loop : goal.invariant-loop
invariant-loop g l =
    ((goal.iterator-loop g).can_next l.iterator' × (goal.iterator-loop g).is_finite l.iterator')
    × (l.pass.worker ≡ l.initial.pass.worker)
    × ((gained : List Receipt) × (l.pass.receipts ≡ l.initial.pass.receipts ++ gained) × AreTries l.op gained)
