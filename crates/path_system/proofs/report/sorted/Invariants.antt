-- The operations so far are sorted.
use Rattle.path_system.specs.Reports.{IsSorting, MeetsAt}
use Rattle.path_system.proofs.report.sorted.Given as goal

abbrev pub invariant-loop-number : goal.invariant-loop-number
invariant-loop-number g l = IsSorting (MeetsAt l.gate) l.number l.startable.items l.blocked.items
