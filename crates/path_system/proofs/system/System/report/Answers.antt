-- The controller's report is that of all lines: none came before them.
use Rattle.path_system.proofs.Behind.{of_system}
use Rattle.path_system.proofs.Reported.{if_ok}
use Rattle.path_system.proofs.system.System.report.Goals as goal

pub returns : goal.returns
returns g c = rw (← c.self.view_is) (if_ok _ _ c.report.result (λ report each. of_system c.self.inside.controller c.self.invariant.system.first _ each) c.report.ensures)
