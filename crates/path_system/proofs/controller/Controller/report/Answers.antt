-- The parts agree with all lines.
use Rattle.std.proofs.Common.{refl}
use Rattle.path_system.proofs.Reported.{if_ok}
use Rattle.path_system.proofs.Telling.{reports}
use Rattle.path_system.proofs.controller.Controller.report.Goals as goal

pub returns : goal.returns
returns g c =
    rw (← c.self.view_is) (if_ok _ _ c.report.result
    (λ report told openings before leads. reports _ _ _ _ _ c.self.invariant openings before leads _ report.startable.items report.blocked.items report.live.items report.frozen refl told)
    c.report.ensures)
