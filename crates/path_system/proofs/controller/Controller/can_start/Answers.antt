-- The gate is at the history of all lines, which is legal.
use Rattle.path_system.proofs.Telling.{allows}
use Rattle.path_system.proofs.controller.Controller.can_start.Goals as goal

pub returns : goal.returns
returns g c = rw (← c.self.view_is) (λ openings before leads. allows _ _ _ _ _ c.self.invariant openings before leads c.args.op c.can_start.result c.can_start.ensures)
