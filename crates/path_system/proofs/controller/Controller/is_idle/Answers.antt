-- What is live by the ledger is live by all lines.
use Rattle.path_system.proofs.Telling.{idle_told}
use Rattle.path_system.proofs.controller.Controller.is_idle.Goals as goal

pub returns : goal.returns
returns g c = rw (← c.self.view_is) (λ openings before leads. idle_told _ _ _ _ _ c.self.invariant openings before leads _ c.is_idle.ensures)
