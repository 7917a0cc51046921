-- What is live by the ledger is live by all lines.
use Rattle.path_system.proofs.Telling.{live_told}
use Rattle.path_system.proofs.controller.Controller.live.Goals as goal

pub returns : goal.returns
returns g c = rw (← c.self.view_is) (λ openings before leads. live_told _ _ _ _ _ c.self.invariant openings before leads c.live.result.now c.live.ensures)
