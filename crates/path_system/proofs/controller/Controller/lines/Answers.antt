-- What always holds of a controller.
use Rattle.path_system.proofs.Controlled.{is_controlled}
use Rattle.path_system.proofs.controller.Controller.lines.Goals as goal

pub returns-clause-controlled : goal.returns-clause-controlled
returns-clause-controlled g c = rw (← c.self.view_is) (is_controlled _ _ _ _ _ c.self.invariant _)
