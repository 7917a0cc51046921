-- The devices contain what all lines left: none came before them.
use Rattle.path_system.proofs.Behind.{of_system}
use Rattle.path_system.proofs.system.System.contents.Goals as goal

pub returns : goal.returns
returns g c = rw (← c.self.view_is) (of_system c.self.inside.controller c.self.invariant.system.first _ c.contents.ensures)
