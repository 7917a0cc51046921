-- The controller's reply is owed by all lines: none came before them.
use Rattle.path_system.proofs.Behind.{of_system}
use Rattle.path_system.proofs.system.System.owed.Goals as goal

pub returns-clause-owed : goal.returns-clause-owed
returns-clause-owed g c = rw (← c.self.view_is) (of_system c.self.inside.controller c.self.invariant.system.first _ c.owed.ensures.owed)
