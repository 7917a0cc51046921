-- A service keeps its controller a system.
use Rattle.path_service.proofs.service.Service.controller.Goals as goal

pub returns-clause-system : goal.returns-clause-system
returns-clause-system c = rw (← c.self.view_is) c.self.invariant.system
