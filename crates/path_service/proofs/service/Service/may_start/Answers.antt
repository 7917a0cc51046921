-- What is told of the controller is told of the service.
use Rattle.path_service.proofs.service.Service.may_start.Goals as goal

pub returns-clause-ruled : goal.returns-clause-ruled
returns-clause-ruled c = rw (← c.self.view_is) c.ruled-ruling.ensures.ruled

pub returns-clause-door : goal.returns-clause-door
returns-clause-door c = rw (← c.self.view_is) c.ruled-ruling.ensures.door
