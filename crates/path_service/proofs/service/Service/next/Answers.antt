-- What is told of the controller is told of the service.
use Rattle.path_service.proofs.service.Service.next.Goals as goal

pub returns-clause-next : goal.returns-clause-next
returns-clause-next c = rw (← c.self.view_is) c.first-found.ensures.next

pub returns-clause-door : goal.returns-clause-door
returns-clause-door c = rw (← c.self.view_is) c.first-found.ensures.door

pub returns-clause-no_stall : goal.returns-clause-no_stall
returns-clause-no_stall c = rw (← c.self.view_is) c.first-found.ensures.no_stall
