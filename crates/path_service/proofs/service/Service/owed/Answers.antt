-- What the controller owes behind no lines is owed by all lines.
use Rattle.path_system.proofs.CallerLemmas.{of_system}
use Rattle.path_service.proofs.service.Service.owed.Goals as goal

pub returns : goal.returns
returns c = rw (← c.self.view_is) (record {
  owed = of_system c.self.inside.controller c.self.invariant.system.first _ c.owed.ensures.owed;
  served = c.owed.ensures.served;
})
