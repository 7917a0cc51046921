-- The devices contain what all lines left: none came before them.
use Rattle.path_system.proofs.Behind.{of_system}
use Rattle.path_system.proofs.system.System.into_devices.Goals as goal

pub returns : goal.returns
returns g c =
    rw (← c.self.view_is) (record {
      laws = c.into_devices.ensures.laws;
      held = of_system c.self.inside.controller c.self.invariant.system.first _ c.into_devices.ensures.held;
    })
