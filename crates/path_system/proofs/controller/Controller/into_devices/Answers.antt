-- The devices contain what the lines left.
use Rattle.std.proofs.Common.{[], get_or, ap, sym, ◌∙◌}
use Rattle.path_shelf.specs.States.{laws_of}
use Rattle.path_system.specs.Accounts.{contents_of}
use Rattle.path_system.proofs.controller.Controller.into_devices.Goals as goal

pub returns : goal.returns
returns g c =
    rw (← c.self.view_is) (record {
      laws = ap laws_of c.into_devices.ensures ∙ c.self.invariant.sound.laws;
      held = λ openings before leads r within. ap (λ xs. get_or (contents_of xs) r []) c.into_devices.ensures ∙ sym ((c.self.invariant.behind openings before leads).left.held r within);
    })
