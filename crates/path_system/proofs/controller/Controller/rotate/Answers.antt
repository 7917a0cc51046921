-- The present lines are earlier ones.
use Rattle.path_system.proofs.Controlled.{is_controlled, told_rotated}
use Rattle.path_system.proofs.controller.Controller.rotate.Goals as goal

pub invariant_of-self : goal.invariant_of-self
invariant_of-self g c = rw c.rotated-past.ensures (told_rotated _ _ _ _ _ c.self.invariant)

pub returns-clause-controlled : goal.returns-clause-controlled
returns-clause-controlled g c = rw c.rotated-past.ensures (is_controlled _ _ _ _ _ (told_rotated _ _ _ _ _ c.self.invariant) _)
