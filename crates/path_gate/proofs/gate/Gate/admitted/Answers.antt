-- Each path has a past.
use Rattle.path_gate.proofs.gate.Gate.admitted.Goals as goal

pub returns-clause-pasts : goal.returns-clause-pasts
returns-clause-pasts g c = rw (← c.self.view_is) c.self.invariant.sound.pasts
