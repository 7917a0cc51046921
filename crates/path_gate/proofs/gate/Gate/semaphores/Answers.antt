-- Each value that is kept has its place.
use Rattle.path_gate.proofs.gate.Gate.semaphores.Goals as goal

pub returns-clause-places : goal.returns-clause-places
returns-clause-places g c = rw (← c.self.view_is) c.self.invariant.sound.places
