-- The spare gate is where the gate is, and then all that runs is over.
use Rattle.path_order.specs.Waiting.{ops_of}
use Rattle.path_order.proofs.Ruled.{over_there}
use Rattle.path_order.proofs.ruling.clear_all.Goals as goal

pub returns-clause-over : goal.returns-clause-over
returns-clause-over g c = λ h at.
    over_there c.args.gate.now c.follow.new.spare c.end_all.new.spare (ops_of c.args.running.now) c.in_ok-follow.ensures.fits.paths c.end_all.ensures.at h (c.in_ok-follow.ensures.at h at)
