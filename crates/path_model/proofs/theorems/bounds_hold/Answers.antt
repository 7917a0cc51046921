use Rattle.path_model.proofs.theorems.bounds_hold.Goals as goal
use Rattle.path_model.proofs.Guarantees.{bounds_hold}

pub returns : goal.returns
returns c = bounds_hold
