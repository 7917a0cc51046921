use Rattle.path_model.proofs.theorems.finishes_unblock.Goals as goal
use Rattle.path_model.proofs.AllPaths.{finishes_unblock}

pub returns : goal.returns
returns c = finishes_unblock
