use Rattle.path_model.proofs.theorems.finishes_come_between.Goals as goal
use Rattle.path_model.proofs.StuckStates.{finishes_come_between}

pub returns : goal.returns
returns c = finishes_come_between
