use Rattle.path_model.proofs.theorems.startables_may_start.Goals as goal
use Rattle.path_model.proofs.StuckStates.{startables_may_start}

pub returns : goal.returns
returns c = startables_may_start
