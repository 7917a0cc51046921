use Rattle.path_model.proofs.theorems.stuck_stays_stuck.Goals as goal
use Rattle.path_model.proofs.StuckResources.{stuck_stays_stuck}

pub returns : goal.returns
returns c = stuck_stays_stuck
