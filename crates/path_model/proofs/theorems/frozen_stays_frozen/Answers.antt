use Rattle.path_model.proofs.theorems.frozen_stays_frozen.Goals as goal
use Rattle.path_model.proofs.StuckStates.{frozen_stays_frozen}

pub returns : goal.returns
returns c = frozen_stays_frozen
