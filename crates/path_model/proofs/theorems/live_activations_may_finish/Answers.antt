use Rattle.path_model.proofs.theorems.live_activations_may_finish.Goals as goal
use Rattle.path_model.proofs.StuckStates.{live_activations_may_finish}

pub returns : goal.returns
returns c = live_activations_may_finish
