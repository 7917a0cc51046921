use Rattle.path_state.proofs.theorems.states_owe_the_same.Goals as goal
use Rattle.path_state.proofs.States.{states_owe_the_same}

pub returns : goal.returns
returns c = states_owe_the_same
