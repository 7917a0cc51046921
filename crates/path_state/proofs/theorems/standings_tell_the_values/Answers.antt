use Rattle.path_state.proofs.theorems.standings_tell_the_values.Goals as goal
use Rattle.path_state.proofs.Values.{standings_tell_the_values}

pub returns : goal.returns
returns c = standings_tell_the_values
