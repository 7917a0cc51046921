use Rattle.path_model.proofs.theorems.counters_tell_open_braces.Goals as goal
use Rattle.path_model.proofs.OpenBurst.{counters_tell_open_braces}

pub returns : goal.returns
returns c = counters_tell_open_braces
