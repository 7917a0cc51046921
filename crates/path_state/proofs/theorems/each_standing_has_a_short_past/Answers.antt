use Rattle.path_state.proofs.theorems.each_standing_has_a_short_past.Goals as goal
use Rattle.path_state.proofs.Short.{each_standing_has_a_short_past}

pub returns : goal.returns
returns c = each_standing_has_a_short_past
