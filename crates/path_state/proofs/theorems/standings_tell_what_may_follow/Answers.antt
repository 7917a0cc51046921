use Rattle.path_state.proofs.theorems.standings_tell_what_may_follow.Goals as goal
use Rattle.path_state.proofs.Standings.{standings_tell_what_may_follow}

pub returns : goal.returns
returns c = standings_tell_what_may_follow
