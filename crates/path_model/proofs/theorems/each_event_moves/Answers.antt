use Rattle.path_model.proofs.theorems.each_event_moves.Goals as goal
use Rattle.path_model.proofs.AllPaths.{each_event_moves}

pub returns : goal.returns
returns c = each_event_moves
