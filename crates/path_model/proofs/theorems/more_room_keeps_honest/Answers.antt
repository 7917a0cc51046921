use Rattle.path_model.proofs.theorems.more_room_keeps_honest.Goals as goal
use Rattle.path_model.proofs.Segments.{more_room_keeps_honest}

pub returns : goal.returns
returns c = more_room_keeps_honest
