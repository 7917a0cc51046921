use Rattle.path_model.proofs.theorems.each_segment_has_room.Goals as goal
use Rattle.path_model.proofs.Segments.{each_segment_has_room}

pub returns : goal.returns
returns c = each_segment_has_room
