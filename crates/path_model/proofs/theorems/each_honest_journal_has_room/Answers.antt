use Rattle.path_model.proofs.theorems.each_honest_journal_has_room.Goals as goal
use Rattle.path_model.proofs.Progress.{room_kept}

pub returns : goal.returns
returns c = room_kept
