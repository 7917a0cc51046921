use Rattle.path_model.proofs.theorems.one_reply_is_owed_behind.Goals as goal
use Rattle.path_model.proofs.Segments.{one_reply_is_owed_behind}

pub returns : goal.returns
returns c = one_reply_is_owed_behind
