use Rattle.path_model.proofs.theorems.each_attempt_is_owed_a_reply_behind.Goals as goal
use Rattle.path_model.proofs.Segments.{each_attempt_is_owed_a_reply_behind}

pub returns : goal.returns
returns c = each_attempt_is_owed_a_reply_behind
