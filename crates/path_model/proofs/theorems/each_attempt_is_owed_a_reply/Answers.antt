use Rattle.path_model.proofs.theorems.each_attempt_is_owed_a_reply.Goals as goal
use Rattle.path_model.proofs.OwedReplies.{each_attempt_is_owed_a_reply}

pub returns : goal.returns
returns c = each_attempt_is_owed_a_reply
