use Rattle.path_model.proofs.theorems.one_reply_is_owed.Goals as goal
use Rattle.path_model.proofs.OwedReplies.{one_reply_is_owed}

pub returns : goal.returns
returns c = one_reply_is_owed
