use Rattle.path_model.proofs.theorems.each_reply_tells_what_is_live.Goals as goal
use Rattle.path_model.proofs.JournalGuarantees.{each_reply_tells_what_is_live}

pub returns : goal.returns
returns c = each_reply_tells_what_is_live
