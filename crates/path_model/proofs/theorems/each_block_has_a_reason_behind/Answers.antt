use Rattle.path_model.proofs.theorems.each_block_has_a_reason_behind.Goals as goal
use Rattle.path_model.proofs.JournalGuarantees.{each_block_has_a_reason_behind}

pub returns : goal.returns
returns c = each_block_has_a_reason_behind
