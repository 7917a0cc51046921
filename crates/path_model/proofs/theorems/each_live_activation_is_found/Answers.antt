use Rattle.path_model.proofs.theorems.each_live_activation_is_found.Goals as goal
use Rattle.path_model.proofs.HonestJournals.{each_live_activation_is_found}

pub returns : goal.returns
returns c = each_live_activation_is_found
