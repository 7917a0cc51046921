use Rattle.path_model.proofs.theorems.one_is_live_outside_braces.Goals as goal
use Rattle.path_model.proofs.JournalGuarantees.{one_is_live_outside_braces}

pub returns : goal.returns
returns c = one_is_live_outside_braces
