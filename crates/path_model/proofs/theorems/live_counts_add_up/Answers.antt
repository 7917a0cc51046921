use Rattle.path_model.proofs.theorems.live_counts_add_up.Goals as goal
use Rattle.path_model.proofs.JournalGuarantees.{live_counts_add_up}

pub returns : goal.returns
returns c = live_counts_add_up
