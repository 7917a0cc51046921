use Rattle.path_model.proofs.theorems.live_is_in_progress.Goals as goal
use Rattle.path_model.proofs.JournalGuarantees.{live_is_in_progress}

pub returns : goal.returns
returns c = live_is_in_progress
