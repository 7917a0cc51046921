use Rattle.path_model.proofs.theorems.live_bounds_hold.Goals as goal
use Rattle.path_model.proofs.JournalGuarantees.{live_bounds_hold}

pub returns : goal.returns
returns c = live_bounds_hold
