use Rattle.path_model.proofs.theorems.progress_is_underway.Goals as goal
use Rattle.path_model.proofs.Guarantees.{progress_is_underway}

pub returns : goal.returns
returns c = progress_is_underway
