use Rattle.path_model.proofs.theorems.live_activations_are_in_progress.Goals as goal
use Rattle.path_model.proofs.Progress.{progress_counts}

pub returns : goal.returns
returns c = progress_counts
