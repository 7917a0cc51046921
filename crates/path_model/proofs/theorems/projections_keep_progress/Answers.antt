use Rattle.path_model.proofs.theorems.projections_keep_progress.Goals as goal
use Rattle.path_model.proofs.AllPaths.{projections_keep_progress}

pub returns : goal.returns
returns c = projections_keep_progress
