use Rattle.path_model.proofs.theorems.each_labelling_counts.Goals as goal
use Rattle.path_model.proofs.OpenBurst.{each_labelling_counts}

pub returns : goal.returns
returns c = each_labelling_counts
