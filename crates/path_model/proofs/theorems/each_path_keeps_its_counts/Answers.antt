use Rattle.path_model.proofs.theorems.each_path_keeps_its_counts.Goals as goal
use Rattle.path_model.proofs.Guarantees.{each_path_keeps_its_counts}

pub returns : goal.returns
returns c = each_path_keeps_its_counts
