use Rattle.path_model.proofs.theorems.each_path_trims.Goals as goal
use Rattle.path_model.proofs.Trimmed.{each_path_trims}

pub returns : goal.returns
returns c = each_path_trims
