use Rattle.path_model.proofs.theorems.each_path_guards.Goals as goal
use Rattle.path_model.proofs.AmongOthers.{each_path_guards}

pub returns : goal.returns
returns c = each_path_guards
