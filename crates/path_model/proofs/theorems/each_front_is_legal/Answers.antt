use Rattle.path_model.proofs.theorems.each_front_is_legal.Goals as goal
use Rattle.path_model.proofs.Guarantees.{each_front_is_legal}

pub returns : goal.returns
returns c = each_front_is_legal
