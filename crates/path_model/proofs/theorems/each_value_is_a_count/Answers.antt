use Rattle.path_model.proofs.theorems.each_value_is_a_count.Goals as goal
use Rattle.path_model.proofs.Guarantees.{each_value_is_a_count}

pub returns : goal.returns
returns c = each_value_is_a_count
