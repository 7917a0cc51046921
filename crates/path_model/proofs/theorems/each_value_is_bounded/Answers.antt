use Rattle.path_model.proofs.theorems.each_value_is_bounded.Goals as goal
use Rattle.path_model.proofs.BoundedValues.{each_value_is_bounded}

pub returns : goal.returns
returns c = each_value_is_bounded
