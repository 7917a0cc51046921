use Rattle.path_model.proofs.theorems.table_values_are_bounded.Goals as goal
use Rattle.path_model.proofs.BoundedValues.{table_values_are_bounded}

pub returns : goal.returns
returns c = table_values_are_bounded
