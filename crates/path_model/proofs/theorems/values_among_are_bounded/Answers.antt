use Rattle.path_model.proofs.theorems.values_among_are_bounded.Goals as goal
use Rattle.path_model.proofs.BoundedValues.{values_among_are_bounded}

pub returns : goal.returns
returns c = values_among_are_bounded
