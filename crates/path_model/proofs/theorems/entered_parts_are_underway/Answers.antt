use Rattle.path_model.proofs.theorems.entered_parts_are_underway.Goals as goal
use Rattle.path_model.proofs.Guarantees.{entered_parts_are_underway}

pub returns : goal.returns
returns c = entered_parts_are_underway
