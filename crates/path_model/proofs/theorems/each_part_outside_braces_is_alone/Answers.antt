use Rattle.path_model.proofs.theorems.each_part_outside_braces_is_alone.Goals as goal
use Rattle.path_model.proofs.Guarantees.{each_part_outside_braces_is_alone}

pub returns : goal.returns
returns c = each_part_outside_braces_is_alone
