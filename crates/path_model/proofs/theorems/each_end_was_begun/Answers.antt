use Rattle.path_model.proofs.theorems.each_end_was_begun.Goals as goal
use Rattle.path_model.proofs.Guarantees.{each_end_was_begun}

pub returns : goal.returns
returns c = each_end_was_begun
