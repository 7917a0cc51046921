use Rattle.path_model.proofs.theorems.first_is_one.Goals as goal
use Rattle.path_model.proofs.AllPaths.{first_is_one}

pub returns : goal.returns
returns c = first_is_one
