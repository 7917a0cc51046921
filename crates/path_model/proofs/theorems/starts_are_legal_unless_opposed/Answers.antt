use Rattle.path_model.proofs.theorems.starts_are_legal_unless_opposed.Goals as goal
use Rattle.path_model.proofs.Refusals.{starts_are_legal_unless_opposed}

pub returns : goal.returns
returns c = starts_are_legal_unless_opposed
