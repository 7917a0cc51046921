use Rattle.path_model.proofs.theorems.counts_add_up.Goals as goal
use Rattle.path_model.proofs.Guarantees.{counts_add_up}

pub returns : goal.returns
returns c = counts_add_up
