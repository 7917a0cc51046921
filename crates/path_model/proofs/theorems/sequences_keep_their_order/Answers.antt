use Rattle.path_model.proofs.theorems.sequences_keep_their_order.Goals as goal
use Rattle.path_model.proofs.Guarantees.{sequences_keep_their_order}

pub returns : goal.returns
returns c = sequences_keep_their_order
