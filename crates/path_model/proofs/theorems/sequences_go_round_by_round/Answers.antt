use Rattle.path_model.proofs.theorems.sequences_go_round_by_round.Goals as goal
use Rattle.path_model.proofs.Guarantees.{sequences_go_round_by_round}

pub returns : goal.returns
returns c = sequences_go_round_by_round
