use Rattle.path_model.proofs.theorems.substitution_reads_upwards.Goals as goal
use Rattle.path_model.proofs.Downward.{substitution_reads_upwards}

pub returns : goal.returns
returns c = substitution_reads_upwards
