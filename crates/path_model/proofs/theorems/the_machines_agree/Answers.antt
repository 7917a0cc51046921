use Rattle.path_model.proofs.theorems.the_machines_agree.Goals as goal
use Rattle.path_model.proofs.Agreement.{the_machines_agree}

pub returns : goal.returns
returns c = the_machines_agree
