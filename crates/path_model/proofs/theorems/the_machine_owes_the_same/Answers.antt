use Rattle.path_model.proofs.theorems.the_machine_owes_the_same.Goals as goal
use Rattle.path_model.proofs.MachineOwes.{the_machine_owes_the_same}

pub returns : goal.returns
returns c = the_machine_owes_the_same
