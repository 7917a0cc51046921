use Rattle.path_model.proofs.theorems.honest_by_machine_is_honest.Goals as goal
use Rattle.path_model.proofs.MachineOwes.{honest_by_machine_is_honest}

pub returns : goal.returns
returns c = honest_by_machine_is_honest
