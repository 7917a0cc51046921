use Rattle.path_model.proofs.theorems.unasked_devices_may_be_replaced.Goals as goal
use Rattle.path_model.proofs.Unasked.{unasked_devices_may_be_replaced}

pub returns : goal.returns
returns c = unasked_devices_may_be_replaced
