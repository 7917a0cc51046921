use Rattle.path_model.proofs.theorems.own_activations_finish.Goals as goal
use Rattle.path_model.proofs.JournalGuarantees.{own_activations_finish}

pub returns : goal.returns
returns c = own_activations_finish
