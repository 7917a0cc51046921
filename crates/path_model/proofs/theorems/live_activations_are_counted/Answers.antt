use Rattle.path_model.proofs.theorems.live_activations_are_counted.Goals as goal
use Rattle.path_model.proofs.JournalGuarantees.{live_activations_are_counted}

pub returns : goal.returns
returns c = live_activations_are_counted
