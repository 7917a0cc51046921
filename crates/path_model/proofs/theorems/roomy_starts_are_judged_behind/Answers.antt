use Rattle.path_model.proofs.theorems.roomy_starts_are_judged_behind.Goals as goal
use Rattle.path_model.proofs.JournalGuarantees.{roomy_starts_are_judged_behind}

pub returns : goal.returns
returns c = roomy_starts_are_judged_behind
