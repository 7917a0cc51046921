use Rattle.path_model.proofs.theorems.unopposed_starts_are_admitted_behind.Goals as goal
use Rattle.path_model.proofs.JournalGuarantees.{unopposed_starts_are_admitted_behind}

pub returns : goal.returns
returns c = unopposed_starts_are_admitted_behind
