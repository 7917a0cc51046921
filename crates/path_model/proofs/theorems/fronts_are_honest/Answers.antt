use Rattle.path_model.proofs.theorems.fronts_are_honest.Goals as goal
use Rattle.path_model.proofs.HonestJournals.{fronts_are_honest}

pub returns : goal.returns
returns c = fronts_are_honest
