use Rattle.path_model.proofs.theorems.finishes_are_legal_in_progress.Goals as goal
use Rattle.path_model.proofs.Refusals.{finishes_are_legal_in_progress}

pub returns : goal.returns
returns c = finishes_are_legal_in_progress
