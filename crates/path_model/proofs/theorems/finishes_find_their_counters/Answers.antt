use Rattle.path_model.proofs.theorems.finishes_find_their_counters.Goals as goal
use Rattle.path_model.proofs.KeptTerms.{finishes_find_their_counters}

pub returns : goal.returns
returns c = finishes_find_their_counters
