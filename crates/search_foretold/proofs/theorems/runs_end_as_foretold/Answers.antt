use Rattle.search_foretold.proofs.theorems.runs_end_as_foretold.Goals as goal
use Rattle.search_foretold.proofs.RunsForetold.{runs_end_as_foretold}

pub returns : goal.returns
returns c = runs_end_as_foretold
