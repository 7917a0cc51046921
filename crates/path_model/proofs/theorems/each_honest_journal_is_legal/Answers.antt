use Rattle.path_model.proofs.theorems.each_honest_journal_is_legal.Goals as goal
use Rattle.path_model.proofs.Progress.{legal_kept}

pub returns : goal.returns
returns c = legal_kept
