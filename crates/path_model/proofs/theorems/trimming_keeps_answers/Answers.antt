use Rattle.path_model.proofs.theorems.trimming_keeps_answers.Goals as goal
use Rattle.path_model.proofs.Trimmed.{trimming_keeps_answers}

pub returns : goal.returns
returns c = trimming_keeps_answers
