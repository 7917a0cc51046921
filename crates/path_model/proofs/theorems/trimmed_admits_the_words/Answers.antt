use Rattle.path_model.proofs.theorems.trimmed_admits_the_words.Goals as goal
use Rattle.path_model.proofs.Trimmed.{trimmed_admits_the_words}

pub returns : goal.returns
returns c = trimmed_admits_the_words
