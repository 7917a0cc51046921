use Rattle.path_model.proofs.theorems.each_path_admits_its_words.Goals as goal
use Rattle.path_model.proofs.OnePath.{each_path_admits_its_words}

pub returns : goal.returns
returns c = each_path_admits_its_words
