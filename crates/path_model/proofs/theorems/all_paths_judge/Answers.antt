use Rattle.path_model.proofs.theorems.all_paths_judge.Goals as goal
use Rattle.path_model.proofs.AllPaths.{all_paths_judge}

pub returns : goal.returns
returns c = all_paths_judge
