use Rattle.path_model.proofs.theorems.starts_only_block.Goals as goal
use Rattle.path_model.proofs.AllPaths.{starts_only_block}

pub returns : goal.returns
returns c = starts_only_block
