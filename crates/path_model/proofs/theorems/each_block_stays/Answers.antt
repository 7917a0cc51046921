use Rattle.path_model.proofs.theorems.each_block_stays.Goals as goal
use Rattle.path_model.proofs.AllPaths.{each_block_stays}

pub returns : goal.returns
returns c = each_block_stays
