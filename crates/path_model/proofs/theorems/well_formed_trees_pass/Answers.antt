use Rattle.path_model.proofs.theorems.well_formed_trees_pass.Goals as goal
use Rattle.path_model.proofs.TreeTests.{well_formed_trees_pass}

pub returns : goal.returns
returns c = well_formed_trees_pass
