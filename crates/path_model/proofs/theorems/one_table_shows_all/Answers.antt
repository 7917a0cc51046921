use Rattle.path_model.proofs.theorems.one_table_shows_all.Goals as goal
use Rattle.path_model.proofs.Flat.{one_table_shows_all}

pub returns : goal.returns
returns c = one_table_shows_all
