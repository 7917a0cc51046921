use Rattle.path_model.proofs.theorems.segments_are_one_journal.Goals as goal
use Rattle.path_model.proofs.Segments.{segments_are_one_journal}

pub returns : goal.returns
returns c = segments_are_one_journal
