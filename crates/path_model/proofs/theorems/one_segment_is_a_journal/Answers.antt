use Rattle.path_model.proofs.theorems.one_segment_is_a_journal.Goals as goal
use Rattle.path_model.proofs.Segments.{one_segment_is_a_journal}

pub returns : goal.returns
returns c = one_segment_is_a_journal
