use Rattle.path_model.proofs.theorems.segments_follow_their_paths.Goals as goal
use Rattle.path_model.proofs.JournalGuarantees.{segments_follow_their_paths}

pub returns : goal.returns
returns c = segments_follow_their_paths
