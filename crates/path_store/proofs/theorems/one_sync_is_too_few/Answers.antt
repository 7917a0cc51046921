use Rattle.path_store.proofs.OneSync.{other_left}
use Rattle.path_store.proofs.theorems.one_sync_is_too_few.Goals as goal

pub returns : goal.returns
returns c = other_left
