use Rattle.path_read.proofs.TableLemmas.{named_exactly}
use Rattle.path_read.proofs.draft.has_name.Goals as goal

pub returns : goal.returns
returns g c = named_exactly _ _ _ c.contains_key.ensures
