-- What was recovered is stored, and all of it is on the disk.
use Rattle.std.proofs.Common.{refl}
use Rattle.path_store.proofs.store.Store.open.Goals as goal

pub returns-in-Ok-clause-stored : goal.returns-in-Ok-clause-stored
returns-in-Ok-clause-stored g c = λ synced fresh file. record { lines = c.in-Ok.ensures.recovered synced fresh file; none_fresh = λ e. refl }
