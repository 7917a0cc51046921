-- Both have as many.
use Rattle.path_order.proofs.spare.has_same_places.Goals as goal

pub returns : goal.returns
returns g c = λ e. record { semaphores = (cc); counters = (cc) }
