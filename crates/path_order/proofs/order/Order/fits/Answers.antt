-- Both spare gates have as many places.
use Rattle.path_order.proofs.Beside.{ready_if}
use Rattle.path_order.proofs.order.Order.fits.Goals as goal

pub returns : goal.returns
returns g c = λ e.
    ready_if c.args.gate.now c.args.self.now.spares c.requires.0 c.requires.1 c.requires.2 c.requires.3
    (c.has_same_places.ensures c.if-not-has_same_places.false) (c.has_same_places-2.ensures c.if-not-has_same_places-2.false)
