-- The device at the index is another.
use Rattle.std.proofs.lemmas.List.{map-set}
use Rattle.path_shelf.proofs.shelf.Shelf.replace.Goals as goal

pub returns-clause-replaced : goal.returns-clause-replaced
returns-clause-replaced g c =
    rw (← c.self.view_is) (map-set g.D.Device.state c.self.inside.devices.items c.args.resource.0 c.args.device)
