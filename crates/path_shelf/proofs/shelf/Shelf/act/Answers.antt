-- The device at the index serves, and is put back.
use Rattle.std.proofs.Common.{length, ◌<◌, ap, arith}
use Rattle.std.proofs.lemmas.List.{length-map}
use Rattle.path_shelf.proofs.Shelved.{acts_at, acts_failed}
use Rattle.path_shelf.proofs.shelf.Shelf.act.Goals as goal

pub returns-clause-acts : goal.returns-clause-acts
returns-clause-acts g c =
    let state = g.D.Device.state in
    let xs = c.self.inside.devices.items in
    let within : c.args.resource.0 < length xs = omega (arith, ap length c.self.view_is, length-map xs state) in
    rw (← c.self.view_is) (acts_at state xs c.args.resource.0 c.index_mut.result.now _ c.args.verb c.act.result within (rw (← c.index_mut.ensures.value) c.act.ensures))

pub returns-clause-failed : goal.returns-clause-failed
returns-clause-failed g c = λ e. acts_failed g.D.Device.state _ _ c.args.verb c.act.result c.act.ensures e
