-- One more device has the law of its resource.
use Rattle.std.proofs.Common.{rules, ◌<◌, length}
use Rattle.path_shelf.proofs.Shelved.{laws_more}
use Rattle.path_shelf.proofs.shelf.shelf_fault.Goals as goal

pub loop-i-preserved : goal.loop-i-preserved
loop-i-preserved g c =
    let here = c.loop-i-test.true in
    let declared : c.loop-i.i < length c.args.decl.now.declaration.resources = search rules in
    laws_more g.D.Device.state c.args.devices.now c.args.decl.now.declaration c.loop-i.i c.index-devices-i.result here declared
    c.loop-i.invariant (rw (← c.index-devices-i.is) (c.has_its_law.ensures.0 c.if-not-has_its_law.false))
