-- One line more is taken, or the first that isn't is told.
use Rattle.std.specs.Prelude.{map}
use Rattle.path_shelf.specs.States.{MayFail}
use Rattle.path_system.proofs.Going.{one_taken, one_refused}
use Rattle.path_system.proofs.system.System.resume.Goals as goal

pub returns-in-Err-take_over-clause-fault : goal.returns-in-Err-take_over-clause-fault
returns-in-Err-take_over-clause-fault g c =
    one_refused c.args.decl.declaration c.args.room (map g.D.Device.state c.args.devices.items) c.args.lines.now c.loop-n.n _ c.loop-n-test.true c.loop-n.system c.loop-n.invariant.taken
    (MayFail g.D.Device.state) c.take_over.new.self c.in-Err-take_over.fault (map g.D.Device.state c.into_devices.result.items) c.loop-n.invariant.system c.in-Err-take_over.ensures.fault c.into_devices.ensures

pub loop-n-preserved : goal.loop-n-preserved
loop-n-preserved g c = record {
  taken = one_taken c.args.decl.declaration c.args.room (map g.D.Device.state c.args.devices.items) c.args.lines.now c.loop-n.n _ c.loop-n-test.true c.loop-n.system c.loop-n.invariant.taken
      c.take_over.new.self c.in_default.ensures.taken;
  system = c.in_default.ensures.system;
  laws = c.loop-n.invariant.laws;
  good_room = c.loop-n.invariant.good_room;
}
