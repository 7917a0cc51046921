-- Each line that ends in the block is taken, and it stops behind those that were.
use Rattle.std.proofs.Common.{◌++◌, inl, refl}
use Rattle.path_shelf.specs.States.{MayFail}
use Rattle.cmd_follow.specs.Inner.Taken.{Leaves}
use Rattle.cmd_follow.proofs.Passing.{passes_pending, pending_line, stops_here, stops_line, stops_rest}
use Rattle.cmd_follow.specs.declared.stop.Stop.TheVariants.{TooLong}
use Rattle.cmd_follow.proofs.Stopping.{stops_with, stops_as}
use Rattle.cmd_follow.proofs.follower.Follower.take_block.Goals as goal

pub returns-in_err-extend_from_slice-clause-stopped : goal.returns-in_err-extend_from_slice-clause-stopped
returns-in_err-extend_from_slice-clause-stopped g c =
    stops_with _ _
    (stops_here (MayFail g.D.Device.state) c.args.self.now.system c.loop-line.self.system (c.args.pending.now.items ++ c.args.block.now) (c.loop-line.pending.items ++ c.loop-line.rest.now) c.args.self.now.refused c.loop-line.self.refused
    (g.O.Write.contents c.args.out.now) (g.O.Write.contents c.loop-line.out) (Leaves g.K.Keeper.keeps g.K.Keeper.left c.args.keeper.now c.loop-line.keeper c.args.self.now.system.journal) c.loop-line.invariant.passes
    (λ first found k. inl (refl, (c.loop-line.invariant.kept first found k))))

pub returns-in_err-take_line-clause-stopped : goal.returns-in_err-take_line-clause-stopped
returns-in_err-take_line-clause-stopped g c =
    let cuts = pending_line c.loop-line.pending.items c.loop-line.rest.now c.in-Some.line.now c.extend_from_slice.new.self.items c.deref.result.now c.in-Some.after.now c.deref.ensures.value c.in_ok-extend_from_slice.ensures.items c.in-Some.ensures.some c.loop-line.invariant.one c.in-Some.ensures.first in
    stops_as _ c.in_err-take_line.field-0.0 _ c.from_residual-in_err-take_line.ensures.1
    (stops_rest (MayFail g.D.Device.state) c.args.self.now.system c.loop-line.self.system (c.args.pending.now.items ++ c.args.block.now) (c.loop-line.pending.items ++ c.loop-line.rest.now) c.args.self.now.refused c.loop-line.self.refused
    (g.O.Write.contents c.args.out.now) (g.O.Write.contents c.loop-line.out) (g.O.Write.contents c.take_line.new.out) c.in_err-take_line.field-0.0
    (Leaves g.K.Keeper.keeps g.K.Keeper.left c.args.keeper.now c.take_line.new.keeper c.args.self.now.system.journal) (Leaves g.K.Keeper.keeps g.K.Keeper.left c.loop-line.keeper c.take_line.new.keeper c.loop-line.self.system.journal)
    c.loop-line.invariant.passes (λ end more left first found k. left first found (c.loop-line.invariant.kept first found k))
    (stops_line (MayFail g.D.Device.state) c.loop-line.self.system c.deref.result.now (c.loop-line.pending.items ++ c.loop-line.rest.now) c.in-Some.after.now c.loop-line.self.refused (g.O.Write.contents c.loop-line.out) (g.O.Write.contents c.take_line.new.out) c.in_err-take_line.field-0.0
    (Leaves g.K.Keeper.keeps g.K.Keeper.left c.loop-line.keeper c.take_line.new.keeper c.loop-line.self.system.journal) cuts c.in_err-take_line.ensures.stopped))

pub loop-line-preserved : goal.loop-line-preserved
loop-line-preserved g c = record {
  kept = λ first found k. c.in_ok-take_line.ensures.kept first found (c.loop-line.invariant.kept first found k);
  passes = passes_pending (MayFail g.D.Device.state) c.args.self.now.system c.loop-line.self.system c.take_line.new.self.system (c.args.pending.now.items ++ c.args.block.now)
      c.loop-line.pending.items c.loop-line.rest.now c.in-Some.line.now c.extend_from_slice.new.self.items c.deref.result.now c.in-Some.after.now c.clear.new.self.items
      c.args.self.now.refused c.loop-line.self.refused c.take_line.new.self.refused
      (g.O.Write.contents c.args.out.now) (g.O.Write.contents c.loop-line.out) (g.O.Write.contents c.take_line.new.out)
      c.deref.ensures.value c.in_ok-extend_from_slice.ensures.items c.in-Some.ensures.some c.clear.ensures.items c.loop-line.invariant.one c.in-Some.ensures.first
      c.in_ok-take_line.ensures.ok c.loop-line.invariant.passes;
  one = rw c.clear.ensures.items tt;
}

pub returns-then-saturating_add-gt-LIMIT-clause-stopped : goal.returns-then-saturating_add-gt-LIMIT-clause-stopped
returns-then-saturating_add-gt-LIMIT-clause-stopped g c =
    stops_here (MayFail g.D.Device.state) c.args.self.now.system c.loop-line.self.system (c.args.pending.now.items ++ c.args.block.now) (c.loop-line.pending.items ++ c.loop-line.rest.now) c.args.self.now.refused c.loop-line.self.refused
    (g.O.Write.contents c.args.out.now) (g.O.Write.contents c.loop-line.out) (Leaves g.K.Keeper.keeps g.K.Keeper.left c.args.keeper.now c.loop-line.keeper c.args.self.now.system.journal) c.loop-line.invariant.passes
    (λ first found k. inl (refl, (c.loop-line.invariant.kept first found k))) TooLong

pub returns-in_err-extend_from_slice-2-clause-stopped : goal.returns-in_err-extend_from_slice-2-clause-stopped
returns-in_err-extend_from_slice-2-clause-stopped g c =
    stops_with _ _
    (stops_here (MayFail g.D.Device.state) c.args.self.now.system c.loop-line.self.system (c.args.pending.now.items ++ c.args.block.now) (c.loop-line.pending.items ++ c.loop-line.rest.now) c.args.self.now.refused c.loop-line.self.refused
    (g.O.Write.contents c.args.out.now) (g.O.Write.contents c.loop-line.out) (Leaves g.K.Keeper.keeps g.K.Keeper.left c.args.keeper.now c.loop-line.keeper c.args.self.now.system.journal) c.loop-line.invariant.passes
    (λ first found k. inl (refl, (c.loop-line.invariant.kept first found k))))
