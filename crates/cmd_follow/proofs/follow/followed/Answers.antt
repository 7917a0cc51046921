-- Each block is read and its lines taken, and it stops behind those that were.
use Rattle.std.proofs.Common.{[], take, arith, inr, refl, inl}
use Rattle.std.proofs.lemmas.Result.{on_ok_weaker, IfErr-weaker}
use Rattle.path_shelf.specs.States.{MayFail}
use Rattle.cmd_follow.specs.declared.stop.Stop.TheVariants.{Unreadable}
use Rattle.cmd_follow.specs.Inner.Taken.{Leaves}
use Rattle.cmd_follow.proofs.Passing.{none_left, some_left, stops_line, through_last, through_none}
use Rattle.cmd_follow.proofs.Reading.{gave_first, gave_last, gave_block, gave_all, read_more, read_nothing, read_part}
use Rattle.cmd_follow.proofs.Stopping.{stops_with, stops_as}
use Rattle.cmd_follow.proofs.follow.followed.Goals as goal

pub returns-in_err-block-clause-stopped : goal.returns-in_err-block-clause-stopped
returns-in_err-block-clause-stopped g c =
    stops_with _ _
    (gave_first (MayFail g.D.Device.state) c.args.follower.now.system c.args.follower.now.system (g.R.Read.remaining c.args.input.now) (g.R.Read.remaining c.args.input.now) [] c.args.follower.now.refused c.args.follower.now.refused (g.O.Write.contents c.args.out.now) (g.O.Write.contents c.args.out.now)
    (read_nothing (MayFail g.D.Device.state) c.args.follower.now.system (g.R.Read.remaining c.args.input.now) [] c.args.follower.now.refused (g.O.Write.contents c.args.out.now) refl) (Leaves g.K.Keeper.keeps g.K.Keeper.left c.args.keeper.now c.args.keeper.now c.args.follower.now.system.journal)
    (λ first found k. inl (refl, k)))

pub loop-init : goal.loop-init
loop-init g c = record {
  kept = λ first found k. k;
  passes = read_nothing (MayFail g.D.Device.state) c.args.follower.now.system (g.R.Read.remaining c.args.input.now) c.new-pending.result.items c.args.follower.now.refused (g.O.Write.contents c.args.out.now) c.new-pending.ensures.items;
  one = rw c.new-pending.ensures.items tt;
  some = let n = c.in_ok-block.ensures.len in omega (arith, n);
}

pub returns-in_err-count-clause-stopped : goal.returns-in_err-count-clause-stopped
returns-in_err-count-clause-stopped g c =
    stops_with _ _
    (gave_first (MayFail g.D.Device.state) c.args.follower.now.system c.loop.follower.system (g.R.Read.remaining c.args.input.now) (g.R.Read.remaining c.loop.input) c.loop.pending.items c.args.follower.now.refused c.loop.follower.refused (g.O.Write.contents c.args.out.now) (g.O.Write.contents c.loop.out)
    c.loop.invariant.passes (Leaves g.K.Keeper.keeps g.K.Keeper.left c.args.keeper.now c.loop.keeper c.args.follower.now.system.journal)
    (λ first found k. inl (refl, (c.loop.invariant.kept first found k))))

pub returns-then-is_empty-clause-ok : goal.returns-then-is_empty-clause-ok
returns-then-is_empty-clause-ok g c =
    gave_all (MayFail g.D.Device.state) c.args.follower.now.system c.loop.follower.system (g.R.Read.remaining c.args.input.now) (g.R.Read.remaining c.loop.input) c.loop.pending.items c.args.follower.now.refused c.loop.follower.refused (g.O.Write.contents c.args.out.now) (g.O.Write.contents c.loop.out)
    c.loop.invariant.passes (g.R.Read.remaining c.read_block.new.input) (take c.in_ok-count.count c.read_block.new.block) c.loop.follower.refused c.loop.follower.system.journal (g.O.Write.contents c.loop.out)
    (rw c.if-count-eq0.true refl) c.in_ok-count.ensures.bytes (c.in_ok-count.ensures.end c.if-count-eq0.true)
    (through_none (MayFail g.D.Device.state) c.loop.follower.system c.loop.pending.items c.loop.follower.refused (g.O.Write.contents c.loop.out) (none_left c.loop.pending.items _ _ c.loop.pending.ok.0 c.is_empty.ensures c.if-is_empty.true))

pub returns-then-count-eq0-clause-ok : goal.returns-then-count-eq0-clause-ok
returns-then-count-eq0-clause-ok g c =
    on_ok_weaker c.take_line.result
    (λ takes. gave_all (MayFail g.D.Device.state) c.args.follower.now.system c.loop.follower.system (g.R.Read.remaining c.args.input.now) (g.R.Read.remaining c.loop.input) c.loop.pending.items c.args.follower.now.refused c.loop.follower.refused (g.O.Write.contents c.args.out.now) (g.O.Write.contents c.loop.out)
    c.loop.invariant.passes (g.R.Read.remaining c.read_block.new.input) (take c.in_ok-count.count c.read_block.new.block) c.take_line.new.self.refused c.take_line.new.self.system.journal (g.O.Write.contents c.take_line.new.out)
    (rw c.if-count-eq0.true refl) c.in_ok-count.ensures.bytes (c.in_ok-count.ensures.end c.if-count-eq0.true)
    (through_last (MayFail g.D.Device.state) c.loop.follower.system c.take_line.new.self.system c.loop.pending.items c.loop.follower.refused c.take_line.new.self.refused (g.O.Write.contents c.loop.out) (g.O.Write.contents c.take_line.new.out)
    c.loop.invariant.one (some_left c.loop.pending.items _ _ c.loop.pending.ok.0 c.is_empty.ensures c.if-is_empty.false) (rw c.deref.ensures.value at takes)))
    c.take_line.ensures.ok

pub returns-then-count-eq0-clause-kept : goal.returns-then-count-eq0-clause-kept
returns-then-count-eq0-clause-kept g c = λ first found k. c.take_line.ensures.kept first found (c.loop.invariant.kept first found k)

pub returns-then-count-eq0-clause-stopped : goal.returns-then-count-eq0-clause-stopped
returns-then-count-eq0-clause-stopped g c =
    IfErr-weaker c.take_line.result _ _
    (λ stop s. gave_last (MayFail g.D.Device.state) c.args.follower.now.system c.loop.follower.system (g.R.Read.remaining c.args.input.now) (g.R.Read.remaining c.loop.input) c.loop.pending.items c.args.follower.now.refused c.loop.follower.refused (g.O.Write.contents c.args.out.now) (g.O.Write.contents c.loop.out)
    c.loop.invariant.passes (Leaves g.K.Keeper.keeps g.K.Keeper.left c.args.keeper.now c.take_line.new.keeper c.args.follower.now.system.journal)
    (g.O.Write.contents c.take_line.new.out) (Leaves g.K.Keeper.keeps g.K.Keeper.left c.loop.keeper c.take_line.new.keeper c.loop.follower.system.journal) (λ end more left first found k. left first found (c.loop.invariant.kept first found k)) stop
    (stops_line (MayFail g.D.Device.state) c.loop.follower.system c.deref.result.now c.loop.pending.items [] c.loop.follower.refused (g.O.Write.contents c.loop.out) (g.O.Write.contents c.take_line.new.out) stop
    (Leaves g.K.Keeper.keeps g.K.Keeper.left c.loop.keeper c.take_line.new.keeper c.loop.follower.system.journal) (rw c.deref.ensures.value (c.loop.invariant.one, inr (some_left c.loop.pending.items _ _ c.loop.pending.ok.0 c.is_empty.ensures c.if-is_empty.false, refl, refl))) s))
    c.take_line.ensures.stopped

pub returns-in_err-take_block-clause-stopped : goal.returns-in_err-take_block-clause-stopped
returns-in_err-take_block-clause-stopped g c =
    stops_as _ c.in_err-take_block.field-0.0 _ c.from_residual-in_err-take_block.ensures.1
    (gave_block (MayFail g.D.Device.state) c.args.follower.now.system c.loop.follower.system (g.R.Read.remaining c.args.input.now) (g.R.Read.remaining c.loop.input) c.loop.pending.items c.args.follower.now.refused c.loop.follower.refused (g.O.Write.contents c.args.out.now) (g.O.Write.contents c.loop.out)
    c.loop.invariant.passes (Leaves g.K.Keeper.keeps g.K.Keeper.left c.args.keeper.now c.take_block.new.keeper c.args.follower.now.system.journal)
    (g.R.Read.remaining c.read_block.new.input) _ (g.O.Write.contents c.take_block.new.out) (Leaves g.K.Keeper.keeps g.K.Keeper.left c.loop.keeper c.take_block.new.keeper c.loop.follower.system.journal)
    (λ end more left first found k. left first found (c.loop.invariant.kept first found k)) (read_part (g.R.Read.remaining c.loop.input) (g.R.Read.remaining c.read_block.new.input) c.in_ok-count.count c.loop.block.len _ _ _ c.deref-in-loop.ensures.value c.in_ok-count.ensures.within
    (omega (arith, c.read_block.auto.block, c.deref_mut.ensures.len, c.in_ok-count.ensures.within)) c.in_ok-count.ensures.bytes) c.in_err-take_block.field-0.0
    c.in_err-take_block.ensures.stopped)

pub loop-preserved : goal.loop-preserved
loop-preserved g c = record {
  kept = λ first found k. c.in_ok-take_block.ensures.kept first found (c.loop.invariant.kept first found k);
  passes = read_more (MayFail g.D.Device.state) c.args.follower.now.system c.loop.follower.system (g.R.Read.remaining c.args.input.now) (g.R.Read.remaining c.loop.input) c.loop.pending.items c.args.follower.now.refused c.loop.follower.refused (g.O.Write.contents c.args.out.now) (g.O.Write.contents c.loop.out)
      c.loop.invariant.passes c.take_block.new.self.system (g.R.Read.remaining c.read_block.new.input) _ c.take_block.new.pending.items c.take_block.new.self.refused (g.O.Write.contents c.take_block.new.out) (read_part (g.R.Read.remaining c.loop.input) (g.R.Read.remaining c.read_block.new.input) c.in_ok-count.count c.loop.block.len _ _ _ c.deref-in-loop.ensures.value c.in_ok-count.ensures.within
      (omega (arith, c.read_block.auto.block, c.deref_mut.ensures.len, c.in_ok-count.ensures.within)) c.in_ok-count.ensures.bytes) c.in_ok-take_block.ensures.ok;
  one = c.in_ok-take_block.ensures.one;
  some = c.loop.invariant.some;
}

pub returns-clause-stopped : goal.returns-clause-stopped
returns-clause-stopped g c =
    gave_first (MayFail g.D.Device.state) c.args.follower.now.system c.loop.follower.system (g.R.Read.remaining c.args.input.now) (g.R.Read.remaining c.loop.input) c.loop.pending.items c.args.follower.now.refused c.loop.follower.refused (g.O.Write.contents c.args.out.now) (g.O.Write.contents c.loop.out)
    c.loop.invariant.passes (Leaves g.K.Keeper.keeps g.K.Keeper.left c.args.keeper.now c.loop.keeper c.args.follower.now.system.journal)
    (λ first found k. inl (refl, (c.loop.invariant.kept first found k))) Unreadable
