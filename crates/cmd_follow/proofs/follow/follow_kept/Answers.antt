-- The input ended, or why the follow stopped is told.
use Rattle.std.proofs.Common.{true, false, inl, refl}
use Rattle.path_shelf.specs.States.{MayFail}
use Rattle.path_system.specs.Accounts.{Account}
use Rattle.cmd_follow.specs.Inner.Taken.{Leaves}
use Rattle.tell_base.specs.declared.status.Status.TheVariants.{Done, TextRefused}
use Rattle.cmd_follow.proofs.Ending.{began, ending_stop, ends_stop, kept_from, stopped_sent, stopped_took, through_all_sent, through_all_took}
use Rattle.cmd_follow.proofs.follow.follow_kept.Goals as goal

pub returns-in-Err-clause-done : goal.returns-in-Err-clause-done
returns-in-Err-clause-done g c = λ e. absurd (ends_stop c.in-Err.stop _ Done c.tell_stop.ensures e)

pub returns-in-Err-clause-refused : goal.returns-in-Err-clause-refused
returns-in-Err-clause-refused g c = λ e. absurd (ends_stop c.in-Err.stop _ TextRefused c.tell_stop.ensures e)

pub returns-in-Err-clause-answered : goal.returns-in-Err-clause-answered
returns-in-Err-clause-answered g c = λ not.
    stopped_sent (MayFail g.D.Device.state) (g.R.Read.remaining c.args.input.now) (g.O.Write.contents c.args.out.now) (g.O.Write.contents c.followed-ended.new.out) c.new-follower.result.system c.args.system c.new-follower.result.refused c.new-follower.ensures.system c.new-follower.ensures.none
    (λ (s : Account). Leaves g.K.Keeper.keeps g.K.Keeper.left c.args.keeper.now c.followed-ended.new.keeper s.journal) c.in-Err.stop _ c.tell_stop.ensures not c.in-Err.ensures.stopped

pub returns-in-Err-clause-taken : goal.returns-in-Err-clause-taken
returns-in-Err-clause-taken g c =
    stopped_took (MayFail g.D.Device.state) (g.R.Read.remaining c.args.input.now) (g.O.Write.contents c.args.out.now) (g.O.Write.contents c.followed-ended.new.out) c.new-follower.result.system c.args.system c.new-follower.result.refused c.new-follower.ensures.system c.new-follower.ensures.none
    (λ (s : Account). Leaves g.K.Keeper.keeps g.K.Keeper.left c.args.keeper.now c.followed-ended.new.keeper s.journal) c.in-Err.stop c.in-Err.ensures.stopped

pub returns-in-Err-clause-statuses : goal.returns-in-Err-clause-statuses
returns-in-Err-clause-statuses g c = ending_stop c.in-Err.stop _ c.tell_stop.ensures

pub returns-in-Ok-clause-refused : goal.returns-in-Ok-clause-refused
returns-in-Ok-clause-refused g c = λ e. (
  c.followed-ended.new.follower.system.journal,
  began (MayFail g.D.Device.state) (g.R.Read.remaining c.args.input.now) (g.O.Write.contents c.args.out.now) _ c.new-follower.result.system c.args.system c.new-follower.result.refused c.followed-ended.new.follower.refused true _
      c.new-follower.ensures.system c.new-follower.ensures.none c.if-refused.true c.in-Ok.ensures.ok,
  λ first found. kept_from c.new-follower.result.system c.args.system (λ ls. g.K.Keeper.keeps first c.args.keeper.now found ls) _ c.new-follower.ensures.system (c.in-Ok.ensures.kept first found),
)

pub returns-in-Ok-clause-answered : goal.returns-in-Ok-clause-answered
returns-in-Ok-clause-answered g c = λ e.
    through_all_sent (MayFail g.D.Device.state) (g.R.Read.remaining c.args.input.now) (g.O.Write.contents c.args.out.now) (g.O.Write.contents c.followed-ended.new.out) c.new-follower.result.system c.args.system c.new-follower.result.refused c.new-follower.ensures.system c.new-follower.ensures.none (λ (s : Account). Leaves g.K.Keeper.keeps g.K.Keeper.left c.args.keeper.now c.followed-ended.new.keeper s.journal)
    c.followed-ended.new.follower.refused c.followed-ended.new.follower.system.journal c.in-Ok.ensures.ok (λ first found k. inl (refl, (c.in-Ok.ensures.kept first found k)))

pub returns-in-Ok-clause-taken : goal.returns-in-Ok-clause-taken
returns-in-Ok-clause-taken g c =
    through_all_took (MayFail g.D.Device.state) (g.R.Read.remaining c.args.input.now) (g.O.Write.contents c.args.out.now) (g.O.Write.contents c.followed-ended.new.out) c.new-follower.result.system c.args.system c.new-follower.result.refused c.new-follower.ensures.system c.new-follower.ensures.none (λ (s : Account). Leaves g.K.Keeper.keeps g.K.Keeper.left c.args.keeper.now c.followed-ended.new.keeper s.journal)
    c.followed-ended.new.follower.refused c.followed-ended.new.follower.system.journal c.in-Ok.ensures.ok (λ first found k. inl (refl, (c.in-Ok.ensures.kept first found k)))

pub returns-in-Ok-2-clause-done : goal.returns-in-Ok-2-clause-done
returns-in-Ok-2-clause-done g c = λ e. (
  c.followed-ended.new.follower.system.journal,
  began (MayFail g.D.Device.state) (g.R.Read.remaining c.args.input.now) (g.O.Write.contents c.args.out.now) _ c.new-follower.result.system c.args.system c.new-follower.result.refused c.followed-ended.new.follower.refused false _
      c.new-follower.ensures.system c.new-follower.ensures.none c.if-refused.false c.in-Ok.ensures.ok,
  λ first found. kept_from c.new-follower.result.system c.args.system (λ ls. g.K.Keeper.keeps first c.args.keeper.now found ls) _ c.new-follower.ensures.system (c.in-Ok.ensures.kept first found),
)

pub returns-in-Ok-2-clause-answered : goal.returns-in-Ok-2-clause-answered
returns-in-Ok-2-clause-answered g c = λ e.
    through_all_sent (MayFail g.D.Device.state) (g.R.Read.remaining c.args.input.now) (g.O.Write.contents c.args.out.now) (g.O.Write.contents c.followed-ended.new.out) c.new-follower.result.system c.args.system c.new-follower.result.refused c.new-follower.ensures.system c.new-follower.ensures.none (λ (s : Account). Leaves g.K.Keeper.keeps g.K.Keeper.left c.args.keeper.now c.followed-ended.new.keeper s.journal)
    c.followed-ended.new.follower.refused c.followed-ended.new.follower.system.journal c.in-Ok.ensures.ok (λ first found k. inl (refl, (c.in-Ok.ensures.kept first found k)))

pub returns-in-Ok-2-clause-taken : goal.returns-in-Ok-2-clause-taken
returns-in-Ok-2-clause-taken g c =
    through_all_took (MayFail g.D.Device.state) (g.R.Read.remaining c.args.input.now) (g.O.Write.contents c.args.out.now) (g.O.Write.contents c.followed-ended.new.out) c.new-follower.result.system c.args.system c.new-follower.result.refused c.new-follower.ensures.system c.new-follower.ensures.none (λ (s : Account). Leaves g.K.Keeper.keeps g.K.Keeper.left c.args.keeper.now c.followed-ended.new.keeper s.journal)
    c.followed-ended.new.follower.refused c.followed-ended.new.follower.system.journal c.in-Ok.ensures.ok (λ first found k. inl (refl, (c.in-Ok.ensures.kept first found k)))
