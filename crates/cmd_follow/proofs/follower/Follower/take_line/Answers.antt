-- Where a line isn't answered it was kept before, or nothing was written.
use Rattle.std.proofs.Common.{[], ◌∷◌, inl, inr, refl, sym, subst}
use Rattle.std.proofs.lemmas.List.{append-nil}
use Rattle.std.proofs.lemmas.Result.{IfErr-weaker}
use Rattle.path_shelf.specs.States.{MayFail}
use Rattle.cmd_follow.specs.Inner.Taken.{Leaves, StoppedLine}
use Rattle.cmd_follow.proofs.Answering.{line_journal, took_answered}
use Rattle.cmd_follow.proofs.Stopping.{stops_with, unless, unless_written}
use Rattle.cmd_follow.proofs.Written.{keeps_same}
use Rattle.cmd_follow.proofs.follower.Follower.take_line.Goals as goal

pub returns-in_err-line-clause-stopped : goal.returns-in_err-line-clause-stopped
returns-in_err-line-clause-stopped g c =
    stops_with _ (λ stop. StoppedLine (MayFail g.D.Device.state) c.args.self.now.system c.args.line.now c.args.self.now.refused (g.O.Write.contents c.args.out.now) (g.O.Write.contents c.args.out.now) stop (Leaves g.K.Keeper.keeps g.K.Keeper.left c.args.keeper.now c.args.keeper.now c.args.self.now.system.journal))
    (λ stop. (c.args.self.now.system.journal, [], inl (append-nil c.args.self.now.system.journal), unless stop _ (refl, keeps_same (g.O.Write.contents c.args.out.now)), λ first found k. inl (refl, k)))

pub returns-in_err-keep-in-Line-clause-stopped : goal.returns-in_err-keep-in-Line-clause-stopped
returns-in_err-keep-in-Line-clause-stopped g c =
    stops_with _ (λ stop. StoppedLine (MayFail g.D.Device.state) c.args.self.now.system c.args.line.now c.args.self.now.refused (g.O.Write.contents c.args.out.now) (g.O.Write.contents c.args.out.now) stop (Leaves g.K.Keeper.keeps g.K.Keeper.left c.args.keeper.now c.keep.new.self c.args.self.now.system.journal))
    (λ stop. (
      c.args.self.now.system.journal,
      c.in-Line.line ∷ [],
      took_answered (MayFail g.D.Device.state) c.args.self.now.system c.answer.new.system c.args.line.now c.answer.new.told.items c.args.self.now.refused c.in_ok-line.field-0 c.in-Line.line _ c.in-Line.is c.in_ok-line.ensures.answered
          (sym (line_journal _ _ c.in_ok-line.field-0 c.in-Line.line c.in-Line.is c.in_ok-line.ensures.added)),
      unless stop _ (refl, keeps_same (g.O.Write.contents c.args.out.now)),
      λ first found k. inr (c.in_err-keep-in-Line.ensures.left first found c.args.self.now.system.journal k),
    ))

pub returns-in_ok-keep-in-Line-clause-stopped : goal.returns-in_ok-keep-in-Line-clause-stopped
returns-in_ok-keep-in-Line-clause-stopped g c =
    IfErr-weaker c.send.result _ _
    (λ stop failed. (
      c.answer.new.system.journal,
      [],
      took_answered (MayFail g.D.Device.state) c.args.self.now.system c.answer.new.system c.args.line.now c.answer.new.told.items c.args.self.now.refused c.in_ok-line.field-0 c.in-Line.line _ c.in-Line.is c.in_ok-line.ensures.answered
          (append-nil c.answer.new.system.journal),
      unless_written stop _ failed,
      λ first found k. inl (
        refl,
        subst (λ ls. g.K.Keeper.keeps first c.keep.new.self found ls) (sym (line_journal _ _ c.in_ok-line.field-0 c.in-Line.line c.in-Line.is c.in_ok-line.ensures.added))
            (c.in_ok-keep-in-Line.ensures.kept first found c.args.self.now.system.journal k),
      ),
    ))
    c.send.ensures.err
