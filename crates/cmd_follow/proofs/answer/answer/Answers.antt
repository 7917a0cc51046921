-- The report, the reply, or why the line is refused.
use Rattle.std.proofs.Common.{refl, ◌∙◌}
use Rattle.path_shelf.specs.States.{MayFail}
use Rattle.path_fields.proofs.CallerLemmas.{is_text, is_other}
use Rattle.cmd_follow.proofs.Answering.{answers_report, answers_attempt, refused_line, outcome_answered, outcome_right, outcome_added}
use Rattle.cmd_follow.proofs.answer.answer.Goals as goal

pub returns-then-eq-clause-answered : goal.returns-then-eq-clause-answered
returns-then-eq-clause-answered g c =
    answers_report (MayFail g.D.Device.state) c.args.system.now c.args.line.now c.push_present.new.told.items
    (is_text _ _ _ _ c.as_slice.ensures c.if-eq.true c.eq.ensures) c.in_ok-push_present.ensures

pub returns-in_ok-reply-in-Ok-clause-answered : goal.returns-in_ok-reply-in-Ok-clause-answered
returns-in_ok-reply-in-Ok-clause-answered g c =
    rw c.outcome_of.ensures
    (outcome_answered c.in-Ok.first.worker c.in-Ok.first.attempt c.in_ok-reply-in-Ok.reply _
    (answers_attempt (MayFail g.D.Device.state) c.args.system.now c.push_reply_to.new.system c.decl.result.now.declaration c.args.line.now c.clear.new.self.items c.push_reply_to.new.told.items
    c.in-Ok.first.worker c.in-Ok.first.attempt c.requires.whole c.decl.ensures c.requires.one c.in-Ok.ensures.line c.in-Ok.ensures.fits c.clear.ensures.items c.in_ok-reply-in-Ok.ensures.answered))

pub returns-in_ok-reply-in-Ok-clause-refused : goal.returns-in_ok-reply-in-Ok-clause-refused
returns-in_ok-reply-in-Ok-clause-refused g c = rw c.outcome_of.ensures (outcome_right c.in-Ok.first.worker c.in-Ok.first.attempt c.in_ok-reply-in-Ok.reply _)

pub returns-in_ok-reply-in-Ok-clause-added : goal.returns-in_ok-reply-in-Ok-clause-added
returns-in_ok-reply-in-Ok-clause-added g c = rw c.outcome_of.ensures (c.in_ok-reply-in-Ok.ensures.journal ∙ outcome_added c.args.system.now.journal c.in-Ok.first.worker c.in-Ok.first.attempt c.in_ok-reply-in-Ok.reply)

pub returns-in-Err-clause-refused : goal.returns-in-Err-clause-refused
returns-in-Err-clause-refused g c = (
  refl,
  (
    is_other _ _ _ _ c.as_slice.ensures c.if-eq.false c.eq.ensures,
    refused_line c.decl.result.now.declaration c.args.system.now.declaration c.args.line.now c.in-Err.stop.fault c.decl.ensures c.requires.one c.in-Err.ensures.err,
  ),
)
