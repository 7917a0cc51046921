-- The declaration is refused, or the journal under it, or it is judged.
use Rattle.std.proofs.lemmas.Result.{IfOk-weaker, IfErr-weaker}
use Rattle.tell_base.specs.Statuses.{status_of}
use Rattle.tell_base.proofs.CallerLemmas.{may_refuse, may_under, may_undeclared, undeclared}
use Rattle.cmd_explain.specs.Judgements.{IsJudgedText, JudgementEnd}
use Rattle.cmd_explain.proofs.journal.judge_under.Goals as goal

pub returns-in-Ok-clause-ok : goal.returns-in-Ok-clause-ok
returns-in-Ok-clause-ok g c =
    IfOk-weaker c.judge_text.result _ _ (λ judged told. (c.in-Ok.decl.declaration, c.in-Ok.ensures.ok, told)) c.judge_text.ensures.ok

pub returns-in-Ok-clause-err : goal.returns-in-Ok-clause-err
returns-in-Ok-clause-err g c =
    IfErr-weaker c.judge_text.result _ _
    (λ fault is. may_under _ (JudgementEnd c.args.room c.args.text.now) c.in-Ok.decl.declaration (status_of fault) c.in-Ok.ensures.ok (λ out none. none) (may_refuse (IsJudgedText c.in-Ok.decl.declaration c.args.room c.args.text.now) _ _ _ _ (status_of fault) (λ x. x) (λ x. x) is)) c.judge_text.ensures.err

pub returns-in-Err-clause-err : goal.returns-in-Err-clause-err
returns-in-Err-clause-err g c = may_undeclared _ (JudgementEnd c.args.room c.args.text.now) _ (undeclared c.args.declaration.now c.in-Err.fault c.in-Err.ensures.err)
