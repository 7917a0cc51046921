-- The text is drawn under the declaration that was read, or why not.
use Rattle.std.proofs.lemmas.Result.{IfOk-weaker, IfErr-weaker}
use Rattle.tell_base.specs.Statuses.{status_of}
use Rattle.tell_base.proofs.CallerLemmas.{may_refuse, may_under, may_undeclared}
use Rattle.tell_base.specs.Ends.{AtDone}
use Rattle.cmd_picture.specs.Pictures.{IsPictureOf, PictureEnd}
use Rattle.cmd_picture.proofs.picture.picture.Goals as goal

pub returns-in-Ok-clause-ok : goal.returns-in-Ok-clause-ok
returns-in-Ok-clause-ok g c =
    IfOk-weaker c.drawn.result _ _ (λ text is. (c.in-Ok.decl.declaration, c.in-Ok.ensures.declares, is)) c.drawn.ensures.ok

pub returns-in-Ok-clause-err : goal.returns-in-Ok-clause-err
returns-in-Ok-clause-err g c =
    IfErr-weaker c.drawn.result _ _
    (λ fault is. may_under _ (PictureEnd c.args.room c.args.attempts.now) c.in-Ok.decl.declaration (status_of fault) c.in-Ok.ensures.declares (λ out none. none) (may_refuse (AtDone (IsPictureOf c.args.room c.args.attempts.now c.in-Ok.decl.declaration)) _ _ _ _ (status_of fault) (λ x. x) (λ x. x) is))
    c.drawn.ensures.err

pub returns-in-Err-clause-err : goal.returns-in-Err-clause-err
returns-in-Err-clause-err g c = may_undeclared _ (PictureEnd c.args.room c.args.attempts.now) (status_of c.in-Err.fault) c.in-Err.ensures.err
