-- The journal is drawn under the declaration that was read, or why not.
use Rattle.std.proofs.lemmas.Result.{IfOk-weaker, IfErr-weaker}
use Rattle.tell_base.specs.Statuses.{status_of}
use Rattle.tell_base.proofs.CallerLemmas.{may_refuse, may_under, may_undeclared, undeclared}
use Rattle.tell_base.specs.Ends.{AtDone}
use Rattle.cmd_picture.specs.Pictures.{IsPictureOfJournal, JournalPictureEnd}
use Rattle.cmd_picture.proofs.picture.journal_picture.Goals as goal

pub returns-in-Ok-clause-ok : goal.returns-in-Ok-clause-ok
returns-in-Ok-clause-ok g c =
    IfOk-weaker c.journal_drawn.result _ _ (λ text is. (c.in-Ok.decl.declaration, c.in-Ok.ensures.ok, is)) c.journal_drawn.ensures.ok

pub returns-in-Ok-clause-err : goal.returns-in-Ok-clause-err
returns-in-Ok-clause-err g c =
    IfErr-weaker c.journal_drawn.result _ _
    (λ fault is. may_under _ (JournalPictureEnd c.args.journal.now) c.in-Ok.decl.declaration (status_of fault) c.in-Ok.ensures.ok (λ out none. none) (may_refuse (AtDone (IsPictureOfJournal c.args.journal.now c.in-Ok.decl.declaration)) _ _ _ _ (status_of fault) (λ x. x) (λ x. x) is))
    c.journal_drawn.ensures.err

pub returns-in-Err-clause-err : goal.returns-in-Err-clause-err
returns-in-Err-clause-err g c = may_undeclared _ (JournalPictureEnd c.args.journal.now) _ (undeclared c.args.declaration.now c.in-Err.fault c.in-Err.ensures.err)
