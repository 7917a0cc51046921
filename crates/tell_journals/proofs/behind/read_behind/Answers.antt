-- The declaration is refused, or a system under it goes on or doesn't.
use Rattle.std.specs.Prelude.{map}
use Rattle.std.proofs.lemmas.Result.{IfOk-weaker, IfErr-weaker}
use Rattle.tell_base.specs.Statuses.{status_of}
use Rattle.tell_base.proofs.CallerLemmas.{may_under, may_undeclared}
use Rattle.tell_journals.specs.Behind.{OfBehind, behind_status}
use Rattle.tell_journals.proofs.Wrong.{names_under}
use Rattle.tell_journals.proofs.behind.read_behind.Goals as goal

pub returns-in-Ok-clause-ok : goal.returns-in-Ok-clause-ok
returns-in-Ok-clause-ok g c =
    IfOk-weaker c.open_behind.result _ _ (λ behind is. (c.in-Ok.decl.declaration, c.in-Ok.ensures.declares, is)) c.open_behind.ensures.ok

pub returns-in-Ok-clause-err : goal.returns-in-Ok-clause-err
returns-in-Ok-clause-err g c =
    IfErr-weaker c.open_behind.result _ _
    (λ fault may. may_under _ (λ d. OfBehind (λ out. ⊥) ⊥ d c.args.room (map (λ f. f.text.items) c.args.files.now)) c.in-Ok.decl.declaration (behind_status fault) c.in-Ok.ensures.declares (λ out none. none) may)
    c.open_behind.ensures.err

pub returns-in-Err-clause-err : goal.returns-in-Err-clause-err
returns-in-Err-clause-err g c =
    may_undeclared _ (λ d. OfBehind (λ out. ⊥) ⊥ d c.args.room (map (λ f. f.text.items) c.args.files.now)) (status_of c.in-Err.fault) c.in-Err.ensures.err

pub returns-in-Ok-clause-segments : goal.returns-in-Ok-clause-segments
returns-in-Ok-clause-segments g c =
    IfOk-weaker c.open_behind.result _ _ (λ behind are. (c.in-Ok.decl.declaration, c.in-Ok.ensures.declares, are)) c.open_behind.ensures.segments

pub returns-in-Ok-clause-wrong : goal.returns-in-Ok-clause-wrong
returns-in-Ok-clause-wrong g c =
    IfErr-weaker c.open_behind.result _ _ (λ fault named. names_under _ c.in-Ok.decl.declaration c.args.room (map (λ f. f.text.items) c.args.files.now) fault c.in-Ok.ensures.declares named) c.open_behind.ensures.wrong
