-- The declaration is refused, or the attempts are explained over the program's own devices.
use Rattle.std.proofs.lemmas.Result.{IfOk-weaker, IfErr-weaker}
use Rattle.tell_base.specs.Statuses.{status_of}
use Rattle.tell_base.proofs.CallerLemmas.{may_refuse, may_under, may_undeclared, own_room}
use Rattle.tell_base.specs.Ends.{AtDone}
use Rattle.tell_base.specs.Own.{own_states}
use Rattle.cmd_explain.specs.Explanations.{ExplanationEnd, IsExplanationOver}
use Rattle.cmd_explain.proofs.Explaining.{explains_own}
use Rattle.cmd_explain.proofs.explain.attempts_in_words.Goals as goal

pub returns-in-Ok-clause-ok : goal.returns-in-Ok-clause-ok
returns-in-Ok-clause-ok g c =
    IfOk-weaker c.explained_over.result _ _
    (λ text told. (
      c.in-Ok.decl.declaration,
      c.in-Ok.ensures.declares,
      (told.0, told.1, explains_own {Y = g.row.A.Denot} c.in-Ok.decl.declaration _ c.args.room told.0 _ c.in-Ok.ensures.devices told.2),
    ))
    c.explained_over.ensures.ok

pub returns-in-Ok-clause-err : goal.returns-in-Ok-clause-err
returns-in-Ok-clause-err g c =
    IfErr-weaker c.explained_over.result _ _
    (λ fault is. may_under _ (ExplanationEnd c.args.room c.args.attempts.now) c.in-Ok.decl.declaration (status_of fault) c.in-Ok.ensures.declares (λ out none. none)
    (may_refuse (AtDone (IsExplanationOver c.in-Ok.decl.declaration (own_states c.in-Ok.decl.declaration) ⊥ c.args.room c.args.attempts.now)) _ _ _ _ (status_of fault) (λ p. (p.0, own_room c.in-Ok.decl.declaration _ c.args.room c.in-Ok.ensures.devices p.1)) (λ x. x) is))
    c.explained_over.ensures.err

pub returns-in-Err-clause-err : goal.returns-in-Err-clause-err
returns-in-Err-clause-err g c = may_undeclared _ (ExplanationEnd c.args.room c.args.attempts.now) (status_of c.in-Err.fault) c.in-Err.ensures.err
