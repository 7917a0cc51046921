-- The attempts are refused, or they are explained.
use Rattle.std.proofs.Common.{sym, subst}
use Rattle.std.proofs.lemmas.Result.{IfOk-weaker, IfErr-weaker}
use Rattle.path_model.specs.Declarations.{Declaration}
use Rattle.path_lines.specs.AttemptTexts.{IsAttemptsText}
use Rattle.tell_base.specs.Ends.{RefusesText}
use Rattle.tell_base.specs.Refusals.{IsBadAttempts}
use Rattle.tell_base.specs.Statuses.{status_of}
use Rattle.cmd_explain.proofs.behind.explained_behind.Goals as goal

pub returns-clause-ok : goal.returns-clause-ok
returns-clause-ok g c =
    IfOk-weaker c.explained-text.result _ _
    (λ text told. (
      c.in-Ok.entries.items,
      subst (λ (d : Declaration). IsAttemptsText d c.args.attempts.now c.in-Ok.entries.items) c.decl.ensures c.in-Ok.ensures.ok,
      told,
    ))
    (rw c.deref-2.ensures.value at c.explained-text.ensures.ok)

pub returns-clause-err : goal.returns-clause-err
returns-clause-err g c =
    IfErr-weaker c.explained-text.result _ _
    (λ fault is. subst (λ f. RefusesText ⊥ (IsBadAttempts c.args.behind.system.declaration c.args.attempts.now) (status_of f)) (sym is) (record { may = tt }))
    c.explained-text.ensures.memory
