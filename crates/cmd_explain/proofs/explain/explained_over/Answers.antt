-- A text is refused, no system can be opened, or its attempts are explained.
use Rattle.std.specs.Prelude.{map}
use Rattle.std.proofs.Common.{◌<◌, length, sym, ap, subst, arith, Err}
use Rattle.std.proofs.lemmas.Result.{IfOk-weaker, IfErr-weaker}
use Rattle.tell_base.specs.Statuses.{status_of}
use Rattle.tell_base.specs.Ends.{RefusesText}
use Rattle.tell_base.specs.Refusals.{HasAttempts, IsBadAttempts, IsUnopened}
use Rattle.tell_base.proofs.CallerLemmas.{refuses_attempts, refuses_opening}
use Rattle.path_system.specs.Accounts.{Account}
use Rattle.cmd_explain.proofs.explain.explained_over.Goals as goal

pub returns-in-Ok-open-clause-ok : goal.returns-in-Ok-open-clause-ok
returns-in-Ok-open-clause-ok g c =
    IfOk-weaker c.explained-text.result _ _
    (λ text told. (c.in-Ok.entries.items, c.in-Ok.ensures.ok, told))
    (rw (c.in-Ok-open.ensures.ok, c.deref.ensures.value) at c.explained-text.ensures.ok)

pub returns-in-Ok-open-clause-err : goal.returns-in-Ok-open-clause-err
returns-in-Ok-open-clause-err g c =
    IfErr-weaker c.explained-text.result _ _
    (λ fault is. subst (λ f. RefusesText (HasAttempts c.args.decl.declaration c.args.attempts.now × IsUnopened c.args.decl.declaration (map g.D.Device.state c.args.devices.items) c.args.room)
    (IsBadAttempts c.args.decl.declaration c.args.attempts.now) (status_of f)) (sym is) (record { may = tt }))
    c.explained-text.ensures.memory

pub returns-clause-err : goal.returns-clause-err
returns-clause-err g c =
    let long : 134217728 < length c.args.attempts.now → ⊥ = λ l. (let k = c.in-Ok.ensures.too_long.1 l in cc) in
    refuses_opening _ _ c.args.decl.declaration (map g.D.Device.state c.args.devices.items) c.args.room c.in-Err-open.fault
    (λ unopened. (record { short = omega (arith, long); entries = c.in-Ok.entries.items; listed = c.in-Ok.ensures.ok }, unopened)) c.in-Err-open.ensures.fault

pub returns-in-Err-clause-err : goal.returns-in-Err-clause-err
returns-in-Err-clause-err g c =
    refuses_attempts _ c.args.decl.declaration c.args.attempts.now c.in-Err.fault (λ e. c.in-Err.ensures.too_long.0 (ap Err e)) (λ a b. c.in-Err.ensures.none a b)

pub explained-text-requires : goal.explained-text-requires
explained-text-requires g c = ap (λ (a : Account). a.opened) c.in-Ok-open.ensures.ok
