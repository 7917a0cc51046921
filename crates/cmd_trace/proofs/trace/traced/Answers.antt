-- The trace is that of the system that was opened.
use Rattle.std.specs.Prelude.{map}
use Rattle.std.proofs.Common.{ap}
use Rattle.std.proofs.lemmas.Result.{IfErr-weaker}
use Rattle.tell_base.specs.Statuses.{status_of}
use Rattle.tell_base.proofs.CallerLemmas.{may_refuse}
use Rattle.cmd_trace.proofs.FaultLemmas.{refuses_memory}
use Rattle.path_system.specs.Accounts.{Account}
use Rattle.cmd_trace.proofs.trace.traced.Goals as goal

pub returns-in-Ok-clause-ok : goal.returns-in-Ok-clause-ok
returns-in-Ok-clause-ok g c = rw c.in-Ok.ensures.ok at c.replies_and_report-trace.ensures.ok

pub returns-in-Ok-clause-err : goal.returns-in-Ok-clause-err
returns-in-Ok-clause-err g c =
    IfErr-weaker c.replies_and_report-trace.result _ _
    (λ fault bad. may_refuse (λ t out. ⊥) ⊥ _ _ _ (status_of fault) absurd (λ x. x) bad)
    (rw c.in-Ok.ensures.ok at c.replies_and_report-trace.ensures.err)

pub returns-clause-err : goal.returns-clause-err
returns-clause-err g c =
    refuses_memory c.args.decl.declaration (map g.D.Device.state c.args.devices.items) c.args.room c.args.attempts.now c.in-Err.fault
    c.in_default.ensures.none.1 (rw c.deref.ensures.value at c.in_default.ensures.none.2) c.in-Err.ensures.fault

pub returns-in-Some-clause-err : goal.returns-in-Some-clause-err
returns-in-Some-clause-err g c = rw c.deref.ensures.value at c.in-Some.ensures.some

pub replies_and_report-trace-requires-clause-first : goal.replies_and_report-trace-requires-clause-first
replies_and_report-trace-requires-clause-first g c = ap (λ (a : Account). a.opened) c.in-Ok.ensures.ok
