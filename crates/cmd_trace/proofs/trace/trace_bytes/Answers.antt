-- The declaration is refused, or its attempts are traced.
use Rattle.tell_base.specs.declared.status.Status.TheVariants.{Done}
use Rattle.tell_base.specs.Refusals.{IsUndeclared}
use Rattle.tell_base.specs.Statuses.{status_of}
use Rattle.tell_base.proofs.CallerLemmas.{ends_so, ends_told, ends_under, may_undeclared, told}
use Rattle.cmd_trace.specs.Traces.{OwnTraceEnds}
use Rattle.cmd_trace.proofs.FailLemmas.{own_so}
use Rattle.cmd_trace.proofs.trace.trace_bytes.Goals as goal

pub returns-in-Ok-clause-ends : goal.returns-in-Ok-clause-ends
returns-in-Ok-clause-ends g c =
    let d = c.in-Ok.decl.declaration in
    ends_under _ (OwnTraceEnds c.args.room c.args.report c.args.attempts.now) d _ _ _ c.in-Ok.ensures.declares (λ out none. none)
    (ends_so _ _ (own_so g.row.A.Denot d _ c.args.room c.args.report c.args.attempts.now c.in-Ok.ensures.devices) _ _ _ c.trace_to.ensures.ends)

pub returns-in-Ok-clause-room : goal.returns-in-Ok-clause-room
returns-in-Ok-clause-room g c = c.trace_to.ensures.room

pub returns-in-Err-clause-ends : goal.returns-in-Err-clause-ends
returns-in-Err-clause-ends g c =
    ends_told _ _ (status_of c.in-Err.fault) _ (may_undeclared _ (OwnTraceEnds c.args.room c.args.report c.args.attempts.now) (status_of c.in-Err.fault) c.in-Err.ensures.err) c.tell.ensures

pub returns-in-Err-clause-room : goal.returns-in-Err-clause-room
returns-in-Err-clause-room g c = λ bad e. told (IsUndeclared c.args.declaration.now) (status_of c.in-Err.fault) _ Done c.in-Err.ensures.err c.tell.ensures (λ h. cc) e
