-- The declaration is refused, or the journal is audited under it.
use Rattle.tell_base.specs.Statuses.{declaration_status}
use Rattle.tell_base.proofs.CallerLemmas.{ends_told, ends_under, may_undeclared, undeclared}
use Rattle.cmd_audit.specs.Audits.{AuditEnd}
use Rattle.cmd_audit.proofs.audit.audit_bytes.Goals as goal

pub returns-in-Ok : goal.returns-in-Ok
returns-in-Ok g c = ends_under _ (AuditEnd c.args.room c.args.journal.now) c.in-Ok.decl.declaration _ _ _ c.in-Ok.ensures.ok (λ out none. none) c.audit_to.ensures.ends

pub returns-in-Err : goal.returns-in-Err
returns-in-Err g c =
    ends_told _ _ (declaration_status c.in-Err.fault) _ (may_undeclared _ (AuditEnd c.args.room c.args.journal.now) _ (undeclared c.args.declaration.now c.in-Err.fault c.in-Err.ensures.err)) c.tell.ensures
