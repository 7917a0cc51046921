-- Over the own devices' openings only the room can be refused.
use Rattle.tell_base.proofs.CallerLemmas.{refuses_audit}
use Rattle.cmd_audit.proofs.AuditLemmas.{audit_told, one_audit}
use Rattle.cmd_audit.proofs.audit.verdict_on.Goals as goal

pub returns-clause-err : goal.returns-clause-err
returns-clause-err g c = refuses_audit _ c.args.decl.now.declaration c.args.room _ c.args.text.now c.in-Ok.journal.room c.in-Ok.journal.lines.items _ c.in-Err-audit.fault c.in-Ok.ensures.ok c.unwrap_or-room.ensures c.in_ok-openings.ensures (rw c.deref.ensures.value at c.in-Err-audit.ensures.fault)

pub returns-in-Ok-audit-clause-ok : goal.returns-in-Ok-audit-clause-ok
returns-in-Ok-audit-clause-ok g c =
    audit_told c.args.decl.now.declaration c.args.room c.args.text.now c.in-Ok.journal.room c.in-Ok.journal.lines.items c.in-Ok-audit.verdict c.in-Ok.ensures.ok
    (rw c.unwrap_or-room.ensures at c.in-Ok-audit.ensures.auditable.in_range)
    (rw (c.deref.ensures.value, c.deref-2.ensures.value, c.in_ok-openings.ensures, c.unwrap_or-room.ensures) at c.in-Ok-audit.ensures.sound)
    (rw (c.deref.ensures.value, c.deref-2.ensures.value, c.in_ok-openings.ensures, c.unwrap_or-room.ensures) at c.in-Ok-audit.ensures.wrong)

pub returns-in-Ok-audit-clause-one : goal.returns-in-Ok-audit-clause-one
returns-in-Ok-audit-clause-one g c =
    one_audit c.args.decl.now.declaration c.args.room c.args.text.now c.in-Ok.journal.room c.in-Ok.journal.lines.items c.in-Ok-audit.verdict c.in-Ok.ensures.one
    (rw (c.deref.ensures.value, c.deref-2.ensures.value, c.in_ok-openings.ensures, c.unwrap_or-room.ensures) at c.in-Ok-audit.ensures.sound)
    (rw (c.deref.ensures.value, c.deref-2.ensures.value, c.in_ok-openings.ensures, c.unwrap_or-room.ensures) at c.in-Ok-audit.ensures.wrong)
