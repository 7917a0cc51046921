-- The answer is what was written into an empty text.
use Rattle.cmd_audit.specs.Audits.{AuditEnds}
use Rattle.page_answers.proofs.Answered.{answered}
use Rattle.page_answers.proofs.commands.audit.Goals as goal

pub returns : goal.returns
returns g c =
    answered (AuditEnds c.args.declaration.now c.args.room c.args.journal.now) c.audit_bytes-status.result _ _ _ _ c.blank-answer.ensures c.audit_bytes-status.ensures c.ended.ensures.kept c.ended.ensures.failed
