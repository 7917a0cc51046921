-- What refuses the journal is told.
use Rattle.std.proofs.Common.{subst, sym}
use Rattle.path_service.specs.Verdicts.{IsAuditRefusal}
use Rattle.path_service.proofs.ReadFault.{read_fault}
use Rattle.path_service.proofs.Refused.{refused}
use Rattle.path_service.proofs.auditing.audit_text.Goals as goal

pub returns-in-Ok-clause-err : goal.returns-in-Ok-clause-err
returns-in-Ok-clause-err g c =
    subst (IsAuditRefusal c.args.declaration.now c.args.room c.args.journal.now) (sym c.refusal.ensures)
    (refused c.args.declaration.now c.args.room c.args.journal.now c.in-Ok.decl.declaration c.in-Err-verdict_on.fault c.in-Ok.ensures.ok c.in-Err-verdict_on.ensures.err c.in-Err-verdict_on.ensures.text)

pub returns-clause-err : goal.returns-clause-err
returns-clause-err g c =
    let told = c.in-Err.ensures in
    read_fault _ c.args.declaration.now c.in-Err.fault told.err told.too_long told.bad_byte told.first_bad told.word_too_long told.first_long_word told.number_too_long told.first_long_number
