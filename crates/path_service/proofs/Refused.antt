-- What an audit is refused for.
use Rattle.std.proofs.Common.{ℕ, List}
use Rattle.path_model.specs.Declarations.{Declaration}
use Rattle.path_decl.specs.Text.{IsDeclarationText}
use Rattle.path_audit.specs.declared.auditor.AuditFault.TheVariants as audits
use Rattle.tell_base.specs.declared.fault.Fault.{Fault}
use Rattle.tell_base.specs.declared.fault.Fault.TheVariants as streams
use Rattle.tell_base.specs.Statuses.{status_of}
use Rattle.tell_base.specs.Ends.{RefusesText}
use Rattle.tell_base.specs.Refusals.{IsBadJournal, LacksRoom}
use Rattle.cmd_audit.specs.Audits.{IsTextFaultOf}
use Rattle.path_service.specs.Verdicts.{IsAuditRefusal, refusal_of}

pub refused : (text : List ℕ) (room : ℕ) (journal : List ℕ) (d : Declaration) (f : Fault) → IsDeclarationText text d
    → RefusesText (LacksRoom d room journal) (IsBadJournal d journal) (status_of f) → IsTextFaultOf d journal f
    → IsAuditRefusal text room journal (refusal_of f)
refused text room journal d (streams.Text fault) is un at = (d, is, at)
refused text room journal d (streams.Audit audits.BadRoom) is un at = (d, is, un.may.0)
refused text room journal d f is un at = tt
