-- What is said of a journal's text under the text of a declaration.
use Rattle.std.specs.Prelude.{◌≡◌, ℕ, List}
use Rattle.path_model.specs.Declarations.{Declaration}
use Rattle.path_decl.specs.Text.{IsDeclarationText}
use Rattle.path_journal.specs.JournalFaults.{IsJournalFault}
use Rattle.path_audit.specs.declared.auditor.AuditFault.TheVariants as audits
use Rattle.path_audit.specs.declared.journals.Verdict.{Verdict}
use Rattle.tell_base.specs.declared.fault.Fault.{Fault}
use Rattle.tell_base.specs.declared.fault.Fault.TheVariants as streams
use Rattle.tell_base.specs.Refusals.{LacksRoom, Under}
use Rattle.cmd_audit.specs.Audits.{IsAuditOf}
use Rattle.path_service.specs.declared.fault.AuditRefusal.{AuditRefusal}
use Rattle.path_service.specs.declared.fault.AuditRefusal.TheVariants as refusals
use Rattle.path_service.specs.ReadFaults.{IsReadFault}

-- the first text is a declaration, and under it the second has this verdict and no other
pub record IsVerdictOn (text : List ℕ) (room : ℕ) (journal : List ℕ) (verdict : Verdict) : Type 0 where
  pub declaration : Declaration
  pub declared : IsDeclarationText text declaration
  pub audited : IsAuditOf declaration room journal verdict
  pub only : (other : Verdict) → IsAuditOf declaration room journal other → other ≡ verdict

-- the first text isn't a declaration, with this fault; or the second isn't a journal under it, with this fault; or it is one that names
-- no room, and no journal can have the room that is given
abbrev pub IsAuditRefusal : List ℕ → ℕ → List ℕ → AuditRefusal → Type 0
IsAuditRefusal text room journal (refusals.Declaration fault) = IsReadFault text fault
IsAuditRefusal text room journal (refusals.Journal fault) = Under text (λ d. IsJournalFault d journal fault)
IsAuditRefusal text room journal refusals.BadRoom = Under text (λ d. LacksRoom d room journal)
IsAuditRefusal text room journal refusals.OutOfMemory = Unit {0}

-- what a refused audit is refused for
abbrev pub refusal_of : Fault → AuditRefusal
refusal_of (streams.Text fault) = refusals.Journal fault
refusal_of (streams.Audit audits.BadRoom) = refusals.BadRoom
refusal_of fault = refusals.OutOfMemory
