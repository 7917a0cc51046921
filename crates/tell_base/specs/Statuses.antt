-- How a command ends: the number of each status, and the status of each fault.
use Rattle.std.specs.Prelude.{ℕ}
use Rattle.path_lex.specs.declared.fault.DeclFault.{DeclFault}
use Rattle.path_lex.specs.declared.fault.DeclFault.TheVariants as declarations
use Rattle.path_lines.specs.declared.texts.TextFault.{TextFault}
use Rattle.path_lines.specs.declared.texts.TextFault.TheVariants as texts
use Rattle.path_script.specs.declared.fault.ScriptFault.{ScriptFault}
use Rattle.path_script.specs.declared.fault.ScriptFault.TheVariants as scripts
use Rattle.path_system.specs.declared.fault.OpenFault.{OpenFault}
use Rattle.path_system.specs.declared.fault.OpenFault.TheVariants as openings
use Rattle.path_audit.specs.declared.auditor.AuditFault.{AuditFault}
use Rattle.path_audit.specs.declared.auditor.AuditFault.TheVariants as audits
use Rattle.tell_base.specs.declared.status.Status.{Status}
use Rattle.tell_base.specs.declared.status.Status.TheVariants as statuses
use Rattle.tell_base.specs.declared.fault.Fault.{Fault}
use Rattle.tell_base.specs.declared.fault.Fault.TheVariants as faults

-- the number that a process exits with
abbrev pub status_number : Status → ℕ
status_number statuses.Done = 0
status_number statuses.DeclarationRefused = 1
status_number statuses.CommandRefused = 2
status_number statuses.StreamFailed = 3
status_number statuses.TextRefused = 4
status_number statuses.Unsound = 5
status_number statuses.NoMemory = 6

-- the status of a refused declaration
abbrev pub declaration_status : DeclFault → Status
declaration_status declarations.OutOfMemory = statuses.NoMemory
declaration_status fault = statuses.DeclarationRefused

-- the status of a system that can't be opened
abbrev pub open_status : OpenFault → Status
open_status openings.OutOfMemory = statuses.NoMemory
open_status fault = statuses.CommandRefused

-- the status of a journal that can't be audited
abbrev pub audit_status : AuditFault → Status
audit_status audits.OutOfMemory = statuses.NoMemory
audit_status fault = statuses.CommandRefused

-- the status of a refused text of attempts, or of a journal
abbrev pub text_status : TextFault → Status
text_status texts.OutOfMemory = statuses.NoMemory
text_status fault = statuses.TextRefused

-- the status of a refused script
abbrev pub script_status : ScriptFault → Status
script_status scripts.OutOfMemory = statuses.NoMemory
script_status fault = statuses.TextRefused

-- the status of a fault
abbrev pub status_of : Fault → Status
status_of (faults.Declaration fault) = declaration_status fault
status_of faults.Arguments = statuses.CommandRefused
status_of (faults.Open fault) = open_status fault
status_of (faults.Audit fault) = audit_status fault
status_of (faults.Unreadable name) = statuses.StreamFailed
status_of (faults.TooLong name) = statuses.StreamFailed
status_of faults.Unwritable = statuses.StreamFailed
status_of (faults.Text fault) = text_status fault
status_of (faults.Script fault) = script_status fault
status_of faults.Unsettled = statuses.Unsound
status_of faults.OutOfMemory = statuses.NoMemory
