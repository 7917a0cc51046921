-- The status of what refuses the files of a journal.
use Rattle.tell_base.specs.declared.status.Status.{Status}
use Rattle.tell_base.specs.declared.status.Status.TheVariants as statuses
use Rattle.tell_base.specs.Statuses.{audit_status, text_status}
use Rattle.cmd_audit.specs.declared.files.FilesFault.{FilesFault}
use Rattle.cmd_audit.specs.declared.files.FilesFault.TheVariants as faults

-- the status of what refuses files
abbrev pub fault_status : FilesFault → Status
fault_status (faults.Text i fault) = text_status fault
fault_status (faults.OtherRoom i) = statuses.TextRefused
fault_status (faults.Audit fault) = audit_status fault
fault_status faults.OutOfMemory = statuses.NoMemory
