-- Why no service goes on behind a journal.
use Rattle.std.proofs.Common.{ℕ, Bool, List}
use Rattle.path_model.specs.declared.journal.Line.{Line}
use Rattle.path_model.specs.Declarations.{Declaration}
use Rattle.path_decl.specs.Text.{IsDeclarationText}
use Rattle.path_journal.specs.declared.version.Version.{Version}
use Rattle.path_journal.specs.CutTexts.{IsCutJournal}
use Rattle.path_service.specs.declared.fault.ServiceFault.{ServiceFault}
use Rattle.path_service.specs.declared.fault.ServiceFault.TheVariants as faults
use Rattle.path_service.specs.Services.{IsUnserved, as_refusal}
use Rattle.path_service.specs.Taken.{IsResumeRefusal, room_in}

pub unserved : (text : List ℕ) (room : ℕ) (keeps : Bool) (journal : List ℕ) (d : Declaration) (version : Version) (lines : List Line) (bytes : ℕ) → IsDeclarationText text d → IsCutJournal d journal version lines bytes
    → (fault : ServiceFault) → IsUnserved (room_in version room) fault → IsResumeRefusal text room keeps journal (as_refusal fault)
unserved text room keeps journal d version lines bytes declared cut (faults.Declaration fault) is = absurd is
unserved text room keeps journal d version lines bytes declared cut faults.BadRoom is =
    record { declaration = d; declared = declared; version = version; lines = lines; bytes = bytes; cut = cut; bad = is }
unserved text room keeps journal d version lines bytes declared cut faults.OutOfMemory is = tt
