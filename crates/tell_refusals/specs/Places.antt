-- Where a text is at fault that a command refused.
use Rattle.std.specs.Prelude.{◌≡◌, ◌≢◌, ◌+◌, ◌==◌, ℕ, List, [], ◌∷◌, Option, if◌then◌else◌}
use Rattle.path_lex.specs.declared.fault.DeclFault.{DeclFault}
use Rattle.path_lex.specs.declared.fault.DeclFault.TheVariants as declarations
use Rattle.path_model.specs.declared.journal.Line.{Line}
use Rattle.path_model.specs.Declarations.{Declaration}
use Rattle.path_decl.specs.Text.{IsDeclarationText}
use Rattle.path_read.specs.Refused.{Refuses}
use Rattle.path_lines.specs.declared.texts.TextFault.{TextFault}
use Rattle.path_lines.specs.declared.texts.TextFault.TheVariants as texts
use Rattle.path_lines.specs.AttemptTexts.{Entry, IsAttemptsText, IsTextFault}
use Rattle.path_journal.specs.JournalFaults.{IsJournalFault}
use Rattle.path_journal.specs.JournalTexts.{IsJournalText}
use Rattle.path_script.specs.declared.fault.ScriptFault.{ScriptFault}
use Rattle.path_script.specs.declared.fault.ScriptFault.TheVariants as scripts
use Rattle.path_script.specs.ScriptFaults.{IsScriptFault}
use Rattle.path_script.specs.Scripts.{Plan}
use Rattle.path_script.specs.ScriptTexts.{IsScriptText}
use Rattle.cmd_audit.specs.Audits.{IsWrongText}
use Rattle.tell_places.specs.declared.places.Spot.{Spot}
use Rattle.tell_places.specs.Places.{IsDeclarationSpot, IsLineSpot, number_of, script_number}

-- the text is a declaration
abbrev pub IsDeclared : List ℕ → Type 0
IsDeclared text = (d : Declaration) × IsDeclarationText text d

-- attempts under a declaration
abbrev pub AreAttempts : Declaration → List ℕ → Type 0
AreAttempts d text = (entries : List Entry) × IsAttemptsText d text entries

-- a journal
abbrev pub IsJournal : Declaration → List ℕ → Type 0
IsJournal d text = (room : Option ℕ) × (lines : List Line) × IsJournalText d text room lines

-- a script
abbrev pub IsScript : Declaration → List ℕ → Type 0
IsScript d text = (plans : List Plan) × IsScriptText d text plans

-- the text is refused as a declaration, for a fault with this place
abbrev pub IsDeclarationPlace : List ℕ → Spot → Type 0
IsDeclarationPlace text spot =
    (fault : DeclFault) × (fault ≢ declarations.OutOfMemory) × Refuses text fault × IsDeclarationSpot text fault spot

-- as attempts
abbrev pub IsAttemptsPlace : Declaration → List ℕ → Spot → Type 0
IsAttemptsPlace d text spot =
    (fault : TextFault) × (fault ≢ texts.OutOfMemory) × IsTextFault d text fault × IsLineSpot text (number_of fault) spot

-- as a journal
abbrev pub IsJournalPlace : Declaration → List ℕ → Spot → Type 0
IsJournalPlace d text spot =
    (fault : TextFault) × (fault ≢ texts.OutOfMemory) × IsJournalFault d text fault × IsLineSpot text (number_of fault) spot

-- as a script
abbrev pub IsScriptPlace : Declaration → List ℕ → Spot → Type 0
IsScriptPlace d text spot =
    (fault : ScriptFault) × (fault ≢ scripts.OutOfMemory) × IsScriptFault d text fault × IsLineSpot text (script_number fault) spot

-- how many lines of a text precede those of its journal: one if it begins with a head, that is with a j (106)
abbrev pub lines_before : List ℕ → ℕ
lines_before [] = 0
lines_before (b ∷ text) = if b == 106 then 1 else 0

-- the number, from 1, of the line in the text of a journal that is its first wrong one
abbrev pub IsWrongNumber : Declaration → ℕ → List ℕ → ℕ → Type 0
IsWrongNumber d room text number = (n : ℕ) × IsWrongText d room text n × (number ≡ n + lines_before text + 1)
