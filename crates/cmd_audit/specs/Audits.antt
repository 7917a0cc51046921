-- What an audit says of a journal's text.
use Rattle.std.specs.Prelude.{◌≡◌, ℕ, List, ◌∷◌, [], ◌++◌, codes, decimal, Option, Some, None}
use Rattle.std.specs.Option.{unwrap_or}
use Rattle.path_model.specs.declared.journal.Line.{Line}
use Rattle.path_model.specs.Declarations.{Declaration}
use Rattle.path_model.specs.Rooms.{IsRoom}
use Rattle.path_journal.specs.JournalTexts.{IsJournalText}
use Rattle.path_journal.specs.JournalFaults.{IsJournalFault}
use Rattle.path_audit.specs.declared.journals.Verdict.{Verdict}
use Rattle.path_audit.specs.declared.journals.Verdict.TheVariants.{Sound, WrongLine}
use Rattle.path_audit.specs.Verdicts.{IsVerdict}
use Rattle.tell_base.specs.declared.fault.Fault.{Fault}
use Rattle.tell_base.specs.declared.fault.Fault.TheVariants as faults
use Rattle.tell_base.specs.declared.status.Status.{Status}
use Rattle.tell_base.specs.declared.status.Status.TheVariants as statuses
use Rattle.tell_base.specs.Ends.{OfJournal, UnderText, Writes}
use Rattle.tell_base.specs.Own.{own_openings}

-- the text is that of a journal with this verdict, over the program's own devices; its room is the one that the text names, else the
-- one that is given
pub record IsAuditOf (d : Declaration) (room : ℕ) (text : List ℕ) (verdict : Verdict) : Type 0 where
  pub named : Option ℕ
  pub lines : List Line
  pub told : IsJournalText d text named lines
  pub in_range : IsRoom (unwrap_or named room)
  pub judged : IsVerdict d (unwrap_or named room) (own_openings d) lines verdict

-- the text is that of an honest journal
abbrev pub IsSoundText : Declaration → ℕ → List ℕ → Type 0
IsSoundText d room text = IsAuditOf d room text Sound

-- the text is that of a journal, and line n is the first with which it isn't honest
abbrev pub IsWrongText : Declaration → ℕ → List ℕ → ℕ → Type 0
IsWrongText d room text n = IsAuditOf d room text (WrongLine n)

-- the line of a verdict, with its line feed; that of a wrong line has the name of its file, if there are several
abbrev pub verdict_line : Option (List ℕ) → Verdict → List ℕ
verdict_line file Sound = codes "sound\n"
verdict_line None (WrongLine n) = codes "wrong line " ++ (decimal n ++ 10 ∷ [])
verdict_line (Some name) (WrongLine n) = codes "wrong line " ++ (decimal n ++ (codes " of " ++ (name ++ 10 ∷ [])))

-- the status with which it is written
abbrev pub verdict_status : Verdict → Status
verdict_status Sound = statuses.Done
verdict_status (WrongLine n) = statuses.Unsound

-- the bytes are the line of the verdict on a text, which ends so
abbrev pub TellsVerdict : Declaration → ℕ → List ℕ → Status → List ℕ → Type 0
TellsVerdict d room text status out =
    (verdict : Verdict) × IsAuditOf d room text verdict × Writes (verdict_status verdict) (verdict_line None verdict) status out

-- how an audit of the journal in a text ends
abbrev pub AuditEnd : ℕ → List ℕ → Declaration → Status → List ℕ → Type 0
AuditEnd room journal d = OfJournal (TellsVerdict d room journal) d room journal

-- the same, under the declaration in another text
abbrev pub AuditEnds : List ℕ → ℕ → List ℕ → Status → List ℕ → Type 0
AuditEnds declaration room journal = UnderText declaration (AuditEnd room journal)

-- a fault of the text is that of the journal that it isn't
abbrev pub IsTextFaultOf : Declaration → List ℕ → Fault → Type 0
IsTextFaultOf d text (faults.Text fault) = IsJournalFault d text fault
IsTextFaultOf d text fault = Unit {0}
