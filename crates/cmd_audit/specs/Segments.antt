-- What an audit says of the texts of a journal in segments, a file for each.
use Rattle.std.specs.Prelude.{◌≡◌, ◌≢◌, ◌<◌, [], ◌⊎◌, ℕ, List, length, take, slice_index_or, Option, Some, None}
use Rattle.std.specs.Option.{unwrap_or}
use Rattle.path_model.specs.declared.journal.Line.{Line}
use Rattle.path_model.specs.Declarations.{Declaration}
use Rattle.path_model.specs.Rooms.{IsRoom, IsBadRoom}
use Rattle.path_journal.specs.JournalTexts.{IsJournalText}
use Rattle.path_audit.specs.declared.journals.Verdict.{Verdict}
use Rattle.path_audit.specs.declared.journals.Verdict.TheVariants as verdicts
use Rattle.path_audit.specs.declared.journals.SegmentsVerdict.{SegmentsVerdict}
use Rattle.path_audit.specs.declared.journals.SegmentsVerdict.TheVariants.{Sound, WrongLine}
use Rattle.path_audit.specs.Judged.{IsSegmentsVerdict}
use Rattle.tell_base.specs.declared.status.Status.{Status}
use Rattle.tell_base.specs.Ends.{OfText, UnderText, Writes}
use Rattle.tell_base.specs.Own.{own_openings}
use Rattle.tell_base.specs.Refusals.{IsBadJournal}
use Rattle.cmd_audit.specs.Audits.{verdict_line, verdict_status}

-- the text is that of a segment with these lines: it names this room, or none
pub record IsSegmentText (d : Declaration) (room : ℕ) (text : List ℕ) (lines : List Line) : Type 0 where
  pub named : Option ℕ
  pub told : IsJournalText d text named lines
  pub same : unwrap_or named room ≡ room

-- the texts are those of these segments, in order. The room of each is the one that the first text names, else the one that is given.
pub record AreSegmentTexts (d : Declaration) (given : ℕ) (texts : List (List ℕ)) (room : ℕ) (segments : List (List Line)) : Type 0 where
  pub counted : length segments ≡ length texts
  pub each : (i : ℕ) → i < length texts → IsSegmentText d room (slice_index_or texts i []) (slice_index_or segments i [])
  pub first : (room ≡ given) ⊎ ((lines : List Line) × IsJournalText d (slice_index_or texts 0 []) (Some room) lines)

-- the texts are those of segments with this verdict, over the program's own devices
pub record AreAuditOf (d : Declaration) (given : ℕ) (texts : List (List ℕ)) (verdict : SegmentsVerdict) : Type 0 where
  pub room : ℕ
  pub segments : List (List Line)
  pub told : AreSegmentTexts d given texts room segments
  pub in_range : IsRoom room
  pub judged : IsSegmentsVerdict d room (own_openings d) segments verdict

-- the text of file i is a journal that names another room than the segments before it
pub record NamesAnother (d : Declaration) (given : ℕ) (texts : List (List ℕ)) (i : ℕ) : Type 0 where
  pub room : ℕ
  pub named : ℕ
  pub segments : List (List Line)
  pub lines : List Line
  pub later : 0 < i
  pub before : AreSegmentTexts d given (take i texts) room segments
  pub told : IsJournalText d (slice_index_or texts i []) (Some named) lines
  pub other : named ≢ room

-- a text is too long, or isn't a journal, or names another room than the segments before it
abbrev pub AreNoSegments : Declaration → ℕ → List (List ℕ) → Type 0
AreNoSegments d given texts = (i : ℕ) × (i < length texts) × (IsBadJournal d (slice_index_or texts i []) ⊎ NamesAnother d given texts i)

-- the texts are those of segments, whose room is out of range
pub record LackRoom (d : Declaration) (given : ℕ) (texts : List (List ℕ)) : Type 0 where
  pub segments : List (List Line)
  pub told : AreSegmentTexts d given texts given segments
  pub bad : IsBadRoom given

-- the line of a verdict, as that of its own file
abbrev pub verdict_in : SegmentsVerdict → Verdict
verdict_in Sound = verdicts.Sound
verdict_in (WrongLine s n) = verdicts.WrongLine n

-- the name of the file of a wrong line
abbrev pub file_of : List (List ℕ) → SegmentsVerdict → Option (List ℕ)
file_of names Sound = None
file_of names (WrongLine s n) = Some (slice_index_or names s [])

-- the bytes are the line of the verdict that the texts have, which ends so
abbrev pub TellsSegments : Declaration → ℕ → List (List ℕ) → List (List ℕ) → Status → List ℕ → Type 0
TellsSegments d given names texts status out =
    (verdict : SegmentsVerdict) × AreAuditOf d given texts verdict
    × Writes (verdict_status (verdict_in verdict)) (verdict_line (file_of names verdict) (verdict_in verdict)) status out

-- how an audit of a journal in files of these names ends
abbrev pub SegmentsEnd : ℕ → List (List ℕ) → List (List ℕ) → Declaration → Status → List ℕ → Type 0
SegmentsEnd given names texts d = OfText (TellsSegments d given names texts) (LackRoom d given texts) (AreNoSegments d given texts)

-- the same, under the declaration in another text
abbrev pub SegmentTextsEnd : List ℕ → ℕ → List (List ℕ) → List (List ℕ) → Status → List ℕ → Type 0
SegmentTextsEnd declaration given names texts = UnderText declaration (SegmentsEnd given names texts)
