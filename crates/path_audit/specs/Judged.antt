-- What an auditor has judged, and what it finds of one more segment.
use Rattle.std.specs.Prelude.{◌≡◌, ◌+◌, ◌<◌, ℕ, List, [], ◌∷◌, ◌++◌, length, take, slice_get, slice_index_or, Option, Some, None}
use Rattle.path_model.specs.declared.journal.Attempt.{Attempt}
use Rattle.path_model.specs.declared.journal.Reply.{Reply}
use Rattle.path_model.specs.declared.journal.Line.{Line}
use Rattle.path_model.specs.Declarations.{Declaration}
use Rattle.path_model.specs.Rooms.{IsRoom}
use Rattle.path_model.specs.Journals.{with_line}
use Rattle.path_model.specs.Segments.{joined, room_behind, AreHonest, OwedBehind}
use Rattle.path_audit.specs.declared.auditor.Wrong.{Wrong}
use Rattle.path_audit.specs.declared.auditor.JudgeFault.{JudgeFault}
use Rattle.path_audit.specs.declared.auditor.JudgeFault.TheVariants.{WrongLine, OutOfMemory}
use Rattle.path_audit.specs.declared.journals.SegmentsVerdict.{SegmentsVerdict}
use Rattle.path_audit.specs.declared.journals.SegmentsVerdict.TheVariants as verdicts
use Rattle.path_audit.specs.Inner.Replays.{ReplayValue, IsReplayOf}

-- what an auditor replayed so far, and the room of each segment
pub record AuditorValue : Type 0 where
  pub replay : ReplayValue
  pub room : ℕ

-- the auditor found these segments of a journal honest, and goes on behind them
pub record HasJudged (auditor : AuditorValue) (d : Declaration) (openings : List (List ℕ)) (segments : List (List Line)) : Type 0 where
  pub good_room : IsRoom auditor.room
  pub honest : AreHonest d auditor.room openings segments
  pub replayed : IsReplayOf auditor.replay d (room_behind (joined segments) auditor.room) openings (joined segments)

-- behind honest segments the lines before line n are honest, and with line n they aren't
pub record IsFirstWrongBehind (d : Declaration) (room : ℕ) (openings : List (List ℕ)) (segments : List (List Line)) (lines : List Line)
    (n : ℕ) : Type 0 where
  pub within : n < length lines
  pub honest : AreHonest d room openings (segments ++ take n lines ∷ [])
  pub wrong : AreHonest d room openings (segments ++ take (n + 1) lines ∷ []) → ⊥

-- what was replayed of a segment, the room, and the first wrong line, if there is one
pub record ExaminedValue : Type 0 where
  pub replay : ReplayValue
  pub room : ℕ
  pub wrong : Option Wrong

-- behind honest segments line n is the first wrong one; this reply was owed to its attempt, and the replay agrees with the lines before
-- it and with it as it should have been answered
pub record IsOwedInstead (replay : ReplayValue) (d : Declaration) (room : ℕ) (openings : List (List ℕ)) (segments : List (List Line))
    (lines : List Line) (n : ℕ) (reply : Reply) : Type 0 where
  pub worker : ℕ
  pub attempt : Attempt
  pub told : Reply
  pub at : slice_get lines n ≡ Some (record { worker = worker; attempt = attempt; reply = told })
  pub first : IsFirstWrongBehind d room openings segments lines n
  pub owed : OwedBehind d room openings (joined segments) (take n lines) worker attempt reply
  pub replayed : IsReplayOf replay d (room_behind (joined segments) room) openings
      (joined segments ++ with_line (take n lines) worker attempt reply)

abbrev pub IsExaminedAs : Option Wrong → ReplayValue → Declaration → ℕ → List (List ℕ) → List (List Line) → List Line → Type 0
IsExaminedAs None replay d room openings segments lines =
    HasJudged (record { replay = replay; room = room }) d openings (segments ++ lines ∷ [])
IsExaminedAs (Some wrong) replay d room openings segments lines = IsOwedInstead replay d room openings segments lines wrong.line wrong.owed

-- the segment was replayed behind these, to its end or up to its first wrong line
abbrev pub IsExamined : ExaminedValue → Declaration → List (List ℕ) → List (List Line) → List Line → Type 0
IsExamined x d openings segments lines = IsExaminedAs x.wrong x.replay d x.room openings segments lines

-- why the auditor doesn't go on behind one more segment
abbrev pub IsJudgeFault : Declaration → ℕ → List (List ℕ) → List (List Line) → List Line → JudgeFault → Type 0
IsJudgeFault d room openings segments lines (WrongLine n) = IsFirstWrongBehind d room openings segments lines n
IsJudgeFault d room openings segments lines OutOfMemory = Unit {0}

-- the segments are honest, or this line of this one is the first with which they aren't
abbrev pub IsSegmentsVerdict : Declaration → ℕ → List (List ℕ) → List (List Line) → SegmentsVerdict → Type 0
IsSegmentsVerdict d room openings segments verdicts.Sound = AreHonest d room openings segments
IsSegmentsVerdict d room openings segments (verdicts.WrongLine s n) =
    (s < length segments) × IsFirstWrongBehind d room openings (take s segments) (slice_index_or segments s []) n
