-- Journals in segments: a rotation gives the lines so far away, and the journal goes on behind them with all its room.
use Rattle.std.specs.Prelude.{◌≡◌, ◌≢◌, ◌≤◌, ◌+◌, ◌↔◌, nat_le, ℕ, Bool, true, false, List, [], ◌∷◌, ◌++◌, length}
use Rattle.path_model.specs.declared.journal.Attempt.{Attempt}
use Rattle.path_model.specs.declared.journal.Attempt.TheVariants.{Start}
use Rattle.path_model.specs.declared.journal.Reply.{Reply}
use Rattle.path_model.specs.declared.journal.Reply.TheVariants.{NoRoom}
use Rattle.path_model.specs.declared.journal.Line.{Line}
use Rattle.path_model.specs.Trees.{WellFormed}
use Rattle.path_model.specs.Legal.{Every}
use Rattle.path_model.specs.Declarations.{Declaration, paths_of}
use Rattle.path_model.specs.Journals.{begun_in, live}
use Rattle.path_model.specs.Owed.{Owed, AreSame}
use Rattle.path_model.specs.Honest.{IsHonest}

-- the lines of all segments, in order
abbrev pub joined : List (List Line) → List Line
joined [] = []
joined (s ∷ ss) = s ++ joined ss

-- the places of a segment that are taken: one for each of its own lines, and one for the finish of each live activation
abbrev pub taken_behind : List Line → List Line → ℕ
taken_behind earlier ls = length ls + length (live (earlier ++ ls))

-- the room for earlier lines and the present ones: beside its own lines a segment has a place for each earlier one
abbrev pub room_behind : List Line → ℕ → ℕ
room_behind [] room = room
room_behind (l ∷ earlier) room = room + length (l ∷ earlier)

-- whether the attempt is a start that has no number left: 4,294,967,295 starts were admitted. A journal without earlier lines is full
-- long before that.
abbrev pub has_no_number : List Line → List Line → Attempt → Bool
has_no_number [] ls attempt = false
has_no_number (l ∷ earlier) ls (Start a) = nat_le 4294967295 (begun_in ((l ∷ earlier) ++ ls))
has_no_number (l ∷ earlier) ls attempt = false

-- without a number NoRoom is owed
abbrev pub OwedUnless : Bool → Type 0 → Reply → Type 0
OwedUnless true owed reply = reply ≡ NoRoom
OwedUnless false owed reply = owed

-- The reply is owed to the worker's attempt after earlier lines, which were given away, and the lines of the present segment. Only the
-- latter and what is live take places: it is the reply that all lines owe together, in a room with as many places more as there are
-- earlier lines.
abbrev pub OwedBehind : Declaration → ℕ → List (List ℕ) → List Line → List Line → ℕ → Attempt → Reply → Type 0
OwedBehind d room openings earlier ls w attempt reply =
    OwedUnless (has_no_number earlier ls attempt) (Owed d (room_behind earlier room) openings (earlier ++ ls) w attempt reply) reply

abbrev pub IsSegmentFrom : Declaration → ℕ → List (List ℕ) → List Line → List Line → List Line → Type 0
IsSegmentFrom d room openings earlier before [] = Unit {0}
IsSegmentFrom d room openings earlier before (l ∷ ls) =
    OwedBehind d room openings earlier before l.worker l.attempt l.reply
    × (l.reply ≢ NoRoom)
    × IsSegmentFrom d room openings earlier (before ++ l ∷ []) ls

-- each line's reply is owed by the earlier lines and those before it, and none is NoRoom
abbrev pub IsSegment : Declaration → ℕ → List (List ℕ) → List Line → List Line → Type 0
IsSegment d room openings earlier ls = IsSegmentFrom d room openings earlier [] ls

abbrev pub AreHonestFrom : Declaration → ℕ → List (List ℕ) → List Line → List (List Line) → Type 0
AreHonestFrom d room openings earlier [] = Unit {0}
AreHonestFrom d room openings earlier (s ∷ ss) =
    IsSegment d room openings earlier s × AreHonestFrom d room openings (earlier ++ s) ss

-- the segments of an honest journal, each in this room
abbrev pub AreHonest : Declaration → ℕ → List (List ℕ) → List (List Line) → Type 0
AreHonest d room openings ss = AreHonestFrom d room openings [] ss

-- a journal of one segment is a journal
abbrev pub OneSegmentIsAJournal : Type 0
OneSegmentIsAJournal =
    (d : Declaration) (room : ℕ) (openings : List (List ℕ)) (ls : List Line)
    → AreHonest d room openings (ls ∷ []) ↔ IsHonest d room openings ls

-- an honest journal is honest in more room
abbrev pub MoreRoomKeepsHonest : Type 0
MoreRoomKeepsHonest =
    (d : Declaration) (room more : ℕ) (openings : List (List ℕ)) (ls : List Line)
    → room ≤ more → IsHonest d room openings ls → IsHonest d more openings ls

-- honest segments are one honest journal together, so that each law of honest journals holds of them
abbrev pub SegmentsAreOneJournal : Type 0
SegmentsAreOneJournal =
    (d : Declaration) (room : ℕ) (openings : List (List ℕ)) (earlier : List (List Line)) (ls : List Line)
    → AreHonest d room openings (earlier ++ ls ∷ []) → IsHonest d (room_behind (joined earlier) room) openings (joined earlier ++ ls)

-- the last of honest segments has room for its lines and for the finishes still to come
abbrev pub EachSegmentHasRoom : Type 0
EachSegmentHasRoom =
    (d : Declaration) (room : ℕ) (openings : List (List ℕ)) (earlier : List (List Line)) (ls : List Line)
    → AreHonest d room openings (earlier ++ ls ∷ []) → taken_behind (joined earlier) ls ≤ room

-- some reply is owed to each attempt behind honest segments
abbrev pub EachAttemptIsOwedAReplyBehind : Type 0
EachAttemptIsOwedAReplyBehind =
    (d : Declaration) (room : ℕ) (openings : List (List ℕ)) → Every WellFormed (paths_of d)
    → (earlier : List (List Line)) (ls : List Line) → AreHonest d room openings (earlier ++ ls ∷ [])
    → (w : ℕ) (attempt : Attempt) → (r : Reply) × OwedBehind d room openings (joined earlier) ls w attempt r

-- no two different replies are owed to one attempt, except when one says that a device failed
abbrev pub OneReplyIsOwedBehind : Type 0
OneReplyIsOwedBehind =
    (d : Declaration) (room : ℕ) (openings : List (List ℕ)) (earlier ls : List Line) (w : ℕ) (attempt : Attempt) (r s : Reply)
    → OwedBehind d room openings earlier ls w attempt r → OwedBehind d room openings earlier ls w attempt s → AreSame r s
