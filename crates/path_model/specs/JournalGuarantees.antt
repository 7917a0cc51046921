-- What paths guarantee of journals, in words of live activations.
use Rattle.std.specs.Prelude.{◌≡◌, ◌<◌, ◌≤◌, ◌+◌, ◌++◌, ◌∷◌, [], ◌↔◌}
use Rattle.std.specs.Prelude.{◌⊎◌, ℕ, zero, suc, List, length}
use Rattle.path_model.specs.declared.ids.OpId.{OpId}
use Rattle.path_model.specs.declared.ids.ActId.{ActId}
use Rattle.path_model.specs.declared.ids.PathId.{PathId}
use Rattle.path_model.specs.declared.history.Event.{Event}
use Rattle.path_model.specs.declared.journal.Attempt.{Attempt}
use Rattle.path_model.specs.declared.journal.Attempt.TheVariants.{Start, Finish}
use Rattle.path_model.specs.declared.journal.Reply.{Reply}
use Rattle.path_model.specs.declared.journal.Reply.TheVariants.{Started, Blocked, Finished}
use Rattle.path_model.specs.declared.journal.Line.{Line}
use Rattle.path_model.specs.declared.journal.Activation.{Activation}
use Rattle.path_model.specs.Trees.{most, Tree, op, seq, alt, burst, Names, NoBraces, WellFormed}
use Rattle.path_model.specs.Histories.{begun, ended, InProgress}
use Rattle.path_model.specs.Projection.{LegalOn}
use Rattle.path_model.specs.Legal.{numbered, Every, First, NoneOf}
use Rattle.path_model.specs.Executions.{begins_within, ends_within}
use Rattle.path_model.specs.Guarantees.{PartOf, OutsideBraces}
use Rattle.path_model.specs.Refusals.{StandsAgainst}
use Rattle.path_model.specs.Declarations.{Declaration, trees}
use Rattle.path_model.specs.Journals as journals
use Rattle.path_model.specs.Journals.{live, live_count, without, admitted_history, with_line}
use Rattle.path_model.specs.Owed.{taken, IsOwn, Owed}
use Rattle.path_model.specs.Honest.{IsHonest}
use Rattle.path_model.specs.Segments.{joined, taken_behind, OwedBehind, AreHonest}

-- how many activations are of operations of the tree
abbrev pub live_in : Tree → List Activation → ℕ
live_in (op a) activations = live_count a activations
live_in (seq s t) activations = live_in s activations + live_in t activations
live_in (alt s t) activations = live_in s activations + live_in t activations
live_in (burst bd s) activations = live_in s activations

-- how many activations are of the first n operations
abbrev pub live_among : ℕ → List Activation → ℕ
live_among zero activations = 0
live_among (suc n) activations = live_among n activations + live_count (record { 0 = n }) activations

-- lines follow a path: their admitted history is legal on it, and what has begun and not ended is live
pub record Follows (s : Tree) (ls : List Line) : Type 0 where
  pub formed : WellFormed s
  pub legal : LegalOn s (admitted_history ls)
  pub counts : (a : OpId) → begun a (admitted_history ls) ≡ ended a (admitted_history ls) + live_count a (live ls)

-- the path names the operation, and something stands against its start
abbrev pub Opposes : List Event → OpId → Tree → Type 0
Opposes h a s = Names s a × StandsAgainst s h a

-- an honest journal follows each path of its declaration
abbrev pub EachJournalFollowsItsPaths : Type 0
EachJournalFollowsItsPaths =
    (d : Declaration) (room : ℕ) (openings : List (List ℕ)) (ts : List Tree) → trees d ≡ ts → Every WellFormed (numbered 0 ts)
    → (ls : List Line) → IsHonest d room openings ls → Every (λ t. Follows t ls) (numbered 0 ts)

-- and so do honest segments together
abbrev pub SegmentsFollowTheirPaths : Type 0
SegmentsFollowTheirPaths =
    (d : Declaration) (room : ℕ) (openings : List (List ℕ)) (ts : List Tree) → trees d ≡ ts → Every WellFormed (numbered 0 ts)
    → (earlier : List (List Line)) (ls : List Line) → AreHonest d room openings (earlier ++ ls ∷ [])
    → Every (λ t. Follows t (joined earlier ++ ls)) (numbered 0 ts)

-- an operation is in progress exactly while an activation of it is live
abbrev pub LiveIsInProgress : Type 0
LiveIsInProgress =
    (s : Tree) (ls : List Line) → Follows s ls
    → (a : OpId) → InProgress a (admitted_history ls) ↔ (0 < live_count a (live ls))

-- the operations of a tree have begun as often as they have ended and are live
abbrev pub LiveCountsAddUp : Type 0
LiveCountsAddUp =
    (s : Tree) (ls : List Line) → Follows s ls
    → (t : Tree) → begins_within t (admitted_history ls) ≡ ends_within t (admitted_history ls) + live_in t (live ls)

-- of `{ T : n }` at most n activations are live
abbrev pub LiveBoundsHold : Type 0
LiveBoundsHold =
    (s : Tree) (ls : List Line) → Follows s ls
    → (n : ℕ) (t : Tree) → PartOf (burst (most n) t) s → live_in t (live ls) ≤ n

-- of what neither has braces nor stands in any at most one activation is live
abbrev pub OneIsLiveOutsideBraces : Type 0
OneIsLiveOutsideBraces =
    (s : Tree) (ls : List Line) → Follows s ls → (t : Tree) → OutsideBraces t s → NoBraces t → live_in t (live ls) ≤ 1

-- while a part that stands outside braces is live, nothing else of its path is
abbrev pub LivePartsOutsideBracesAreAlone : Type 0
LivePartsOutsideBracesAreAlone =
    (s : Tree) (ls : List Line) → Follows s ls → (t : Tree) → OutsideBraces t s → 0 < live_in t (live ls)
    → (b : OpId) → Names s b → 0 < live_count b (live ls) → Names t b

-- the path that blocks a start is the first in which something stands against it
abbrev pub EachBlockHasAReason : Type 0
EachBlockHasAReason =
    (d : Declaration) (room : ℕ) (openings : List (List ℕ)) (ts : List Tree) → trees d ≡ ts → Every WellFormed (numbered 0 ts)
    → (ls : List Line) → IsHonest d room openings ls
    → (w : ℕ) (a : OpId) (p : PathId) → Owed d room openings ls w (Start a) (Blocked p)
    → First (Opposes (admitted_history ls) a) (numbered 0 ts) p.0

-- and behind earlier segments, too
abbrev pub EachBlockHasAReasonBehind : Type 0
EachBlockHasAReasonBehind =
    (d : Declaration) (room : ℕ) (openings : List (List ℕ)) (ts : List Tree) → trees d ≡ ts → Every WellFormed (numbered 0 ts)
    → (earlier : List (List Line)) (ls : List Line) → AreHonest d room openings (earlier ++ ls ∷ [])
    → (w : ℕ) (a : OpId) (p : PathId) → OwedBehind d room openings (joined earlier) ls w (Start a) (Blocked p)
    → First (Opposes (admitted_history (joined earlier ++ ls)) a) (numbered 0 ts) p.0

-- a start of a declared operation, for which there is room and against which nothing stands in any path, is admitted
abbrev pub UnopposedStartsAreAdmitted : Type 0
UnopposedStartsAreAdmitted =
    (d : Declaration) (room : ℕ) (openings : List (List ℕ)) (ts : List Tree) → trees d ≡ ts → Every WellFormed (numbered 0 ts)
    → (ls : List Line) → IsHonest d room openings ls
    → (w : ℕ) (a : OpId) → a.0 < length d.operations → taken ls + 2 ≤ room
    → NoneOf (Opposes (admitted_history ls) a) (numbered 0 ts)
    → (r : Reply) → Owed d room openings ls w (Start a) r → (n : ActId) × (r ≡ Started n)

-- and behind earlier segments, too, if there is also a number for it
abbrev pub UnopposedStartsAreAdmittedBehind : Type 0
UnopposedStartsAreAdmittedBehind =
    (d : Declaration) (room : ℕ) (openings : List (List ℕ)) (ts : List Tree) → trees d ≡ ts → Every WellFormed (numbered 0 ts)
    → (earlier : List (List Line)) (ls : List Line) → AreHonest d room openings (earlier ++ ls ∷ [])
    → (w : ℕ) (a : OpId) → a.0 < length d.operations → taken_behind (joined earlier) ls + 2 ≤ room
    → journals.begun_in (joined earlier ++ ls) < 4294967295
    → NoneOf (Opposes (admitted_history (joined earlier ++ ls)) a) (numbered 0 ts)
    → (r : Reply) → OwedBehind d room openings (joined earlier) ls w (Start a) r → (n : ActId) × (r ≡ Started n)

-- a start of a declared operation for which there is room is admitted or blocked
abbrev pub RoomyStartsAreJudged : Type 0
RoomyStartsAreJudged =
    (d : Declaration) (room : ℕ) (openings : List (List ℕ)) (ls : List Line) (w : ℕ) (a : OpId)
    → a.0 < length d.operations → taken ls + 2 ≤ room
    → (r : Reply) → Owed d room openings ls w (Start a) r → ((n : ActId) × (r ≡ Started n)) ⊎ ((p : PathId) × (r ≡ Blocked p))

-- and behind earlier lines, too, if there is also a number for it
abbrev pub RoomyStartsAreJudgedBehind : Type 0
RoomyStartsAreJudgedBehind =
    (d : Declaration) (room : ℕ) (openings : List (List ℕ)) (earlier ls : List Line) (w : ℕ) (a : OpId)
    → a.0 < length d.operations → taken_behind earlier ls + 2 ≤ room → journals.begun_in (earlier ++ ls) < 4294967295
    → (r : Reply) → OwedBehind d room openings earlier ls w (Start a) r
    → ((n : ActId) × (r ≡ Started n)) ⊎ ((p : PathId) × (r ≡ Blocked p))

-- the live activations after one more attempt of a worker with this reply
abbrev pub live_after : List Activation → ℕ → Attempt → Reply → List Activation
live_after activations w (Start a) (Started n) = activations ++ record { act = n; worker = w; op = a } ∷ []
live_after activations w (Finish n) Finished = without n activations
live_after activations w attempt reply = activations

-- only an admitted start and an admitted finish change what is live
abbrev pub EachReplyTellsWhatIsLive : Type 0
EachReplyTellsWhatIsLive =
    (d : Declaration) (room : ℕ) (openings : List (List ℕ)) (ls : List Line) → IsHonest d room openings ls
    → (w : ℕ) (attempt : Attempt) (r : Reply) → Owed d room openings ls w attempt r
    → live (with_line ls w attempt r) ≡ live_after (live ls) w attempt r

-- and behind earlier segments, too
abbrev pub EachReplyTellsWhatIsLiveBehind : Type 0
EachReplyTellsWhatIsLiveBehind =
    (d : Declaration) (room : ℕ) (openings : List (List ℕ)) (earlier : List (List Line)) (ls : List Line)
    → AreHonest d room openings (earlier ++ ls ∷ [])
    → (w : ℕ) (attempt : Attempt) (r : Reply) → OwedBehind d room openings (joined earlier) ls w attempt r
    → live (joined earlier ++ with_line ls w attempt r) ≡ live_after (live (joined earlier ++ ls)) w attempt r

-- What is live is of declared operations: together it is as much as of each of them. So it says how many places it takes.
abbrev pub LiveActivationsAreCounted : Type 0
LiveActivationsAreCounted =
    (d : Declaration) (room : ℕ) (openings : List (List ℕ)) (ls : List Line) → IsHonest d room openings ls
    → length (live ls) ≡ live_among (length d.operations) (live ls)

-- a finish is admitted exactly where it is that of the worker's own live activation, be there earlier segments or none
abbrev pub OwnActivationsFinish : Type 0
OwnActivationsFinish =
    (d : Declaration) (room : ℕ) (openings : List (List ℕ)) (earlier ls : List Line) (w : ℕ) (n : ActId) (r : Reply)
    → OwedBehind d room openings earlier ls w (Finish n) r
    → (r ≡ Finished) ↔ ((a : Activation) × IsOwn (earlier ++ ls) w n a)
