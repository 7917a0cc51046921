-- Whether the receipts of a process agree with the lines of the journal.
use Rattle.std.specs.Prelude.{◌≡◌, ◌≢◌, ◌⊎◌, ◌<◌, ◌≤◌, ◌+◌, ◌-◌, ℕ, List, length, slice_index_or}
use Rattle.std.specs.Prelude.{Bool, true, false, Some}
use Rattle.path_model.specs.declared.ids.PathId.{PathId}
use Rattle.path_model.specs.declared.journal.Reply.{Reply}
use Rattle.path_model.specs.declared.journal.Reply.TheVariants.{Blocked, Finished}
use Rattle.path_model.specs.declared.journal.Line.{Line}
use Rattle.path_model.specs.Declarations.{Declaration}
use Rattle.path_model.specs.Journals.{admitted_history}
use Rattle.path_model.specs.Owed.{by_words}
use Rattle.path_workers.specs.declared.answer.Receipt.{Receipt}
use Rattle.path_workers.specs.Attempts.{Held}
use Rattle.path_run.specs.declared.outcome.End.{End}
use Rattle.path_run.specs.declared.outcome.End.TheVariants as ends

-- a line from low on and below high is that of an admitted finish
abbrev pub HasFinish : List Line → ℕ → ℕ → Type 0
HasFinish lines low high =
    (k : ℕ) × (low ≤ k) × (k < high) × (k < length lines) × ((d : Line) → (slice_index_or lines k d).reply ≡ Finished)

-- none of these lines is
abbrev pub HasNoFinish : List Line → ℕ → ℕ → Type 0
HasNoFinish lines low high =
    (k : ℕ) (d : Line) → low ≤ k → k < high → k < length lines → (slice_index_or lines k d).reply ≢ Finished

abbrev pub is_blocked : Reply → Bool
is_blocked (Blocked path) = true
is_blocked reply = false

-- a receipt may come next: its place is higher, and if both are blocked, there is an admitted finish between them
abbrev pub MayFollow : List Line → Receipt → Receipt → Type 0
MayFollow lines r next =
    (r.place < next.place)
    × (is_blocked r.reply ≡ true → is_blocked next.reply ≡ true → HasFinish lines (r.place + 1) next.place)

-- each of the first n receipts may be followed by the next one
abbrev pub AreInOrderTo : ℕ → List Line → List Receipt → Type 0
AreInOrderTo n lines rs =
    (i : ℕ) (d : Receipt) → i < n → i + 1 < length rs → MayFollow lines (slice_index_or rs i d) (slice_index_or rs (i + 1) d)

abbrev pub AreInOrder : List Line → List Receipt → Type 0
AreInOrder lines rs = AreInOrderTo (length rs) lines rs

-- no finish was admitted after the last receipt of a process that stalled
abbrev pub IsCurrent : List Line → List Receipt → End → Type 0
IsCurrent lines rs (ends.Stalled op) =
    (d : Receipt) → 0 < length rs → HasNoFinish lines (slice_index_or rs (length rs - 1) d).place (length lines)
IsCurrent lines rs end = Unit {0}

-- for each process: the places of its receipts rise, a finish was admitted between two blocked ones in a row, and none after the last
-- if it stalled
abbrev pub EachIsOrderly : List Line → List Held → List End → Type 0
EachIsOrderly lines hs es =
    (i : ℕ) (h : Held) (e : End) → i < length hs
    → AreInOrder lines (slice_index_or hs i h).receipts × IsCurrent lines (slice_index_or hs i h).receipts (slice_index_or es i e)

-- this is the place of the first receipt that may not come next
abbrev pub IsOutOfOrder : List Line → List Receipt → ℕ → Type 0
IsOutOfOrder lines rs place =
    (i : ℕ) × (i + 1 < length rs) × AreInOrderTo i lines rs
    × ((d : Receipt) → (MayFollow lines (slice_index_or rs i d) (slice_index_or rs (i + 1) d) → ⊥)
    × (place ≡ (slice_index_or rs (i + 1) d).place))

-- the process stalled, this is the place of its last receipt, and a finish was admitted after it
abbrev pub IsStale : List Line → List Receipt → End → ℕ → Type 0
IsStale lines rs (ends.Stalled op) place =
    ((d : Receipt) → place ≡ (slice_index_or rs (length rs - 1) d).place) × HasFinish lines place (length lines)
IsStale lines rs end place = ⊥

abbrev pub IsDisorder : List Line → List Receipt → End → ℕ → Type 0
IsDisorder lines rs end place = IsOutOfOrder lines rs place ⊎ (AreInOrder lines rs × IsStale lines rs end place)

-- the first place at which the receipts don't agree with the journal, of the first process that has one
abbrev pub IsFirstDisorder : List Line → List Held → List End → ℕ → Type 0
IsFirstDisorder lines hs es place =
    (n : ℕ) × (n < length hs)
    × ((i : ℕ) (h : Held) (e : End) → i < n
    → AreInOrder lines (slice_index_or hs i h).receipts × IsCurrent lines (slice_index_or hs i h).receipts (slice_index_or es i e))
    × ((h : Held) (e : End) → IsDisorder lines (slice_index_or hs n h).receipts (slice_index_or es n e) place)

-- the operation at which a process stalled is blocked after these lines, by the words of the paths
abbrev pub IsBlockedNow : Declaration → List Line → End → Type 0
IsBlockedNow d lines (ends.Stalled op) = (path : PathId) × by_words d (admitted_history lines) op (Some path)
IsBlockedNow d lines end = Unit {0}

abbrev pub EachIsBlockedNow : Declaration → List Line → List End → Type 0
EachIsBlockedNow d lines es = (i : ℕ) (e : End) → i < length es → IsBlockedNow d lines (slice_index_or es i e)
