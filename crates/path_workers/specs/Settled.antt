-- When a desk is settled: each line since it was opened is equal to exactly one receipt, and no receipt is left over.
use Rattle.std.specs.Prelude.{◌≡◌, ◌≢◌, ℕ, ◌-◌, ◌<◌, ◌≤◌, List, length, Bool, true}
use Rattle.std.specs.Prelude.{false, ◌&&◌, ◌==◌, if◌then◌else◌, slice_index_or}
use Rattle.std.specs.List.{sum_by, count_by}
use Rattle.path_model.specs.declared.journal.Attempt.{Attempt}
use Rattle.path_model.specs.declared.journal.Attempt.TheVariants.{Start, Apply, Finish}
use Rattle.path_model.specs.declared.journal.Verb.{Verb}
use Rattle.path_model.specs.declared.journal.Verb.TheVariants.{Put, Take, Look, Add}
use Rattle.path_model.specs.declared.journal.Reply.{Reply}
use Rattle.path_model.specs.declared.journal.Reply.TheVariants.{Started, Blocked, UnknownOperation, Used, NotOffered, Empty, Full, Overflow}
use Rattle.path_model.specs.declared.journal.Reply.TheVariants.{DeviceFailed, Finished, Stale, NotYours, NoRoom}
use Rattle.path_model.specs.declared.journal.Line.{Line}
use Rattle.path_workers.specs.declared.answer.Receipt.{Receipt}
use Rattle.path_workers.specs.Attempts.{Held}

abbrev pub same_verb : Verb → Verb → Bool
same_verb (Put x) (Put y) = x == y
same_verb Take Take = true
same_verb Look Look = true
same_verb (Add x) (Add y) = x == y
same_verb v w = false

abbrev pub same_attempt : Attempt → Attempt → Bool
same_attempt (Start a) (Start b) = a.0 == b.0
same_attempt (Apply m v) (Apply n w) = (m.0 == n.0) && same_verb v w
same_attempt (Finish m) (Finish n) = m.0 == n.0
same_attempt a b = false

abbrev pub same_reply : Reply → Reply → Bool
same_reply (Started m) (Started n) = m.0 == n.0
same_reply (Blocked p) (Blocked q) = p.0 == q.0
same_reply UnknownOperation UnknownOperation = true
same_reply (Used x) (Used y) = x == y
same_reply NotOffered NotOffered = true
same_reply Empty Empty = true
same_reply Full Full = true
same_reply Overflow Overflow = true
same_reply DeviceFailed DeviceFailed = true
same_reply Finished Finished = true
same_reply Stale Stale = true
same_reply NotYours NotYours = true
same_reply NoRoom NoRoom = true
same_reply r s = false

-- the receipt has this place, and the line's attempt and reply
abbrev pub is_copy : ℕ → Line → Receipt → Bool
is_copy place l r = (r.place == place) && (same_attempt l.attempt r.attempt && same_reply l.reply r.reply)

-- how many receipts of the pass equal this line at this place, worker included
abbrev pub copies_in : ℕ → Line → Held → ℕ
copies_in place l h = if h.worker == l.worker then count_by (λ r. is_copy place l r) h.receipts else 0

-- how many receipts of all passes equal this line at this place
abbrev pub copies : ℕ → Line → List Held → ℕ
copies place l hs = sum_by (λ h. copies_in place l h) hs

-- how many receipts there are
abbrev pub receipts_of : List Held → ℕ
receipts_of hs = sum_by (λ h. length h.receipts) hs

-- each line from number b on is equal to exactly one receipt
abbrev pub AllCopied : ℕ → List Line → List Held → Type 0
AllCopied b lines hs = (k : ℕ) (d : Line) → b ≤ k → k < length lines → copies k (slice_index_or lines k d) hs ≡ 1

-- each line from number b on is equal to exactly one receipt, and there are as many receipts as those lines
abbrev pub IsSettled : ℕ → List Line → List Held → Type 0
IsSettled b lines hs = (receipts_of hs ≡ length lines - b) × AllCopied b lines hs

-- the first place whose line isn't equal to exactly one receipt
abbrev pub IsFirstMismatch : ℕ → List Line → List Held → ℕ → Type 0
IsFirstMismatch b lines hs p =
    (b ≤ p) × (p < length lines) × ((d : Line) → copies p (slice_index_or lines p d) hs ≢ 1)
    × ((k : ℕ) (d : Line) → b ≤ k → k < p → copies k (slice_index_or lines k d) hs ≡ 1)
