-- What always holds under the lock, and of a pass.
use Rattle.std.specs.Prelude.{◌≡◌, ℕ, ◌+◌, ◌<◌, ◌≤◌, List, [], ◌∷◌, length, slice_index_or, Bool}
use Rattle.std.specs.Prelude.{true, false, if◌then◌else◌, Option, Some, None}
use Rattle.path_model.specs.declared.ids.ActId.{ActId}
use Rattle.path_model.specs.declared.journal.Attempt.{Attempt}
use Rattle.path_model.specs.declared.journal.Attempt.TheVariants.{Start}
use Rattle.path_model.specs.declared.journal.Reply.{Reply}
use Rattle.path_model.specs.declared.journal.Reply.TheVariants.{Started}
use Rattle.path_model.specs.declared.journal.Line.{Line}
use Rattle.path_system.specs.Accounts.{Account}
use Rattle.path_workers.specs.declared.answer.Receipt.{Receipt}
use Rattle.path_workers.specs.Attempts.{Held, starts, finishes, has_finish}
use Rattle.path_workers.specs.Later.{IsLater}
use Rattle.path_workers.specs.Settled.{copies}

-- the number of something, 0 if it isn't there yet
abbrev pub amount_or_none : {A : Type 0} → (A → ℕ) → Option A → ℕ
amount_or_none f None = 0
amount_or_none f (Some x) = f x

-- the count is that of the lines after the first b, it is the book's total, and the parts that are left fit it
pub record IsCounted (b : ℕ) (journal : List Line) (count total parts amount : ℕ) : Type 0 where
  pub lines : length journal ≡ b + count
  pub booked : total ≡ count
  pub parted : parts + count ≡ 18446744073709551615
  pub unclaimed : amount ≡ 0

-- what lies under the lock of a desk that was opened so
pub record IsSharedBy (opened account : Account) (count total parts amount : ℕ) : Type 0 where
  pub later : IsLater opened account
  pub counted : IsCounted (length opened.journal) account.journal count total parts amount

-- how many starts have no later finish
abbrev pub opens : Reply → List Receipt → ℕ
opens (Started n) rs = if has_finish n rs then 0 else 1
opens reply rs = 0

abbrev pub open_count : List Receipt → ℕ
open_count [] = 0
open_count (r ∷ rs) = opens r.reply rs + open_count rs

-- how many receipts an attempt needs memory for: its own, and for a start also that of its finish
abbrev pub places_for : Attempt → ℕ
places_for (Start op) = 2
places_for attempt = 1

-- whether an activation is open after one more receipt
abbrev pub open_then : ActId → Bool → Receipt → Bool
open_then act b r = if starts act r.reply then true else if finishes act r.attempt then false else b

-- the places rise, from low on and below the end
abbrev pub Rise : ℕ → List Receipt → ℕ → Type 0
Rise low [] end = low ≤ end
Rise low (r ∷ rs) end = (low ≤ r.place) × Rise (r.place + 1) rs end

-- of a pass: the number of its own lines, its receipts with their capacity, how many starts they have, whether their places rise, and up
-- to which end
pub record IsKept (own_lines : ℕ) (receipts : List Receipt) (capacity starts : ℕ) (rises : Bool) (end : ℕ) : Type 0 where
  pub own_lines_are : own_lines ≡ length receipts
  pub reserved : length receipts + open_count receipts ≤ capacity
  pub owed : open_count receipts ≤ starts
  pub counted : starts ≤ length receipts
  pub rising : rises ≡ true → Rise 0 receipts end

-- each line from number b on has at least one receipt
abbrev pub EachHasCopy : ℕ → List Line → List Held → Type 0
EachHasCopy b lines hs = (k : ℕ) (d : Line) → b ≤ k → k < length lines → 1 ≤ copies k (slice_index_or lines k d) hs
