-- What an attempt at a desk leaves in a pass, and which finishes a pass still owes.
use Rattle.std.specs.Prelude.{ℕ, ◌==◌, List, [], ◌∷◌, ◌++◌, Bool, true, false, if◌then◌else◌, Option, Some, None}
use Rattle.path_model.specs.declared.ids.ActId.{ActId}
use Rattle.path_model.specs.declared.journal.Attempt.{Attempt}
use Rattle.path_model.specs.declared.journal.Attempt.TheVariants.{Start, Apply, Finish}
use Rattle.path_model.specs.declared.journal.Reply.{Reply}
use Rattle.path_model.specs.declared.journal.Reply.TheVariants.{Started, Blocked, UnknownOperation, Finished, Stale, NotYours, NoRoom}
use Rattle.path_model.specs.Asked.{is_device_reply}
use Rattle.path_workers.specs.declared.answer.Receipt.{Receipt}

-- what contracts see of a pass: whose it is, and its receipts in the order of the attempts
pub record Held : Type 0 where
  pub worker : ℕ
  pub receipts : List Receipt

-- one receipt more if the attempt has a place in the journal, else none
abbrev pub receipts_then : List Receipt → Attempt → Option ℕ → Reply → List Receipt
receipts_then rs attempt None reply = rs
receipts_then rs attempt (Some place) reply = rs ++ record { place = place; attempt = attempt; reply = reply } ∷ []

-- how many lines a reply writes: none for NoRoom, else one
abbrev pub lines_of : Reply → ℕ
lines_of NoRoom = 0
lines_of reply = 1

-- the place of the line that a reply writes after n others
abbrev pub place_of : ℕ → Reply → Option ℕ
place_of n NoRoom = None
place_of n reply = Some n

-- the attempt may get this reply: a start is admitted, blocked or unknown; a use is answered by the device; a finish is admitted; the
-- activation of a use or a finish may be over or another's; and there may be no room
abbrev pub may_get : Attempt → Reply → Bool
may_get attempt NoRoom = true
may_get (Start op) (Started act) = true
may_get (Start op) (Blocked path) = true
may_get (Start op) UnknownOperation = true
may_get (Start op) reply = false
may_get (Apply act verb) Stale = true
may_get (Apply act verb) NotYours = true
may_get (Apply act verb) reply = is_device_reply reply
may_get (Finish act) Finished = true
may_get (Finish act) Stale = true
may_get (Finish act) NotYours = true
may_get (Finish act) reply = false

-- the reply starts the activation
abbrev pub starts : ActId → Reply → Bool
starts act (Started n) = act.0 == n.0
starts act reply = false

-- the attempt is a finish of the activation
abbrev pub finishes : ActId → Attempt → Bool
finishes act (Finish n) = act.0 == n.0
finishes act attempt = false

-- one of the receipts is of a finish of the activation
abbrev pub has_finish : ActId → List Receipt → Bool
has_finish act [] = false
has_finish act (r ∷ rs) = if finishes act r.attempt then true else has_finish act rs

-- there is a receipt of this activation's start, and no later one of its finish
abbrev pub is_open : ActId → List Receipt → Bool
is_open act [] = false
is_open act (r ∷ rs) = if starts act r.reply then (if has_finish act rs then is_open act rs else true) else is_open act rs

-- the attempt finishes what the receipts say was started and not finished
abbrev pub finishes_open : Attempt → List Receipt → Bool
finishes_open (Finish act) rs = is_open act rs
finishes_open attempt rs = false
