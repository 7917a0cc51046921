-- What contracts see of a ledger, and the index of an activation in it.
use Rattle.std.specs.Prelude.{◌≡◌, ◌==◌, ◌+◌, ◌<◌, ◌≤◌, if◌then◌else◌, ℕ, [], ◌∷◌, ◌++◌, length, slice_index_or, slice_get, take}
use Rattle.std.specs.Prelude.{List, Option, Some, None, Result, Ok, Err}
use Rattle.std.specs.List.{remove}
use Rattle.path_model.specs.declared.ids.ActId.{ActId}
use Rattle.path_model.specs.declared.journal.Activation.{Activation}
use Rattle.path_model.specs.Journals.{AreNumbered, activation_of, without}
use Rattle.path_ledger.specs.declared.ledger.EndFault.{EndFault}
use Rattle.path_ledger.specs.declared.ledger.EndFault.TheVariants.{Stale, NotYours}
use Rattle.path_ledger.specs.declared.ledger.HoldFault.{HoldFault}
use Rattle.path_ledger.specs.declared.ledger.HoldFault.TheVariants.{TooMany, NotAscending, NotGiven, OutOfMemory}

-- the live activations in the order of their starts, the number of the first that the ledger began, how many it began, and how many may
-- be live at once
pub record Book : Type 0 where
  pub live : List Activation
  pub first : ℕ
  pub begun : ℕ
  pub room : ℕ

-- what always holds of a ledger: its numbers ascend and are below the next one, which has 64 bits, and there is a place for all its room
pub record IsKept (live : List Activation) (first begun room places : ℕ) : Type 0 where
  pub numbered : AreNumbered live (first + begun)
  pub small : first + begun < 18446744073709551616
  pub within : length live ≤ room
  pub reserved : room ≡ places

-- the activation at this place is the first that is out of order
pub record IsFirstOut (live : List Activation) (next i : ℕ) (is_out : Activation → Type 0) : Type 0 where
  pub before : AreNumbered (take i live) next
  pub activation : Activation
  pub at : slice_get live i ≡ Some activation
  pub out : is_out activation

-- which activation is the first whose number isn't above that of the one before it, or isn't below the next number
abbrev pub IsMisplaced : List Activation → ℕ → HoldFault → Type 0
IsMisplaced live next TooMany = ⊥
IsMisplaced live next (NotAscending i) = IsFirstOut live next i (λ a. AreNumbered (take i live) a.act.0 → ⊥)
IsMisplaced live next (NotGiven i) = IsFirstOut live next i (λ a. next ≤ a.act.0)
IsMisplaced live next OutOfMemory = ⊥

-- why a ledger of this room can't begin with these activations: the first reason that applies
abbrev pub IsHoldFault : List Activation → ℕ → ℕ → HoldFault → Type 0
IsHoldFault live next room TooMany = room < length live
IsHoldFault live next room OutOfMemory = (length live ≤ room) × AreNumbered live next
IsHoldFault live next room fault = (length live ≤ room) × IsMisplaced live next fault

-- one more was begun
abbrev pub one_begun : Book → Activation → Book
one_begun b a = record b { live = b.live ++ a ∷ []; begun = b.begun + 1 }

-- no activation has the number
pub record IsNowhere (n : ActId) (live : List Activation) : Type 0 where
  pub missing : activation_of n live ≡ None
  pub others : without n live ≡ live

-- the activation of the number is at this index
pub record IsPlaceOf (n : ActId) (live : List Activation) (i : ℕ) : Type 0 where
  pub within : i < length live
  pub found : (d : Activation) → activation_of n live ≡ Some (slice_index_or live i d)
  pub others : without n live ≡ remove live i

-- the activation that a worker may end if it is live and the worker's own; else why not
abbrev pub own_of : ℕ → Option Activation → Result Activation EndFault
own_of w None = Err Stale
own_of w (Some a) = if a.worker == w then Ok a else Err NotYours
