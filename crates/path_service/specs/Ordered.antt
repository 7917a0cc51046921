-- Who comes next at a service: what an order tells of its gate, which is at the history of all its lines.
use Rattle.std.specs.Prelude.{ℕ, List, [], length, take, Option}
use Rattle.path_model.specs.declared.history.Event.{Event}
use Rattle.path_model.specs.Trees.{Tree}
use Rattle.path_model.specs.Declarations.{paths_of}
use Rattle.path_model.specs.Journals.{admitted_history}
use Rattle.path_system.specs.Accounts.{Account, all_lines}
use Rattle.path_order.specs.declared.waiting.Waiter.{Waiter}
use Rattle.path_order.specs.declared.ruling.Ruling.{Ruling}
use Rattle.path_order.specs.Waiting.{ops_of, place_for}
use Rattle.path_order.specs.Rulings.{IsRuled, IsNext, IsFirstAdmissible}
use Rattle.path_order.specs.Bounds.{KeepsTheDoor, LetsInUnopposed}

-- those of them who come before the one who asks
abbrev pub ahead_of : Waiter → List Waiter → List Waiter
ahead_of asking waiting = take (place_for asking.priority waiting) waiting

module _ (a : Account) where
  -- the paths, how many there are, and the history so far
  abbrev paths : List (ℕ × Tree)
  paths = paths_of a.declaration

  abbrev count : ℕ
  count = length a.declaration.paths

  abbrev history : List Event
  history = admitted_history (all_lines a)

  module _ (waiting : List Waiter) where
    -- what becomes of a start that one asks for behind those who come before it, while these operations run
    abbrev pub IsRuledIn : List ℕ → Waiter → Ruling → Type 0
    IsRuledIn running asking ruling = IsRuled paths count history (ops_of running) (ahead_of asking waiting) asking ruling

    -- a start that goes is excluded by none of them
    abbrev pub KeepsTheDoorIn : List ℕ → Waiter → Ruling → Type 0
    KeepsTheDoorIn running asking ruling = KeepsTheDoor paths history (ops_of running) (ahead_of asking waiting) asking ruling

    -- who is next: the first who is neither refused nor withheld
    abbrev pub IsNextIn : List ℕ → Option ℕ → Type 0
    IsNextIn running found = IsNext paths count history (ops_of running) waiting found

    -- who is next is excluded by none before it
    abbrev pub IsUnopposedIn : List ℕ → Option ℕ → Type 0
    IsUnopposedIn running found = LetsInUnopposed paths history (ops_of running) waiting found

    -- the first of those who wait whose start no path forbids
    abbrev pub IsFirstIn : Option ℕ → Type 0
    IsFirstIn found = IsFirstAdmissible paths count history [] waiting found
