-- What contracts see of a system over devices.
use Rattle.std.specs.Prelude.{◌≡◌, ◌≤◌, ℕ, List, [], ◌∷◌, ◌++◌, map, slice_index, slice_set, Option, Some, None}
use Rattle.path_model.specs.declared.journal.Line.{Line}
use Rattle.path_model.specs.Declarations.{Declaration}
use Rattle.path_model.specs.Rooms.{IsRoom}
use Rattle.path_model.specs.Segments.{joined, taken_behind, AreHonest}
use Rattle.path_decl.specs.Lawful.{Lawful}
use Rattle.path_shelf.specs.States.{State, IsCounted}
use Rattle.path_state.specs.States as path

-- the declaration, the room, the state at which it was opened behind other lines, if it was, what each device contained when it was taken,
-- the lines that each rotation gave away, the journal since then, and how often each device has failed
pub record Account : Type 0 where
  pub declaration : Declaration
  pub room : ℕ
  pub opened : Option path.State
  pub openings : List (List ℕ)
  pub earlier : List (List Line)
  pub journal : List Line
  pub failures : List ℕ

abbrev pub contents_of : List State → List (List ℕ)
contents_of states = map (λ s. s.contents) states

abbrev pub failures_of : List State → List ℕ
failures_of states = map (λ s. s.failures) states

-- the account of a system that was opened over devices in these states, before any attempt
abbrev pub account_of : Declaration → ℕ → List State → Account
account_of d room states =
    record {
      declaration = d;
      room = room;
      opened = None;
      openings = contents_of states;
      earlier = [];
      journal = [];
      failures = failures_of states;
    }

-- the account after the device of the resource is replaced by one in this state
abbrev pub with_device : Account → ℕ → State → Account
with_device account r state =
    record account { openings = slice_set account.openings r state.contents; failures = slice_set account.failures r state.failures }

-- no count of failures changes, except perhaps that of the resource, if there is one
abbrev pub StayBut : Option ℕ → List ℕ → List ℕ → Type 0
StayBut None before after = after ≡ before
StayBut (Some r) before after = after ≡ slice_set before r (slice_index after r)

-- there is a resource, and its device's failure was counted or the count is at its maximum
abbrev pub HasFailed : Option ℕ → List ℕ → List ℕ → Type 0
HasFailed None before after = ⊥
HasFailed (Some r) before after = IsCounted (slice_index before r) (slice_index after r)

-- all lines, the earlier ones first
abbrev pub all_lines : Account → List Line
all_lines account = joined account.earlier ++ account.journal

-- the account after a rotation: the lines so far are earlier ones
abbrev pub rotated : Account → Account
rotated account = record account { earlier = account.earlier ++ account.journal ∷ []; journal = [] }

-- what always holds of a system, before whose lines there are none
pub record IsSystem (account : Account) : Type 0 where
  pub first : account.opened ≡ None
  pub lawful : Lawful account.declaration
  pub good_room : IsRoom account.room
  pub honest : AreHonest account.declaration account.room account.openings (account.earlier ++ account.journal ∷ [])
  pub room : taken_behind (joined account.earlier) account.journal ≤ account.room
