-- What always holds of a controller, and which devices it gives back.
use Rattle.std.specs.Prelude.{◌≡◌, ◌≤◌, ◌<◌, ℕ, List, [], ◌∷◌, ◌++◌, length, slice_index_or}
use Rattle.path_model.specs.Rooms.{IsRoom}
use Rattle.path_model.specs.Contents.{contents_after}
use Rattle.path_model.specs.Segments.{taken_behind, AreHonestFrom}
use Rattle.path_decl.specs.Lawful.{Lawful}
use Rattle.path_shelf.specs.States.{State, laws_of}
use Rattle.path_shelf.specs.Shelves.{declared_laws}
use Rattle.path_system.specs.Accounts.{Account, contents_of}
use Rattle.path_system.specs.Before.{BehindEach, earlier_behind, lines_behind}

-- what always holds of a controller: behind all lines that may have come before its lines are honest, and there is room for the finishes
-- still to come
pub record IsControlled (account : Account) : Type 0 where
  pub lawful : Lawful account.declaration
  pub good_room : IsRoom account.room
  pub within : length account.journal ≤ account.room
  pub honest :
      BehindEach account (λ openings before.
      AreHonestFrom account.declaration account.room openings before (account.earlier ++ account.journal ∷ []))
  pub room : BehindEach account (λ openings before. taken_behind (earlier_behind before account) account.journal ≤ account.room)

-- these are the devices of a controller: they have the laws that are declared, and contain what all lines left
pub record AreDevicesBehind (account : Account) (states : List State) : Type 0 where
  pub laws : laws_of states ≡ declared_laws account.declaration
  pub held :
      BehindEach account (λ openings before. (r : ℕ) → r < length account.declaration.resources
      → slice_index_or (contents_of states) r [] ≡ contents_after account.declaration openings (lines_behind before account) r)
