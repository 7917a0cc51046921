-- What a service keeps.
use Rattle.std.specs.Prelude.{◌≡◌, ◌≤◌, [], Option, Some, None, vec_capacity}
use Rattle.path_model.specs.Declarations.{Declaration}
use Rattle.path_order.specs.declared.order.Order.{Order}
use Rattle.path_order.specs.Beside.{AreOf}
use Rattle.path_system.specs.Accounts.{Account, IsSystem}
use Rattle.path_service.specs.declared.lines.Lines.{Lines}

-- the lines since the last rotation are in a list, which has capacity for the room, as the list for the next rotation has
pub record AreKept (account : Account) (lines : Lines) : Type 0 where
  pub present : lines.present.items ≡ account.journal
  pub roomy : account.room ≤ vec_capacity lines.present
  pub spare : account.room ≤ vec_capacity lines.spare

-- the lines are kept; or none are, and each was given up
abbrev pub IsLogged : Account → Option Lines → Type 0
IsLogged account (Some lines) = AreKept account lines
IsLogged account None = account.journal ≡ []

-- an order of the declaration, if there is one
abbrev pub IsOrdered : {Y : Type 0} → Declaration → Option (Order Y) → Type 0
IsOrdered d (Some order) = AreOf d order.spares
IsOrdered d None = Unit {0}

-- a controller in order, with its lines, and what tells who comes next
pub record IsReady {Y : Type 0} (account : Account) (lines : Option Lines) (order : Option (Order Y)) : Type 0 where
  pub system : IsSystem account
  pub logged : IsLogged account lines
  pub ordered : IsOrdered account.declaration order
