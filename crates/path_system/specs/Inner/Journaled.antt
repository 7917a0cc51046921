-- A controller and its lines.
use Rattle.std.specs.Prelude.{◌≡◌, ◌≤◌, ℕ, List}
use Rattle.path_model.specs.declared.journal.Line.{Line}
use Rattle.path_system.specs.Accounts.{Account, IsSystem}

-- what always holds of a system: its list has the lines of its controller, and a place for each line of the room
pub record IsJournaled (account : Account) (lines : List Line) (places : ℕ) : Type 0 where
  pub kept : lines ≡ account.journal
  pub reserved : account.room ≤ places
  pub system : IsSystem account
