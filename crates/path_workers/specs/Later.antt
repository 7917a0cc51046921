-- What stays of a system while threads share it.
use Rattle.std.specs.Prelude.{◌≡◌, List, ◌++◌}
use Rattle.path_model.specs.declared.journal.Line.{Line}
use Rattle.path_system.specs.Accounts.{Account}

-- it is the same system with more lines, or with none: they follow those that it had
pub record IsLater (old new : Account) : Type 0 where
  pub declaration : new.declaration ≡ old.declaration
  pub room : new.room ≡ old.room
  pub openings : new.openings ≡ old.openings
  pub earlier : new.earlier ≡ old.earlier
  pub more : List Line
  pub journal : new.journal ≡ old.journal ++ more
