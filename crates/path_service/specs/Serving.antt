-- What contracts see of a service.
use Rattle.std.specs.Prelude.{Bool, true, false}
use Rattle.path_system.specs.Accounts.{Account, rotated}

-- what they see of a system, and whether its lines are kept
pub record Serving : Type 0 where
  pub account : Account
  pub keeps : Bool

-- what an account becomes behind a step: lines that aren't kept are given up at once, so that only what is live takes room
abbrev pub settled : Bool → Account → Account
settled true account = account
settled false account = rotated account
