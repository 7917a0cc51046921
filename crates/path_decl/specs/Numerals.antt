-- The numbers that digits denote.
use Rattle.std.specs.Prelude.{◌≡◌, ℕ, ◌<◌, ◌≤◌, List}
use Rattle.std.specs.Fmt.{decimal}

-- the digits are the decimal text of the number, so only 0 begins with the digit 0
abbrev pub Denotes : List ℕ → ℕ → Type 0
Denotes ds n = ds ≡ decimal n

-- the digits denote a number from 1 to `most`
pub record IsUpTo (most : ℕ) (ds : List ℕ) : Type 0 where
  pub number : ℕ
  pub denoted : Denotes ds number
  pub positive : 0 < number
  pub within : number ≤ most
