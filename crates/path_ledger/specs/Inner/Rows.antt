-- What contracts see of a row of activations, and what it keeps besides.
use Rattle.std.specs.Prelude.{◌+◌, ◌≤◌, ℕ, List, length}
use Rattle.path_model.specs.declared.journal.Activation.{Activation}

-- the activations in order, and how many there may be
pub record RowValue : Type 0 where
  pub items : List Activation
  pub room : ℕ

-- what always holds of a row: behind the gap there are at most as many as it has room for, and two places for each of these
pub record IsRow (places : List Activation) (gap room capacity : ℕ) : Type 0 where
  pub behind : gap ≤ length places
  pub within : length places ≤ gap + room
  pub reserved : room + room ≤ capacity
