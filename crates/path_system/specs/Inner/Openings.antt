-- The rows in which a system keeps what each device contained when it was taken.
use Rattle.std.specs.Prelude.{◌≡◌, ◌<◌, ◌≤◌, ℕ, List, [], length, map, slice_index_or}
use Rattle.path_model.specs.declared.resource.Law.{Law}
use Rattle.path_model.specs.declared.resource.Law.TheVariants.{Cell, Tally, Queue}
use Rattle.path_model.specs.Declarations.{Declaration, law_of}
use Rattle.path_shelf.specs.States.{State, state_at}

-- numbers, and the capacity for them
pub record Row : Type 0 where
  pub numbers : List ℕ
  pub places : ℕ

abbrev pub numbers_of : List Row → List (List ℕ)
numbers_of rows = map (λ row. row.numbers) rows

-- the row of a resource
abbrev pub row_at : List Row → ℕ → Row
row_at rows r = slice_index_or rows r (record { numbers = []; places = 0 })

-- the most numbers that a device of this law contains
abbrev pub places_of : Law → ℕ
places_of Cell = 1
places_of Tally = 1
places_of (Queue n) = n

-- there is a row for each resource, with capacity for its law
pub record AreFor (rows : List Row) (d : Declaration) : Type 0 where
  pub count : length rows ≡ length d.resources
  pub places : (r : ℕ) → r < length d.resources → places_of (law_of d r) ≤ (row_at rows r).places

-- each row has capacity for its device's law
abbrev pub HavePlaces : List Row → List State → Type 0
HavePlaces rows states = (r : ℕ) → r < length states → places_of (state_at states r).law ≤ (row_at rows r).places
