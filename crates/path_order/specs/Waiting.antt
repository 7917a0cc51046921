-- Who waits, in order, and what runs.
use Rattle.std.specs.Prelude.{◌+◌, ◌<◌, nat_lt, if◌then◌else◌, ℕ, List, [], ◌∷◌, length, map, slice_index_or}
use Rattle.path_model.specs.declared.ids.OpId.{OpId}
use Rattle.path_order.specs.declared.waiting.Waiter.{Waiter}

-- the operation of a number
abbrev pub op_of : ℕ → OpId
op_of n = record { 0 = n }

-- the operations of these numbers
abbrev pub ops_of : List ℕ → List OpId
ops_of ns = map op_of ns

-- the operation that one asks for
abbrev pub asked : Waiter → OpId
asked w = op_of w.operation

-- one whom nobody waits for
abbrev pub nobody : Waiter
nobody = record { operation = 0; priority = 0; arrived = 0; shut_at = 0 }

abbrev pub waiter_at : List Waiter → ℕ → Waiter
waiter_at ws i = slice_index_or ws i nobody

-- how many of those who wait come before one of this priority who comes now
abbrev pub place_for : ℕ → List Waiter → ℕ
place_for p [] = 0
place_for p (v ∷ vs) = if nat_lt v.priority p then 0 else (place_for p vs + 1)

-- none of those ahead has shut its door before one arrived
abbrev pub NobodyShutsOut : List Waiter → ℕ → Type 0
NobodyShutsOut ahead arrived = (j : ℕ) → j < length ahead → (waiter_at ahead j).shut_at < arrived → ⊥
