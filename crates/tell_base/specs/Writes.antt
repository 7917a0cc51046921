-- What was written, if the writer's bytes are known.
use Rattle.std.specs.Prelude.{◌≡◌, ℕ, List, [], ◌++◌, Option, ◌⊎◌}
use Rattle.std.specs.Io.KnownBytes.{Appends}

-- the written bytes grow by some bytes of which P holds
abbrev pub AppendsSome : Option (List ℕ) → Option (List ℕ) → (List ℕ → Type 0) → Type 0
AppendsSome old new P = (bytes : List ℕ) × P bytes × Appends old new bytes

-- the bytes are a front, perhaps empty, of bytes of which P holds, or nothing
abbrev pub IsFrontOf : (List ℕ → Type 0) → List ℕ → Type 0
IsFrontOf P front = (front ≡ []) ⊎ ((rest : List ℕ) × P (front ++ rest))
