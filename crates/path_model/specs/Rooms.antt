-- How many lines a journal can have room for.
use Rattle.std.specs.Prelude.{◌≡◌, ◌⊎◌, ◌<◌, ◌≤◌, ℕ}

-- 1 to 1,048,576 lines
abbrev pub IsRoom : ℕ → Type 0
IsRoom room = (1 ≤ room) × (room ≤ 1048576)

-- no line, or more than that
abbrev pub IsBadRoom : ℕ → Type 0
IsBadRoom room = (room ≡ 0) ⊎ (1048576 < room)
