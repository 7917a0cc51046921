-- Where a text has a byte, where it has none, and what comes next in it.
use Rattle.std.specs.Prelude.{◌≡◌, ◌≢◌, ℕ, ◌≤◌, List, [], ◌∷◌}
use Rattle.std.specs.List.{AllByRecursion}

-- this byte is nowhere in the text
abbrev pub HasNone : ℕ → List ℕ → Type 0
HasNone byte text = AllByRecursion (λ b. b ≢ byte) text

-- nothing is left, or this byte comes next
abbrev pub EndsAt : ℕ → List ℕ → Type 0
EndsAt byte [] = Unit {0}
EndsAt byte (b ∷ bs) = b ≡ byte

-- 0 to 9 in ASCII
abbrev pub IsDigit : ℕ → Type 0
IsDigit b = (48 ≤ b) × (b ≤ 57)

-- nothing is left, or the next byte isn't a digit
abbrev pub HasNoDigitNext : List ℕ → Type 0
HasNoDigitNext [] = Unit {0}
HasNoDigitNext (b ∷ bs) = IsDigit b → ⊥
