-- What each error of cutting means for the text.
use Rattle.std.specs.Prelude.{ℕ, ◌<◌, ◌≤◌, List, length}
use Rattle.path_lex.specs.declared.fault.DeclFault.{DeclFault}
use Rattle.path_lex.specs.declared.fault.DeclFault.TheVariants as faults
use Rattle.path_lex.specs.Bytes.{IsFirstBad}
use Rattle.path_lex.specs.Spelling.{Placed, name, number, Spells, AreTokensOf, FirstLong, IsFirstLongWord, IsFirstLongNumber}

-- no tokens within the limits
abbrev pub HasNoTokens : List ℕ → Type 0
HasNoTokens s = (ts : List Placed) → AreTokensOf s ts → ⊥

-- an error of cutting alone
abbrev pub CutFails : List ℕ → DeclFault → Type 0
CutFails s (faults.BadByte at) = IsFirstBad s at × ((ts : List Placed) → Spells 0 s ts → ⊥)
CutFails s faults.OutOfMemory = Unit {0}
CutFails s _ = ⊥

-- the first token past its limit
abbrev pub LongFails : List Placed → DeclFault → Type 0
LongFails ts (faults.WordTooLong at) = FirstLong ts name 32 at
LongFails ts (faults.NumberTooLong at) = FirstLong ts number 9 at
LongFails ts _ = ⊥

-- what an error means for the text
abbrev pub NoTokens : List ℕ → DeclFault → Type 0
NoTokens s faults.TooLong = 65536 < length s
NoTokens s (faults.BadByte at) = (length s ≤ 65536) × IsFirstBad s at × HasNoTokens s
NoTokens s (faults.WordTooLong at) = (length s ≤ 65536) × HasNoTokens s × IsFirstLongWord s at
NoTokens s (faults.NumberTooLong at) = (length s ≤ 65536) × HasNoTokens s × IsFirstLongNumber s at
NoTokens s faults.OutOfMemory = Unit {0}
NoTokens s _ = ⊥
