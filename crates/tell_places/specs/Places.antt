-- Where a place stands in a text, and where a fault is told to stand.
use Rattle.std.specs.Prelude.{◌≡◌, ◌+◌, ◌<◌, ◌≤◌, ℕ, List, [], ◌∷◌, ◌++◌, length, Option, Some, None, IfSome}
use Rattle.path_lex.specs.declared.fault.DeclFault.{DeclFault}
use Rattle.path_lex.specs.declared.fault.DeclFault.TheVariants as declarations
use Rattle.path_fields.specs.Splits.{HasNone, EndsAt}
use Rattle.path_lines.specs.declared.texts.TextFault.{TextFault}
use Rattle.path_lines.specs.declared.texts.TextFault.TheVariants as texts
use Rattle.path_script.specs.declared.fault.ScriptFault.{ScriptFault}
use Rattle.path_script.specs.declared.fault.ScriptFault.TheVariants as scripts
use Rattle.tell_places.specs.declared.places.Spot.{Spot}

-- so many lines, each with its line feed (10)
pub data AreLines : ℕ → List ℕ → Type 0 where
  none : AreLines 0 []
  more : {n : ℕ} (line : List ℕ) {rest : List ℕ} → HasNone 10 line → AreLines n rest → AreLines (n + 1) (line ++ 10 ∷ rest)

-- the text is so many lines, and then these bytes
abbrev pub IsBehind : List ℕ → ℕ → List ℕ → Type 0
IsBehind text n rest = (before : List ℕ) × AreLines n before × (text ≡ before ++ rest)

-- the place behind so many bytes of a text is on the line with this number, from 1, and so many bytes of this line precede it
pub record IsSpot (text : List ℕ) (offset number : ℕ) (line : List ℕ) (at : ℕ) : Type 0 where
  pub count : ℕ
  pub before : List ℕ
  pub after : List ℕ
  pub lines : AreLines count before
  pub parts : text ≡ before ++ (line ++ after)
  pub one : HasNone 10 line
  pub ends : EndsAt 10 after
  pub place : offset ≡ length before + at
  pub within : at ≤ length line
  pub numbered : number ≡ count + 1

-- the spot is that of this offset
abbrev pub IsSpotAt : List ℕ → ℕ → Spot → Type 0
IsSpotAt text offset spot = IsSpot text offset spot.line spot.text.now spot.at

-- the spot is that of some offset, on the line behind so many others if the text has them
abbrev pub IsSpotBehind : List ℕ → ℕ → Spot → Type 0
IsSpotBehind text n spot =
    ((offset : ℕ) × IsSpotAt text offset spot) × ((rest : List ℕ) → IsBehind text n rest → spot.line ≡ n + 1)

-- the offset that a fault of a declaration has
abbrev pub offset_of : DeclFault → Option ℕ
offset_of declarations.TooLong = Some 65536
offset_of (declarations.BadByte at) = Some at
offset_of (declarations.WordTooLong at) = Some at
offset_of (declarations.NumberTooLong at) = Some at
offset_of (declarations.Unexpected at) = Some at
offset_of (declarations.TooDeep at) = Some at
offset_of (declarations.DuplicateResource at) = Some at
offset_of (declarations.DuplicateOperation at) = Some at
offset_of (declarations.Undeclared at) = Some at
offset_of (declarations.RepeatedName at) = Some at
offset_of (declarations.NestedBraces at) = Some at
offset_of (declarations.BadCapacity at) = Some at
offset_of (declarations.BadCount at) = Some at
offset_of (declarations.TooMany at) = Some at
offset_of declarations.OutOfMemory = None

-- the spot of a fault of a declaration: that of its offset, if the text has such a byte
abbrev pub IsDeclarationSpot : List ℕ → DeclFault → Spot → Type 0
IsDeclarationSpot text fault spot = IfSome (offset_of fault) (λ at. at < length text → IsSpotAt text at spot)

-- the number that a fault of attempts or of a journal has
abbrev pub number_of : TextFault → Option ℕ
number_of texts.TooLong = None
number_of (texts.BadLine n) = Some n
number_of (texts.Undeclared n) = Some n
number_of texts.OutOfMemory = None

-- the number that a fault of a script has
abbrev pub script_number : ScriptFault → Option ℕ
script_number scripts.TooLong = None
script_number (scripts.BadLine n) = Some n
script_number (scripts.Undeclared n) = Some n
script_number (scripts.Unbalanced n) = Some n
script_number (scripts.TooDeep n) = Some n
script_number (scripts.TooMany n) = Some n
script_number scripts.OutOfMemory = None

-- the spot of a fault with a number: on the line behind so many others
abbrev pub IsLineSpot : List ℕ → Option ℕ → Spot → Type 0
IsLineSpot text number spot = IfSome number (λ n. IsSpotBehind text n spot)
