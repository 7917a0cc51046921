-- Which words are reserved, and which are names.
use Rattle.std.specs.Prelude.{◌≡◌, ℕ, ◌≤◌, true, if◌then◌else◌, List, [], ◌∷◌, length, codes, Option, Some, None}
use Rattle.std.specs.List.{AllByRecursion}
use Rattle.std.specs.Str.{bytes_eq}
use Rattle.path_lex.specs.declared.token.Reserved.{Reserved}
use Rattle.path_lex.specs.declared.token.Reserved.TheVariants as words
use Rattle.path_lex.specs.declared.token.Class.TheVariants as classes
use Rattle.path_lex.specs.Bytes.{class_of, is_word_byte}

-- the reserved word with these bytes
unfoldable pub reserved_of : List ℕ → Option Reserved
reserved_of w =
    if bytes_eq w (codes "resource") then Some words.Resource else
    if bytes_eq w (codes "operation") then Some words.Operation else
    if bytes_eq w (codes "path") then Some words.Path else
    if bytes_eq w (codes "end") then Some words.End else
    if bytes_eq w (codes "cell") then Some words.Cell else
    if bytes_eq w (codes "tally") then Some words.Tally else
    if bytes_eq w (codes "queue") then Some words.Queue else None

-- a letter followed by letters, digits and underscores
abbrev pub IsWordText : List ℕ → Type 0
IsWordText [] = ⊥
IsWordText (b ∷ bs) = (class_of b ≡ classes.Letter) × AllByRecursion (λ c. is_word_byte c ≡ true) bs

-- a word of at most 32 bytes that isn't reserved
pub record IsName (w : List ℕ) : Type 0 where
  pub word : IsWordText w
  pub short : length w ≤ 32
  pub free : reserved_of w ≡ None
