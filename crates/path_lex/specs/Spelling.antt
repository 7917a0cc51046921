-- Which tokens a text is made of.
use Rattle.std.specs.Prelude.{◌≡◌, ℕ, ◌+◌, ◌<◌, ◌≤◌, List, [], ◌∷◌, ◌++◌, length, take, drop, map, Option, Some, None}
use Rattle.std.specs.List.{prefix_len, AllByRecursion}
use Rattle.path_lex.specs.declared.token.Sign.{Sign}
use Rattle.path_lex.specs.declared.token.Reserved.{Reserved}
use Rattle.path_lex.specs.declared.token.Class.TheVariants as classes
use Rattle.path_lex.specs.declared.token.Token.{Token}
use Rattle.path_lex.specs.declared.token.Token.TheVariants as tokens
use Rattle.path_lex.specs.Bytes.{class_of, is_word_byte, is_number_byte}
use Rattle.path_lex.specs.Names.{reserved_of}

-- a token, apart from where its bytes are in memory
pub data Piece : Type 0 where
  sign : Sign → Piece
  reserved : Reserved → Piece
  name : List ℕ → Piece
  number : List ℕ → Piece

-- a token and the offset of its first byte
pub record Placed : Type 0 where
  pub piece : Piece
  pub at : ℕ

abbrev pub placed : Piece → ℕ → Placed
placed p i = record { piece = p; at = i }

abbrev pub view : Token → Placed
view (tokens.Sign at s) = placed (sign s) at
view (tokens.Reserved at r) = placed (reserved r) at
view (tokens.Name at n) = placed (name n.now) at
view (tokens.Number at n) = placed (number n.now) at

abbrev pub views : List Token → List Placed
views ts = map view ts

-- tokens without their places
abbrev pub pieces : List Placed → List Piece
pieces ts = map (λ t. t.piece) ts

-- a word, reserved or not
abbrev pub word_or : Option Reserved → List ℕ → Piece
word_or (Some r) w = reserved r
word_or None w = name w

-- the piece of a word: reserved, or a name
abbrev pub word : List ℕ → Piece
word w = word_or (reserved_of w) w

-- how many of the first bytes belong to a word, and to a number
abbrev pub word_len : List ℕ → ℕ
word_len s = prefix_len is_word_byte s

abbrev pub number_len : List ℕ → ℕ
number_len s = prefix_len is_number_byte s

-- these bytes, which begin at that offset, are made of these tokens
pub data Spells : ℕ → List ℕ → List Placed → Type 0 where
  by_end : {at : ℕ} → Spells at [] []
  -- white space separates tokens and isn't one
  by_space : {at b : ℕ} {bs : List ℕ} {ts : List Placed} → class_of b ≡ classes.Space → Spells (at + 1) bs ts → Spells at (b ∷ bs) ts
  -- a sign is one byte
  by_mark : {at b : ℕ} {bs : List ℕ} {ts : List Placed} {s : Sign} → class_of b ≡ classes.Sign s → Spells (at + 1) bs ts
      → Spells at (b ∷ bs) (placed (sign s) at ∷ ts)
  -- a letter, with all letters, digits and underscores that follow it
  by_word : {at b : ℕ} {bs : List ℕ} {ts : List Placed} → class_of b ≡ classes.Letter
      → Spells (at + 1 + word_len bs) (drop (word_len bs) bs) ts → Spells at (b ∷ bs) (placed (word (b ∷ take (word_len bs) bs)) at ∷ ts)
  -- a digit, with all digits that follow it
  by_number : {at b : ℕ} {bs : List ℕ} {ts : List Placed} → class_of b ≡ classes.Digit
      → Spells (at + 1 + number_len bs) (drop (number_len bs) bs) ts
      → Spells at (b ∷ bs) (placed (number (b ∷ take (number_len bs) bs)) at ∷ ts)

abbrev pub IsWithinPiece : Piece → Type 0
IsWithinPiece (sign s) = Unit {0}
IsWithinPiece (reserved r) = Unit {0}
IsWithinPiece (name w) = length w ≤ 32
IsWithinPiece (number n) = length n ≤ 9

-- at most 32 bytes in a word, nine digits in a number
abbrev pub IsWithin : Placed → Type 0
IsWithin t = IsWithinPiece t.piece

abbrev pub AreWithin : List Placed → Type 0
AreWithin ts = AllByRecursion IsWithin ts

-- the tokens of a text, if both are within the limits
pub record AreTokensOf (s : List ℕ) (ts : List Placed) : Type 0 where
  pub short : length s ≤ 65536
  pub spelled : Spells 0 s ts
  pub within : AreWithin ts

-- the first of these tokens past its limit has more than `most` bytes, and begins at that offset
pub record FirstLong (ts : List Placed) (make : List ℕ → Piece) (most at : ℕ) : Type 0 where
  pub before : List Placed
  pub text : List ℕ
  pub after : List Placed
  pub long : most < length text
  pub within : AreWithin before
  pub parts : ts ≡ before ++ placed (make text) at ∷ after

-- the text can be cut, and the first word or number that is too long is the word (or the number) at that offset
abbrev pub IsFirstLongWord : List ℕ → ℕ → Type 0
IsFirstLongWord s at = (ts : List Placed) × Spells 0 s ts × FirstLong ts name 32 at

abbrev pub IsFirstLongNumber : List ℕ → ℕ → Type 0
IsFirstLongNumber s at = (ts : List Placed) × Spells 0 s ts × FirstLong ts number 9 at
