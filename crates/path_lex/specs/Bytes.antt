-- Which bytes begin a token, which belong to a word, and which are bad.
use Rattle.std.specs.Prelude.{◌≡◌, ℕ, ◌<◌, Bool, true, false, ◌&&◌, ◌||◌, ◌==◌, nat_le, if◌then◌else◌, List, length, slice_index}
use Rattle.path_lex.specs.declared.token.Sign.TheVariants as signs
use Rattle.path_lex.specs.declared.token.Class.{Class}
use Rattle.path_lex.specs.declared.token.Class.TheVariants as classes

-- space, tab, LF, CR
abbrev pub is_space : ℕ → Bool
is_space b = b == 32 || b == 9 || b == 10 || b == 13

abbrev pub is_letter : ℕ → Bool
is_letter b = (nat_le 65 b && nat_le b 90) || (nat_le 97 b && nat_le b 122)

abbrev pub is_digit : ℕ → Bool
is_digit b = nat_le 48 b && nat_le b 57

unfoldable pub class_of : ℕ → Class
class_of b =
    if is_space b then classes.Space else
    if is_letter b then classes.Letter else
    if is_digit b then classes.Digit else
    if b == 95 then classes.Underscore else
    if b == 59 then classes.Sign signs.Semicolon else
    if b == 44 then classes.Sign signs.Comma else
    if b == 58 then classes.Sign signs.Colon else
    if b == 40 then classes.Sign signs.OpenParen else
    if b == 41 then classes.Sign signs.CloseParen else
    if b == 123 then classes.Sign signs.OpenBrace else
    if b == 125 then classes.Sign signs.CloseBrace else classes.Other

abbrev pub in_word : Class → Bool
in_word classes.Letter = true
in_word classes.Digit = true
in_word classes.Underscore = true
in_word classes.Space = false
in_word (classes.Sign s) = false
in_word classes.Other = false

abbrev pub in_number : Class → Bool
in_number classes.Digit = true
in_number classes.Letter = false
in_number classes.Underscore = false
in_number classes.Space = false
in_number (classes.Sign s) = false
in_number classes.Other = false

-- a byte that can't begin a token
abbrev pub begins_none : Class → Bool
begins_none classes.Underscore = true
begins_none classes.Other = true
begins_none classes.Letter = false
begins_none classes.Digit = false
begins_none classes.Space = false
begins_none (classes.Sign s) = false

-- letters, digits and underscores
abbrev pub is_word_byte : ℕ → Bool
is_word_byte b = in_word (class_of b)

abbrev pub is_number_byte : ℕ → Bool
is_number_byte b = in_number (class_of b)

-- from a letter before i on there are only letters, digits and underscores, up to i and at i
pub record InWord (s : List ℕ) (i : ℕ) : Type 0 where
  pub from : ℕ
  pub before : from < i
  pub letter : class_of (slice_index s from) ≡ classes.Letter
  pub each : (k : ℕ) → from < k → k < i → is_word_byte (slice_index s k) ≡ true

-- a token would have to begin at i, and can't begin with that byte; an underscore is bad unless it is in a word
pub record IsBad (s : List ℕ) (i : ℕ) : Type 0 where
  pub within : i < length s
  pub none : begins_none (class_of (slice_index s i)) ≡ true
  pub outside : is_word_byte (slice_index s i) ≡ true → InWord s i → ⊥

pub record IsFirstBad (s : List ℕ) (i : ℕ) : Type 0 where
  pub bad : IsBad s i
  pub first : (k : ℕ) → k < i → IsBad s k → ⊥
