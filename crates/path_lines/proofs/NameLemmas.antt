-- Names are ASCII words.
use Rattle.std.proofs.Common.{◌≡◌, ℕ, ◌<◌, ◌≤◌, ◌==◌, true, false, List, [], ◌∷◌, refl, ap, subst, arith, ◌∙◌, ◌++◌, Option, option_map, sym}
use Rattle.path_model.specs.declared.ids.OpId.{OpId}
use Rattle.path_model.specs.Declarations.{Declaration}
use Rattle.std.specs.Prelude.{slice_get}
use Rattle.std.proofs.lemmas.Option.{slice_get-map}
use Rattle.path_lines.specs.LineTexts.{name_or_number, operation_text}
use Rattle.std.proofs.lemmas.Bool.Decides.{nat_tests}
use Rattle.path_lex.specs.declared.token.Class.TheVariants as classes
use Rattle.path_lex.specs.Bytes.{class_of, is_word_byte, is_space, is_letter, is_digit, in_word}
use Rattle.path_lex.specs.Names.{IsName, IsWordText}
use Rattle.std.proofs.Math.Nat.{lt_of_not-le}
use Rattle.std.specs.List.{AllByRecursion}
use Rattle.std.specs.Str.{IsAscii}
use Rattle.std.proofs.lemmas.Str.Ascii.{IsAscii-nil, IsAscii-cons}
use Rattle.path_fields.specs.Splits.{HasNone}

high_space : (b : ℕ) → 128 ≤ b → is_space b ≡ false
high_space b h = grind (arith, nat_tests)

high_letter : (b : ℕ) → 128 ≤ b → is_letter b ≡ false
high_letter b h = grind (arith, nat_tests)

high_digit : (b : ℕ) → 128 ≤ b → is_digit b ≡ false
high_digit b h = grind (arith, nat_tests)

other_than : (b c : ℕ) → c < b → (b == c) ≡ false
other_than b c h = grind (arith, nat_tests)

high_byte : (b : ℕ) → 128 ≤ b → class_of b ≡ classes.Other
unfolding class_of
high_byte b h = rw (high_space b h, high_letter b h, high_digit b h, other_than b 95 (omega arith), other_than b 59 (omega arith), other_than b 44 (omega arith), other_than b 58 (omega arith), other_than b 40 (omega arith), other_than b 41 (omega arith), other_than b 123 (omega arith), other_than b 125 (omega arith)) refl

-- a byte of a word is ASCII
pub word_byte_low : (b : ℕ) → is_word_byte b ≡ true → b < 128
word_byte_low b h = lt_of_not-le (λ high. let k : is_word_byte b ≡ false = ap in_word (high_byte b high) in cc)

words_low : (bs : List ℕ) → AllByRecursion (λ c. is_word_byte c ≡ true) bs → IsAscii bs
words_low [] h = IsAscii-nil
words_low (b ∷ bs) h = IsAscii-cons b bs (word_byte_low b h.0) (words_low bs h.1)

name_low : (name : List ℕ) → IsWordText name → IsAscii name
name_low [] h = absurd h
name_low (b ∷ bs) h = IsAscii-cons b bs (word_byte_low b (ap in_word h.0)) (words_low bs h.1)

pub name_is_ascii : (name : List ℕ) → IsName name → IsAscii name
name_is_ascii name h = name_low name h.word

-- what stands in no word stands in no name
words_without : (b : ℕ) (bs : List ℕ) → is_word_byte b ≡ false → AllByRecursion (λ c. is_word_byte c ≡ true) bs → HasNone b bs
words_without b [] outside h = tt
words_without b (c ∷ cs) outside h = (λ e. let k : is_word_byte b ≡ true = subst (λ x. is_word_byte x ≡ true) e h.0 in cc, words_without b cs outside h.1)

pub name_without : (b : ℕ) (name : List ℕ) → is_word_byte b ≡ false → IsWordText name → HasNone b name
name_without b [] outside h = absurd h
name_without b (c ∷ cs) outside h = (λ e. let k : is_word_byte b ≡ true = subst (λ x. is_word_byte x ≡ true) e (ap in_word h.0) in cc, words_without b cs outside h.1)

pub line_feed_outside : is_word_byte 10 ≡ false
unfolding class_of
line_feed_outside = refl

pub colon_outside : is_word_byte 58 ≡ false
unfolding class_of
colon_outside = refl

hash_outside : is_word_byte 35 ≡ false
unfolding class_of
hash_outside = refl

-- no name begins with `#`
pub name_is_plain : (name rest : List ℕ) → IsName name → name ≡ 35 ∷ rest → ⊥
name_is_plain name rest h e = (subst (HasNone 35) e (name_without 35 name hash_outside h.word)).0 refl

-- an operation is written by its name, or by its number
pub named_text : (d : Declaration) (a : OpId) (old new : List ℕ) (name : Option (List ℕ)) → name ≡ option_map (λ o. o.name) (slice_get d.operations a.0) → new ≡ old ++ name_or_number name a.0
    → new ≡ old ++ operation_text d a
named_text d a old new name is wrote = wrote ∙ ap (λ o. old ++ name_or_number o a.0) (is ∙ sym (slice_get-map (λ o. o.name) d.operations a.0))
