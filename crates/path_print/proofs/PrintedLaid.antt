-- What is laid out is cut into the same tokens.
use Rattle.std.proofs.Common.{◌≡◌, ℕ, ◌+◌, ◌≤◌, Bool, true, false, List, [], ◌∷◌, ◌++◌, length, take, drop, None, refl, sym, ap, ◌∙◌, subst, one-add, append_assoc, arith}
use Rattle.std.specs.List.{prefix_len, AllByRecursion}
use Rattle.std.proofs.Math.Seq.{take-append_seam, drop-append_seam}
use Rattle.path_lex.specs.declared.token.Sign.{Sign}
use Rattle.path_lex.specs.declared.token.Sign.TheVariants as signs
use Rattle.path_lex.specs.declared.token.Reserved.{Reserved}
use Rattle.path_lex.specs.declared.token.Reserved.TheVariants as words
use Rattle.path_lex.specs.declared.token.Class.TheVariants as classes
use Rattle.path_lex.specs.declared.token.Class.{Class}
use Rattle.path_lex.specs.Bytes.{class_of, in_word, in_number, is_word_byte, is_number_byte}
use Rattle.path_lex.specs.Names.{reserved_of, IsWordText, IsName}
use Rattle.path_lex.specs.Spelling.{Piece, sign, reserved, name, number, Placed, placed, pieces, word, word_or, word_len, number_len, Spells, by_end, by_space, by_mark, by_word, by_number, IsWithinPiece, AreWithin, AreTokensOf}
use Rattle.path_print.proofs.PrintedNumbers.{IsNumberText}
use Rattle.path_print.specs.Printed.{sign_byte, sign_gap, reserved_text, piece_text, gap, spaced, laid}

-- a piece that can be printed: a name is one, and a number has one digit to nine
abbrev pub IsPiece : Piece → Type 0
IsPiece (sign s) = Unit {0}
IsPiece (reserved r) = Unit {0}
IsPiece (name n) = IsName n
IsPiece (number n) = IsNumberText n

-- no word goes on here
abbrev Apart : List ℕ → Type 0
Apart [] = Unit {0}
Apart (b ∷ bs) = in_word (class_of b) ≡ false

run : (p : ℕ → Bool) (xs ys : List ℕ) → AllByRecursion (λ c. p c ≡ true) xs → prefix_len p ys ≡ 0 → prefix_len p (xs ++ ys) ≡ length xs
run p [] ys h e = e
run p (x ∷ xs) ys h e = let f = h.0 in rw f (ap (λ n. 1 + n) (run p xs ys h.1 e) ∙ one-add (length xs))

word_stops : (ys : List ℕ) → Apart ys → word_len ys ≡ 0
word_stops [] h = refl
word_stops (y ∷ ys) h = rw h refl

no_digit : (c : Class) → in_word c ≡ false → in_number c ≡ false
no_digit classes.Digit h = absurd cc
no_digit classes.Letter h = refl
no_digit classes.Underscore h = refl
no_digit classes.Space h = refl
no_digit (classes.Sign s) h = refl
no_digit classes.Other h = refl

number_stops : (ys : List ℕ) → Apart ys → number_len ys ≡ 0
number_stops [] h = refl
number_stops (y ∷ ys) h = rw (no_digit (class_of y) h) refl

-- these tokens, and a line feed
abbrev ended : List Piece → List ℕ
ended ps = spaced ps ++ 10 ∷ []

apart_ended : (ps : List Piece) → Apart (ended ps)
unfolding class_of
apart_ended [] = refl
apart_ended (sign signs.Semicolon ∷ ps) = refl
apart_ended (sign signs.Comma ∷ ps) = refl
apart_ended (sign signs.Colon ∷ ps) = refl
apart_ended (sign signs.OpenParen ∷ ps) = refl
apart_ended (sign signs.CloseParen ∷ ps) = refl
apart_ended (sign signs.OpenBrace ∷ ps) = refl
apart_ended (sign signs.CloseBrace ∷ ps) = refl
apart_ended (reserved r ∷ ps) = refl
apart_ended (name n ∷ ps) = refl
apart_ended (number n ∷ ps) = refl

space_is : class_of 32 ≡ classes.Space
unfolding class_of
space_is = refl

feed_is : class_of 10 ≡ classes.Space
unfolding class_of
feed_is = refl

sign_is : (s : Sign) → class_of (sign_byte s) ≡ classes.Sign s
unfolding class_of
sign_is signs.Semicolon = refl
sign_is signs.Comma = refl
sign_is signs.Colon = refl
sign_is signs.OpenParen = refl
sign_is signs.CloseParen = refl
sign_is signs.OpenBrace = refl
sign_is signs.CloseBrace = refl

reserved_word : (r : Reserved) → IsWordText (reserved_text r)
unfolding class_of
reserved_word words.Resource = (refl, (refl, (refl, (refl, (refl, (refl, (refl, (refl, tt))))))))
reserved_word words.Operation = (refl, (refl, (refl, (refl, (refl, (refl, (refl, (refl, (refl, tt)))))))))
reserved_word words.Path = (refl, (refl, (refl, (refl, tt))))
reserved_word words.End = (refl, (refl, (refl, tt)))
reserved_word words.Cell = (refl, (refl, (refl, (refl, tt))))
reserved_word words.Tally = (refl, (refl, (refl, (refl, (refl, tt)))))
reserved_word words.Queue = (refl, (refl, (refl, (refl, (refl, tt)))))

reserved_is : (r : Reserved) → word (reserved_text r) ≡ reserved r
unfolding reserved_of
reserved_is words.Resource = refl
reserved_is words.Operation = refl
reserved_is words.Path = refl
reserved_is words.End = refl
reserved_is words.Cell = refl
reserved_is words.Tally = refl
reserved_is words.Queue = refl

name_is : (n : List ℕ) → reserved_of n ≡ None → word n ≡ name n
name_is n e = ap (λ o. word_or o n) e

-- the bytes at that offset are made of tokens with these pieces
abbrev Made : ℕ → List ℕ → List Piece → Type 0
Made at s ps = (ts : List Placed) × Spells at s ts × (pieces ts ≡ ps)

spaced_made : {at : ℕ} {s : List ℕ} {ps : List Piece} → Made (at + 1) s ps → Made at (32 ∷ s) ps
spaced_made m = (m.0, by_space space_is m.1, m.2)

signed : (at : ℕ) (s : Sign) (rest : List ℕ) (ps : List Piece) → Made (at + 1) rest ps → Made at (sign_byte s ∷ rest) (sign s ∷ ps)
signed at s rest ps m = (placed (sign s) at ∷ m.0, by_mark (sign_is s) m.1, ap (λ x. sign s ∷ x) m.2)

worded : (w rest : List ℕ) (p : Piece) (ps : List Piece) → IsWordText w → word w ≡ p → Apart rest → ((at : ℕ) → Made at rest ps) → (at : ℕ) → Made at (w ++ rest) (p ∷ ps)
worded [] rest p ps h e a m at = absurd h
worded (b ∷ bs) rest p ps h e a f at =
    let m = f (at + 1 + length bs) in
    let n : word_len (bs ++ rest) ≡ length bs = run is_word_byte bs rest h.1 (word_stops rest a) in
    let t : take (word_len (bs ++ rest)) (bs ++ rest) ≡ bs = ap (λ k. take k (bs ++ rest)) n ∙ take-append_seam bs rest in
    let d : drop (word_len (bs ++ rest)) (bs ++ rest) ≡ rest = ap (λ k. drop k (bs ++ rest)) n ∙ drop-append_seam bs rest in
    let inside : Spells (at + 1 + word_len (bs ++ rest)) (drop (word_len (bs ++ rest)) (bs ++ rest)) m.0 = subst (λ k. Spells (at + 1 + k) (drop (word_len (bs ++ rest)) (bs ++ rest)) m.0) (sym n) (subst (λ x. Spells (at + 1 + length bs) x m.0) (sym d) m.1) in
    (placed (word (b ∷ take (word_len (bs ++ rest)) (bs ++ rest))) at ∷ m.0, by_word h.0 inside, ap (λ x. word (b ∷ x) ∷ pieces m.0) t ∙ ap (λ x. x ∷ pieces m.0) e ∙ ap (λ x. p ∷ x) m.2)

numerals : (ds : List ℕ) → AllByRecursion (λ c. class_of c ≡ classes.Digit) ds → AllByRecursion (λ c. is_number_byte c ≡ true) ds
numerals [] h = tt
numerals (d ∷ ds) h = (ap in_number h.0, numerals ds h.1)

numbered : (n rest : List ℕ) (ps : List Piece) → IsNumberText n → Apart rest → ((at : ℕ) → Made at rest ps) → (at : ℕ) → Made at (n ++ rest) (number n ∷ ps)
numbered [] rest ps h a f at = absurd (omega (arith, h.some))
numbered (b ∷ bs) rest ps h a f at =
    let m = f (at + 1 + length bs) in
    let n : number_len (bs ++ rest) ≡ length bs = run is_number_byte bs rest (numerals bs h.digits.1) (number_stops rest a) in
    let t : take (number_len (bs ++ rest)) (bs ++ rest) ≡ bs = ap (λ k. take k (bs ++ rest)) n ∙ take-append_seam bs rest in
    let d : drop (number_len (bs ++ rest)) (bs ++ rest) ≡ rest = ap (λ k. drop k (bs ++ rest)) n ∙ drop-append_seam bs rest in
    let inside : Spells (at + 1 + number_len (bs ++ rest)) (drop (number_len (bs ++ rest)) (bs ++ rest)) m.0 = subst (λ k. Spells (at + 1 + k) (drop (number_len (bs ++ rest)) (bs ++ rest)) m.0) (sym n) (subst (λ x. Spells (at + 1 + length bs) x m.0) (sym d) m.1) in
    (placed (number (b ∷ take (number_len (bs ++ rest)) (bs ++ rest))) at ∷ m.0, by_number h.digits.0 inside, ap (λ x. number (b ∷ x) ∷ pieces m.0) t ∙ ap (λ x. number (b ∷ bs) ∷ x) m.2)

-- a token and what follows it
put_before : (p : Piece) (ps : List Piece) → IsPiece p → ((at : ℕ) → Made at (ended ps) ps) → (at : ℕ) → Made at (piece_text p ++ ended ps) (p ∷ ps)
put_before (sign s) ps h f at = signed at s (ended ps) ps (f (at + 1))
put_before (reserved r) ps h f at = worded (reserved_text r) (ended ps) (reserved r) ps (reserved_word r) (reserved_is r) (apart_ended ps) f at
put_before (name n) ps h f at = worded n (ended ps) (name n) ps h.word (name_is n h.free) (apart_ended ps) f at
put_before (number n) ps h f at = numbered n (ended ps) ps h (apart_ended ps) f at

sign_after : (s : Sign) (rest : List ℕ) (ps : List Piece) → ((at : ℕ) → Made at (sign_byte s ∷ rest) ps) → (at : ℕ) → Made at (sign_gap s ++ (sign_byte s ∷ rest)) ps
sign_after signs.Semicolon rest ps f at = f at
sign_after signs.Comma rest ps f at = f at
sign_after signs.Colon rest ps f at = f at
sign_after signs.OpenParen rest ps f at = spaced_made (f (at + 1))
sign_after signs.CloseParen rest ps f at = spaced_made (f (at + 1))
sign_after signs.OpenBrace rest ps f at = spaced_made (f (at + 1))
sign_after signs.CloseBrace rest ps f at = spaced_made (f (at + 1))

gapped : (p : Piece) (rest : List ℕ) (ps : List Piece) → ((at : ℕ) → Made at (piece_text p ++ rest) ps) → (at : ℕ) → Made at (gap p ++ (piece_text p ++ rest)) ps
gapped (sign s) rest ps f at = sign_after s rest ps f at
gapped (reserved r) rest ps f at = spaced_made (f (at + 1))
gapped (name n) rest ps f at = spaced_made (f (at + 1))
gapped (number n) rest ps f at = spaced_made (f (at + 1))

ended-cons : (p : Piece) (ps : List Piece) → ended (p ∷ ps) ≡ gap p ++ (piece_text p ++ ended ps)
ended-cons p ps = append_assoc (gap p) (piece_text p ++ spaced ps) (10 ∷ []) ∙ ap (λ x. gap p ++ x) (append_assoc (piece_text p) (spaced ps) (10 ∷ []))

ended_again : (ps : List Piece) → AllByRecursion IsPiece ps → (at : ℕ) → Made at (ended ps) ps
ended_again [] h at = ([], by_space feed_is by_end, refl)
ended_again (p ∷ ps) h at = subst (λ s. Made at s (p ∷ ps)) (sym (ended-cons p ps)) (gapped p (ended ps) (p ∷ ps) (put_before p ps h.0 (ended_again ps h.1)) at)

laid_again : (ps : List Piece) → AllByRecursion IsPiece ps → Made 0 (laid ps) ps
laid_again [] h = ([], by_space feed_is by_end, refl)
laid_again (p ∷ ps) h = put_before p ps h.0 (ended_again ps h.1) 0

within_piece : (p : Piece) → IsPiece p → IsWithinPiece p
within_piece (sign s) h = tt
within_piece (reserved r) h = tt
within_piece (name n) h = h.short
within_piece (number n) h = h.short

head_is : {p q : Piece} {ps qs : List Piece} → p ∷ ps ≡ q ∷ qs → p ≡ q
head_is e = cc

tail_is : {p q : Piece} {ps qs : List Piece} → p ∷ ps ≡ q ∷ qs → ps ≡ qs
tail_is e = cc

are_within : (ts : List Placed) (ps : List Piece) → pieces ts ≡ ps → AllByRecursion IsPiece ps → AreWithin ts
are_within [] ps e h = tt
are_within (t ∷ ts) [] e h = absurd (cc)
are_within (t ∷ ts) (p ∷ ps) e h = (subst IsWithinPiece (sym (head_is e)) (within_piece p h.0), are_within ts ps (tail_is e) h.1)

-- what is laid out is made of these tokens
pub laid_out : (ps : List Piece) → AllByRecursion IsPiece ps → length (laid ps) ≤ 65536 → (ts : List Placed) × AreTokensOf (laid ps) ts × (pieces ts ≡ ps)
laid_out ps h short = let m = laid_again ps h in (m.0, record { short = short; spelled = m.1; within = are_within m.0 ps m.2 h }, m.2)
