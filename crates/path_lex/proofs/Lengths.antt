-- Tokens that are too long.
use Rattle.std.proofs.Common.{◌≡◌, ℕ, ◌+◌, ◌<◌, ◌≤◌, List, [], ◌∷◌, ◌++◌, length, get_or, take, drop, refl, sym, ap, ◌∙◌, subst, arith}
use Rattle.std.proofs.lemmas.List.{drop_more, take-append-drop}
use Rattle.std.proofs.lemmas.List.{map-append}
use Rattle.std.proofs.Common.{map}
use Rattle.path_lex.specs.declared.fault.DeclFault.{DeclFault}
use Rattle.path_lex.specs.declared.fault.DeclFault.TheVariants as faults
use Rattle.path_lex.specs.declared.token.Token.{Token}
use Rattle.path_lex.specs.Spelling.{view, views, name, number, Placed, placed, Spells, IsWithin, AreWithin, FirstLong}
use Rattle.path_lex.specs.Tokenless.{CutFails, LongFails, NoTokens, HasNoTokens}

-- a list, as what stands before an item, that item, and what stands after it
pub parted : {A B : Type 0} (f : A → B) (xs : List A) (i : ℕ) (d : A) → i < length xs → map f xs ≡ map f (take i xs) ++ f (get_or xs i d) ∷ map f (drop (i + 1) xs)
parted f xs i d h = ap (map f) (sym (take-append-drop i xs) ∙ ap (λ x. take i xs ++ x) (drop_more xs i d h)) ∙ map-append f (take i xs) (get_or xs i d ∷ drop (i + 1) xs)

-- the same of tokens, at what one of them shows
pub parted_at : (ts : List Token) (i : ℕ) (d : Token) (t : Placed) → i < length ts → view (get_or ts i d) ≡ t → views ts ≡ views (take i ts) ++ t ∷ views (drop (i + 1) ts)
parted_at ts i d t h e = parted view ts i d h ∙ ap (λ (x : Placed). views (take i ts) ++ x ∷ views (drop (i + 1) ts)) e

within_at : (before : List Placed) (t : Placed) (after : List Placed) → AreWithin (before ++ t ∷ after) → IsWithin t
within_at [] t after w = w.0
within_at (b ∷ before) t after w = within_at before t after w.1

none_long : (s : List ℕ) (ts : List Placed) → ((us : List Placed) → Spells 0 s us → us ≡ ts) → (AreWithin ts → ⊥) → HasNoTokens s
none_long s ts only long us are = long (subst AreWithin (only us are.spelled) are.within)

-- the token past its limit
long_word : {ts : List Placed} {at : ℕ} (f : FirstLong ts name 32 at) → IsWithin (placed (name f.text) at) → ⊥
long_word f w = let long = f.long in omega arith

long_number : {ts : List Placed} {at : ℕ} (f : FirstLong ts number 9 at) → IsWithin (placed (number f.text) at) → ⊥
long_number f w = let long = f.long in omega arith

pub none_long_word : {ts : List Placed} {at : ℕ} → FirstLong ts name 32 at → AreWithin ts → ⊥
none_long_word {ts} {at} f w = long_word f (within_at f.before (placed (name f.text) at) f.after (subst AreWithin f.parts w))

pub none_long_number : {ts : List Placed} {at : ℕ} → FirstLong ts number 9 at → AreWithin ts → ⊥
none_long_number {ts} {at} f w = long_number f (within_at f.before (placed (number f.text) at) f.after (subst AreWithin f.parts w))

pub refuses_long : (s : List ℕ) (ts : List Placed) (e : DeclFault) → length s ≤ 65536 → Spells 0 s ts → ((us : List Placed) → Spells 0 s us → us ≡ ts) → LongFails ts e → NoTokens s e
refuses_long s ts (faults.WordTooLong at) h spelled only l = (h, none_long s ts only (none_long_word l), (ts, spelled, l))
refuses_long s ts (faults.NumberTooLong at) h spelled only l = (h, none_long s ts only (none_long_number l), (ts, spelled, l))
refuses_long s ts _ h spelled only l = absurd l

-- the first of a list that is past its limit is one alone
first_once : (before before' after after' : List Placed) (t t' : Placed) → AreWithin before → AreWithin before' → (IsWithin t → ⊥) → (IsWithin t' → ⊥) → before ++ t ∷ after ≡ before' ++ t' ∷ after' → t ≡ t'
first_once [] [] after after' t t' w w' l l' e = cc
first_once [] (b ∷ bs) after after' t t' w w' l l' e = let same : b ≡ t = cc in absurd (l (subst IsWithin same w'.0))
first_once (b ∷ bs) [] after after' t t' w w' l l' e = let same : b ≡ t' = cc in absurd (l' (subst IsWithin same w.0))
first_once (b ∷ bs) (c ∷ cs) after after' t t' w w' l l' e = let tails : bs ++ t ∷ after ≡ cs ++ t' ∷ after' = cc in first_once bs cs after after' t t' w.1 w'.1 l l' tails

both_words : {ts : List Placed} {at at' : ℕ} → FirstLong ts name 32 at → FirstLong ts name 32 at' → at ≡ at'
both_words {ts} {at} {at'} f g = ap (λ t. t.at) (first_once f.before g.before f.after g.after (placed (name f.text) at) (placed (name g.text) at') f.within g.within (long_word f) (long_word g) (sym f.parts ∙ g.parts))

both_numbers : {ts : List Placed} {at at' : ℕ} → FirstLong ts number 9 at → FirstLong ts number 9 at' → at ≡ at'
both_numbers {ts} {at} {at'} f g = ap (λ t. t.at) (first_once f.before g.before f.after g.after (placed (number f.text) at) (placed (number g.text) at') f.within g.within (long_number f) (long_number g) (sym f.parts ∙ g.parts))

word_or_number : {ts : List Placed} {at at' : ℕ} → FirstLong ts name 32 at → FirstLong ts number 9 at' → ⊥
word_or_number {ts} {at} {at'} f g =
    let same = first_once f.before g.before f.after g.after (placed (name f.text) at) (placed (number g.text) at') f.within g.within (long_word f) (long_number g) (sym f.parts ∙ g.parts) in
    let piece : name f.text ≡ number g.text = ap (λ t. t.piece) same in cc

-- the fault of tokens whose first past its limit is a word, a number
pub names_word : (ts : List Placed) (e : DeclFault) (at : ℕ) → LongFails ts e → FirstLong ts name 32 at → e ≡ faults.WordTooLong at
names_word ts (faults.WordTooLong at') at l f = ap faults.WordTooLong (both_words l f)
names_word ts (faults.NumberTooLong at') at l f = absurd (word_or_number f l)
names_word ts _ at l f = absurd l

pub names_number : (ts : List Placed) (e : DeclFault) (at : ℕ) → LongFails ts e → FirstLong ts number 9 at → e ≡ faults.NumberTooLong at
names_number ts (faults.WordTooLong at') at l f = absurd (word_or_number l f)
names_number ts (faults.NumberTooLong at') at l f = ap faults.NumberTooLong (both_numbers l f)
names_number ts _ at l f = absurd l

-- a text that can be cut is cut, unless allocation fails
pub cut_fails_memory : (s : List ℕ) (ts : List Placed) (e : DeclFault) → CutFails s e → Spells 0 s ts → e ≡ faults.OutOfMemory
cut_fails_memory s ts (faults.BadByte at) f h = absurd (f.1 ts h)
cut_fails_memory s ts faults.OutOfMemory f h = refl
cut_fails_memory s ts _ f h = absurd f
