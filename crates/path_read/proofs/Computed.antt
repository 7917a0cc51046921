-- What is computed of a text is what the text declares.
use Rattle.std.proofs.Common.{◌≡◌, ℕ, zero, suc, ◌+◌, ◌<◌, ◌≤◌, ◌^◌, Bool, true, false, ◌&&◌, cond, nat_lt, nat_le, List, [], ◌∷◌, length, drop, get_or, Contains, Option, Some, None, option_map, refl, sym, ap, ◌∙◌, subst, arith}
use Rattle.std.specs.Prelude.{◌==◌}
use Rattle.std.specs.Option.{IfSome, option_and_then}
use Rattle.std.specs.Fmt.{decimal}
use Rattle.std.specs.Str.{bytes_eq, all_ascii_digits}
use Rattle.std.specs.Str.Parse.{digits_value}
use Rattle.std.proofs.lemmas.Bool.Decides.{nat_tests}
use Rattle.std.proofs.lemmas.Slice.Eq.{bytes_eq-Decides}
use Rattle.std.proofs.lemmas.Fmt.{decimal-digits_value}
use Rattle.std.proofs.lemmas.Str.Parse.{IsNumeralModel, numerals_by_value, tells_all_ascii_digits}
use Rattle.path_model.specs.Trees.{Tree}
use Rattle.path_model.specs.Declarations.{Operation, Declaration}
use Rattle.path_lex.specs.declared.token.Sign.TheVariants as signs
use Rattle.path_lex.specs.declared.token.Reserved.TheVariants as words
use Rattle.path_lex.specs.declared.token.Class.{Class}
use Rattle.path_lex.specs.declared.token.Class.TheVariants as classes
use Rattle.path_lex.specs.Bytes.{class_of}
use Rattle.path_lex.specs.Spelling.{Piece, sign, reserved, name, number, Placed, pieces, word_len, number_len, Spells, by_end, by_space, by_mark, by_word, by_number, IsWithinPiece, AreWithin, AreTokensOf}
use Rattle.path_decl.specs.Forms.{Form, sequence, selection, LawForm, a_cell, a_tally, a_queue, ResourceForm, BoundFits, LawFits}
use Rattle.path_decl.specs.Grammar.{IsClosing, by_brace, by_bound, IsUnit, by_name, by_group, by_braces, IsAlt, by_units, MoreUnits, no_unit, one_unit, IsSeq, by_alts, MoreAlts, no_alt, one_alt, IsPath, by_path, ArePaths, no_path, one_path, AreNames, last_name, one_name, IsLaw, by_cell, by_tally, by_queue, IsResource, by_resource, IsFile, last_resource, one_resource}
use Rattle.path_decl.specs.Numerals.{IsUpTo}
use Rattle.path_decl.specs.Text.{IsDeclarationText}
use Rattle.path_read.specs.Inner.Parts.{Saying, a_resource, a_law, an_operation, a_path, a_name, file_parts, a_sequence, a_selection, an_opening, a_closing, an_end}
use Rattle.path_read.specs.Inner.Building.{Drafted, nothing, after, after_all, Allowed, AllAllowed, HasOne, HasTwo}
use Rattle.path_read.specs.Computed.{checked, token_then, tokens_from, is_within, are_within, read_tokens, Front, read_closing, read_group, read_braces, read_unit, read_name, read_units, read_alt, read_alts, read_seq, read_within, read_path_end, read_path, read_paths, read_names, read_law, read_operations, read_resource_end, read_parts, read_resource, read_resources, read_file, lacks, fits, is_own, bound_fits, law_fits, has_one, has_two, is_allowed, are_allowed, declared_in}
use Rattle.path_read.proofs.Whole.{is_read}

-- what follows from what is said of a value
still : {X : Type 0} (o : Option X) (P Q : X → Type 0) → IfSome o P → ((x : X) → P x → Q x) → IfSome o Q
still None P Q h k = tt
still (Some x) P Q h k = k x h

mapped : {X Y : Type 0} (f : X → Y) (o : Option X) (P : X → Type 0) (Q : Y → Type 0) → IfSome o P → ((x : X) → P x → Q (f x)) → IfSome (option_map f o) Q
mapped f None P Q h k = tt
mapped f (Some x) P Q h k = k x h

then_some : {X Y : Type 0} (f : X → Option Y) (o : Option X) (P : X → Type 0) (Q : Y → Type 0) → IfSome o P → ((x : X) → P x → IfSome (f x) Q) → IfSome (option_and_then f o) Q
then_some f None P Q h k = tt
then_some f (Some x) P Q h k = k x h

checked_some : {X : Type 0} (b : Bool) (x : X) (P : X → Type 0) → (b ≡ true → P x) → IfSome (checked b x) P
checked_some true x P h = h refl
checked_some false x P h = tt

both : (a b : Bool) → (a && b) ≡ true → (a ≡ true) × (b ≡ true)
both true true e = (refl, refl)
both true false e = absurd (cc)
both false true e = absurd (cc)
both false false e = absurd (cc)

neither : (a b : Bool) → cond a false b ≡ true → (a ≡ false) × (b ≡ true)
neither true b e = absurd (cc)
neither false b e = (refl, e)

-- tokens
token_spelled : (more : ℕ → List ℕ → Option (List Placed)) → ((i : ℕ) (s : List ℕ) → IfSome (more i s) (λ ts. Spells i s ts)) → (at b : ℕ) (bs : List ℕ) (c : Class) → class_of b ≡ c → IfSome (token_then more at b bs c) (λ ts. Spells at (b ∷ bs) ts)
token_spelled more h at b bs classes.Space e = still (more (at + 1) bs) _ _ (h (at + 1) bs) (λ ts r. by_space e r)
token_spelled more h at b bs (classes.Sign s) e = mapped _ (more (at + 1) bs) _ _ (h (at + 1) bs) (λ ts r. by_mark e r)
token_spelled more h at b bs classes.Letter e = mapped _ (more (at + 1 + word_len bs) (drop (word_len bs) bs)) _ _ (h _ _) (λ ts r. by_word e r)
token_spelled more h at b bs classes.Digit e = mapped _ (more (at + 1 + number_len bs) (drop (number_len bs) bs)) _ _ (h _ _) (λ ts r. by_number e r)
token_spelled more h at b bs classes.Underscore e = tt
token_spelled more h at b bs classes.Other e = tt

tokens_spelled : (n at : ℕ) (bs : List ℕ) → IfSome (tokens_from n at bs) (λ ts. Spells at bs ts)
tokens_spelled zero at bs = tt
tokens_spelled (suc n) at [] = by_end
tokens_spelled (suc n) at (b ∷ bs) = token_spelled (λ i s. tokens_from n i s) (λ i s. tokens_spelled n i s) at b bs (class_of b) refl

le_from : (a b : ℕ) → nat_le a b ≡ true → a ≤ b
le_from a b e = grind (arith, nat_tests)

lt_from : (a b : ℕ) → nat_lt a b ≡ true → a < b
lt_from a b e = grind (arith, nat_tests)

eq_from : (a b : ℕ) → (a == b) ≡ true → a ≡ b
eq_from a b e = grind (arith, nat_tests)

within_piece : (p : Piece) → is_within p ≡ true → IsWithinPiece p
within_piece (sign s) e = tt
within_piece (reserved r) e = tt
within_piece (name w) e = le_from (length w) 32 e
within_piece (number n) e = le_from (length n) 9 e

within : (ts : List Placed) → are_within ts ≡ true → AreWithin ts
within [] e = tt
within (t ∷ ts) e = let h = both (is_within t.piece) (are_within ts) e in (within_piece t.piece h.0, within ts h.1)

tokens_read : (s : List ℕ) → IfSome (read_tokens s) (λ ts. AreTokensOf s ts)
tokens_read s = then_some _ (tokens_from (suc (length s)) 0 s) (λ ts. Spells 0 s ts) _ (tokens_spelled (suc (length s)) 0 s) (λ ts r. checked_some _ ts _ (λ e. let h = both (nat_le (length s) 65536) (are_within ts) e in record { short = le_from (length s) 65536 h.0; spelled = r; within = within ts h.1 }))

-- the grammar
closing_read : (ts : List Piece) → IfSome (read_closing ts) (λ r. IsClosing ts r.1 r.0)
closing_read (sign signs.CloseBrace ∷ rest) = by_brace
closing_read (sign signs.Colon ∷ number n ∷ sign signs.CloseBrace ∷ rest) = by_bound
closing_read _ = tt

group_read : (d : ℕ) (ts : List Piece) (t : Form) (mid : List Piece) → IsSeq d ts mid t → IfSome (read_group t mid) (λ r. IsUnit (suc d) (sign signs.OpenParen ∷ ts) r.1 r.0)
group_read d ts t (sign signs.CloseParen ∷ rest) s = by_group s
group_read d ts t _ s = tt

braces_read : (d : ℕ) (ts : List Piece) (t : Form) (mid : List Piece) → IsSeq d ts mid t → IfSome (read_braces t mid) (λ r. IsUnit (suc d) (sign signs.OpenBrace ∷ ts) r.1 r.0)
braces_read d ts t mid s = mapped _ (read_closing mid) _ _ (closing_read mid) (λ c p. by_braces s p)

unit_read : (d : ℕ) (seq : List Piece → Front Form) → ((ts : List Piece) → IfSome (seq ts) (λ r. IsSeq d ts r.1 r.0)) → (ts : List Piece) → IfSome (read_unit seq ts) (λ r. IsUnit (suc d) ts r.1 r.0)
unit_read d seq h (name n ∷ rest) = by_name
unit_read d seq h (sign signs.OpenParen ∷ ts) = then_some _ (seq ts) _ _ (h ts) (λ r s. group_read d ts r.0 r.1 s)
unit_read d seq h (sign signs.OpenBrace ∷ ts) = then_some _ (seq ts) _ _ (h ts) (λ r s. braces_read d ts r.0 r.1 s)
unit_read d seq h _ = tt

name_read : (ts : List Piece) → IfSome (read_name ts) (λ r. IsUnit 0 ts r.1 r.0)
name_read (name n ∷ rest) = by_name
name_read _ = tt

module _ (d : ℕ) (unit : List Piece → Front Form) (h : (ts : List Piece) → IfSome (unit ts) (λ r. IsUnit d ts r.1 r.0)) where
  units_read : (n : ℕ) (s : Form) (ts : List Piece) → IfSome (read_units unit n s ts) (λ r. MoreUnits d s ts r.1 r.0)
  units_read zero s ts = no_unit
  units_read (suc n) s (sign signs.Comma ∷ ts) = then_some _ (unit ts) _ _ (h ts) (λ r u. still _ _ _ (units_read n (selection s r.0) r.1) (λ q m. one_unit u m))
  units_read (suc n) s _ = no_unit

  alt_read : (n : ℕ) (ts : List Piece) → IfSome (read_alt unit n ts) (λ r. IsAlt d ts r.1 r.0)
  alt_read n ts = then_some _ (unit ts) _ _ (h ts) (λ r u. still _ _ _ (units_read n r.0 r.1) (λ q m. by_units u m))

  alts_read : (n : ℕ) (s : Form) (ts : List Piece) → IfSome (read_alts unit n s ts) (λ r. MoreAlts d s ts r.1 r.0)
  alts_read zero s ts = no_alt
  alts_read (suc n) s (sign signs.Semicolon ∷ ts) = then_some _ (read_alt unit n ts) _ _ (alt_read n ts) (λ r a. still _ _ _ (alts_read n (sequence s r.0) r.1) (λ q m. one_alt a m))
  alts_read (suc n) s _ = no_alt

  seq_read : (n : ℕ) (ts : List Piece) → IfSome (read_seq unit n ts) (λ r. IsSeq d ts r.1 r.0)
  seq_read n ts = then_some _ (read_alt unit n ts) _ _ (alt_read n ts) (λ r a. still _ _ _ (alts_read n r.0 r.1) (λ q m. by_alts a m))

within_read : (d n : ℕ) (ts : List Piece) → IfSome (read_within d n ts) (λ r. IsSeq d ts r.1 r.0)
within_read zero n ts = seq_read 0 read_name name_read n ts
within_read (suc d) n ts = seq_read (suc d) (read_unit (λ s. read_within d n s)) (unit_read d (λ s. read_within d n s) (within_read d n)) n ts

path_ended : (ts : List Piece) (t : Form) (mid : List Piece) → IsSeq 32 ts mid t → IfSome (read_path_end t mid) (λ r. IsPath (reserved words.Path ∷ ts) r.1 r.0)
path_ended ts t (reserved words.End ∷ rest) s = by_path s
path_ended ts t _ s = tt

path_read : (n : ℕ) (ts : List Piece) → IfSome (read_path n ts) (λ r. IsPath (reserved words.Path ∷ ts) r.1 r.0)
path_read n ts = then_some _ (read_within 32 n ts) _ _ (within_read 32 n ts) (λ r s. path_ended ts r.0 r.1 s)

paths_read : (n : ℕ) (ts : List Piece) → IfSome (read_paths n ts) (λ r. ArePaths ts r.1 r.0)
paths_read zero ts = no_path
paths_read (suc n) (reserved words.Path ∷ ts) = then_some _ (read_path n ts) _ _ (path_read n ts) (λ r p. mapped _ (read_paths n r.1) _ _ (paths_read n r.1) (λ q ps. one_path p ps))
paths_read (suc n) _ = no_path

names_read : (n : ℕ) (ts : List Piece) → IfSome (read_names n ts) (λ r. AreNames ts r.1 r.0)
names_read zero ts = tt
names_read (suc n) (name w ∷ sign signs.Comma ∷ ts) = mapped _ (read_names n ts) _ _ (names_read n ts) (λ r ns. one_name ns)
names_read (suc n) (name w ∷ _) = last_name
names_read (suc n) _ = tt

law_read : (ts : List Piece) → IfSome (read_law ts) (λ r. IsLaw ts r.1 r.0)
law_read (reserved words.Cell ∷ rest) = by_cell
law_read (reserved words.Tally ∷ rest) = by_tally
law_read (reserved words.Queue ∷ number n ∷ rest) = by_queue
law_read _ = tt

abbrev AreOperations : List Piece → List Piece → List (List ℕ) → Type 0
AreOperations ts rest os = (us : List Piece) × (ts ≡ reserved words.Operation ∷ us) × AreNames us rest os

operations_read : (n : ℕ) (ts : List Piece) → IfSome (read_operations n ts) (λ r. AreOperations ts r.1 r.0)
operations_read n (reserved words.Operation ∷ ts) = still (read_names n ts) _ _ (names_read n ts) (λ r ns. (ts, refl, ns))
operations_read n _ = tt

resource_ended : (w : List ℕ) (ls ts us mid ends : List Piece) (l : LawForm) (os : List (List ℕ)) (ps : List Form) → IsLaw ls ts l → ts ≡ reserved words.Operation ∷ us → AreNames us mid os → ArePaths mid ends ps
    → IfSome (read_resource_end w l os ps ends) (λ r. IsResource (reserved words.Resource ∷ name w ∷ ls) r.1 r.0)
resource_ended w ls ts us mid (reserved words.End ∷ rest) l os ps a e ns p = by_resource (subst (λ x. IsLaw ls x l) e a) ns p
resource_ended w ls ts us mid _ l os ps a e ns p = tt

parts_read : (n : ℕ) (w : List ℕ) (ls ts : List Piece) (l : LawForm) → IsLaw ls ts l → IfSome (read_parts n w l ts) (λ r. IsResource (reserved words.Resource ∷ name w ∷ ls) r.1 r.0)
parts_read n w ls ts l a =
    then_some _ (read_operations n ts) _ _ (operations_read n ts) (λ os o. then_some _ (read_paths n os.1) _ _ (paths_read n os.1) (λ ps p. resource_ended w ls ts o.0 os.1 ps.1 l os.0 ps.0 a o.1 o.2 p))

resource_read : (n : ℕ) (ts : List Piece) → IfSome (read_resource n ts) (λ r. IsResource ts r.1 r.0)
resource_read n (reserved words.Resource ∷ name w ∷ ls) = then_some _ (read_law ls) _ _ (law_read ls) (λ l a. parts_read n w ls l.1 l.0 a)
resource_read n _ = tt

resources_read : (more : List Piece → Option (List ResourceForm)) → ((ts : List Piece) → IfSome (more ts) (λ rs. IsFile ts rs)) → (us : List Piece) (r : ResourceForm) (ts : List Piece) → IsResource us ts r → IfSome (read_resources more r ts) (λ rs. IsFile us rs)
resources_read more h us r [] q = last_resource q
resources_read more h us r (t ∷ ts) q = mapped _ (more (t ∷ ts)) _ _ (h (t ∷ ts)) (λ rs f. one_resource q f)

file_read : (n : ℕ) (ts : List Piece) → IfSome (read_file n ts) (λ rs. IsFile ts rs)
file_read zero ts = tt
file_read (suc n) ts = then_some _ (read_resource n ts) _ _ (resource_read n ts) (λ r q. resources_read (λ s. read_file n s) (λ s. file_read n s) ts r.0 r.1 q)

-- the rules
lacks_at : (ms : List (List ℕ)) (n : List ℕ) → lacks ms n ≡ true → (k : ℕ) → k < length ms → get_or ms k n ≡ n → ⊥
lacks_at [] n h k lt e = absurd (omega (arith, lt))
lacks_at (m ∷ ms) n h zero lt e = let t = (bytes_eq-Decides m n).1 e in let f = neither (bytes_eq m n) (lacks ms n) h in absurd (cc)
lacks_at (m ∷ ms) n h (suc k) lt e = lacks_at ms n (neither (bytes_eq m n) (lacks ms n) h).1 k (omega (arith, lt)) e

lacking : (ms : List (List ℕ)) (n : List ℕ) → lacks ms n ≡ true → Contains ms n → ⊥
lacking ms n h c = lacks_at ms n h c.0 c.1 c.2

numeral : IsNumeralModel (λ ds. all_ascii_digits ds ≡ true) (digits_value 10)
numeral = numerals_by_value (λ ds. all_ascii_digits ds ≡ true) tells_all_ascii_digits

denoted : (d : ℕ) (ds : List ℕ) → all_ascii_digits (d ∷ ds) ≡ true → 48 < d → digits_value 10 (d ∷ ds) < 2 ^ 64 → d ∷ ds ≡ decimal (digits_value 10 (d ∷ ds))
denoted d ds e lt small = sym (decimal-digits_value numeral (d ∷ ds) e (omega arith) (λ z. absurd (omega (arith, lt, z))) small)

fitting : (most : ℕ) (ds : List ℕ) → most ≤ 65535 → fits most ds ≡ true → IsUpTo most ds
fitting most [] m e = absurd (cc)
fitting most (d ∷ ds) m e =
    let h = both _ _ e in
    let k = both _ _ h.0 in
    let l = both _ _ k.0 in
    let le : digits_value 10 (d ∷ ds) ≤ most = le_from _ _ h.1 in
    record { number = digits_value 10 (d ∷ ds); denoted = denoted d ds l.0 (lt_from _ _ l.1) (omega (arith, le, m)); positive = lt_from _ _ k.1; within = le }

bound_fitting : (b : Option (List ℕ)) → bound_fits b ≡ true → BoundFits b
bound_fitting None e = tt
bound_fitting (Some ds) e = fitting 65535 ds (omega arith) e

law_fitting : (l : LawForm) → law_fits l ≡ true → LawFits l
law_fitting a_cell e = tt
law_fitting a_tally e = tt
law_fitting (a_queue ds) e = fitting 1024 ds (omega arith) e

one : (ts : List Tree) → has_one ts ≡ true → HasOne ts
one [] e = absurd (cc)
one (t ∷ ts) e = tt

two : (ts : List Tree) → has_two ts ≡ true → HasTwo ts
two [] e = absurd (cc)
two (t ∷ []) e = absurd (cc)
two (t ∷ s ∷ ts) e = tt

same_operation : (o : Operation) (n : List ℕ) (r : ℕ) → o.name ≡ n → o.resource ≡ r → o ≡ record { name = n; resource = r }
same_operation o n r e f = ap (λ (m : List ℕ). record o { name = m }) e ∙ ap (λ (k : ℕ). record { name = n; resource = k }) f

own : (n : List ℕ) (r : ℕ) (o : Option Operation) → is_own n r o ≡ true → o ≡ Some (record { name = n; resource = r })
own n r None e = absurd (cc)
own n r (Some o) e = let h = both _ _ e in ap Some (same_operation o n r ((bytes_eq-Decides o.name n).0 h.0) (eq_from o.resource r h.1))

allowed : (p : Saying) (d : Drafted) → is_allowed p d ≡ true → Allowed p d
allowed (a_resource n) d e = let h = both _ _ e in (lacking _ n h.0, lt_from _ _ h.1)
allowed (a_law l) d e = law_fitting l e
allowed (an_operation n) d e = let h = both _ _ e in (lacking _ n h.0, lt_from _ _ h.1)
allowed a_path d e = lt_from _ _ e
allowed (a_name n) d e = let h = both _ _ e in let k = both _ _ h.0 in record { own = own n d.resource _ k.0; new = lacking d.named n k.1; room = lt_from _ _ h.1 }
allowed a_sequence d e = two d.open_trees e
allowed a_selection d e = two d.open_trees e
allowed an_opening d e = eq_from d.braces 0 e
allowed (a_closing b) d e = let h = both _ _ e in (one d.open_trees h.0, bound_fitting b h.1)
allowed an_end d e = one d.open_trees e

all_allowed : (ps : List Saying) (d : Drafted) → are_allowed ps d ≡ true → AllAllowed ps d
all_allowed [] d e = tt
all_allowed (p ∷ ps) d e = let h = both (is_allowed p d) (are_allowed ps (after p d)) e in (allowed p d h.0, all_allowed ps (after p d) h.1)

computed : (s : List ℕ) → IfSome (declared_in s) (λ d. IsDeclarationText s d)
unfolding declared_in
computed s = then_some _ (read_tokens s) _ _ (tokens_read s) (λ ts t. then_some _ (read_file (suc (length ts)) (pieces ts)) _ _ (file_read (suc (length ts)) (pieces ts))
    (λ rs f. checked_some (are_allowed (file_parts rs) nothing) _ _ (λ e. is_read s ts rs (after_all (file_parts rs) nothing) t f (all_allowed (file_parts rs) nothing e) refl)))

-- a text is a text of the declaration that is computed of it
pub is_text : (s : List ℕ) (d : Declaration) → declared_in s ≡ Some d → IsDeclarationText s d
is_text s d e = subst (λ o. IfSome o (λ x. IsDeclarationText s x)) e (computed s)
