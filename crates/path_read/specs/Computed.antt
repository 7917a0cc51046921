-- The declaration of a text, as a function that a proof can compute. Where it gives none, nothing is said of the text.
--
-- A caller whose text is a constant shows by `refl` what it declares, in a definition with the line `unfolding declared_in`:
-- `is_text TEXT.now d refl`, of path_read's proofs/CallerLemmas.antt, then has the type `IsDeclarationText TEXT.now d`.
use Rattle.std.specs.Prelude.{◌≡◌, ℕ, zero, suc, ◌+◌, ◌==◌, Bool, true, false, ◌&&◌, if◌then◌else◌, nat_lt, nat_le}
use Rattle.std.specs.Prelude.{List, [], ◌∷◌, length, take, drop, slice_get, Option, Some, None, option_and_then, option_map}
use Rattle.std.specs.Str.{bytes_eq, all_ascii_digits}
use Rattle.std.specs.Str.Parse.{digits_value}
use Rattle.path_model.specs.Trees.{Tree}
use Rattle.path_model.specs.Declarations.{Operation, Declaration}
use Rattle.path_lex.specs.declared.token.Sign.TheVariants as signs
use Rattle.path_lex.specs.declared.token.Reserved.TheVariants as words
use Rattle.path_lex.specs.declared.token.Class.{Class}
use Rattle.path_lex.specs.declared.token.Class.TheVariants as classes
use Rattle.path_lex.specs.Bytes.{class_of}
use Rattle.path_lex.specs.Names.{reserved_of}
use Rattle.path_lex.specs.Spelling.{Piece, sign, reserved, name, number, Placed, placed, pieces, word, word_len, number_len}
use Rattle.path_decl.specs.Text.{IsDeclarationText}
use Rattle.path_decl.specs.Forms.{Form, once, sequence, selection, braced, LawForm, a_cell, a_tally, a_queue, ResourceForm}
use Rattle.path_read.specs.Inner.Parts.{Saying, a_resource, a_law, an_operation, a_path, a_name, file_parts}
use Rattle.path_read.specs.Inner.Parts.{a_sequence, a_selection, an_opening, a_closing, an_end}
use Rattle.path_read.specs.Inner.Building.{Drafted, nothing, declared_by, resource_names, operation_names, number_of, after, after_all}

-- the value, if the test holds
abbrev pub checked : {X : Type 0} → Bool → X → Option X
checked true x = Some x
checked false x = None

-- the tokens from a byte of that class on, where `more` gives the tokens of the bytes at an offset
abbrev pub token_then : (ℕ → List ℕ → Option (List Placed)) → ℕ → ℕ → List ℕ → Class → Option (List Placed)
token_then more at b bs classes.Space = more (at + 1) bs
token_then more at b bs (classes.Sign s) = option_map (λ ts. placed (sign s) at ∷ ts) (more (at + 1) bs)
token_then more at b bs classes.Letter =
    option_map (λ ts. placed (word (b ∷ take (word_len bs) bs)) at ∷ ts) (more (at + 1 + word_len bs) (drop (word_len bs) bs))
token_then more at b bs classes.Digit =
    option_map (λ ts. placed (number (b ∷ take (number_len bs) bs)) at ∷ ts) (more (at + 1 + number_len bs) (drop (number_len bs) bs))
token_then more at b bs classes.Underscore = None
token_then more at b bs classes.Other = None

-- the tokens of fewer than n bytes that begin at that offset
abbrev pub tokens_from : ℕ → ℕ → List ℕ → Option (List Placed)
tokens_from zero at bs = None
tokens_from (suc n) at [] = Some []
tokens_from (suc n) at (b ∷ bs) = token_then (λ i s. tokens_from n i s) at b bs (class_of b)

abbrev pub is_within : Piece → Bool
is_within (sign s) = true
is_within (reserved r) = true
is_within (name w) = nat_le (length w) 32
is_within (number n) = nat_le (length n) 9

abbrev pub are_within : List Placed → Bool
are_within [] = true
are_within (t ∷ ts) = is_within t.piece && are_within ts

-- the tokens of a text, if both are within the limits
abbrev pub read_tokens : List ℕ → Option (List Placed)
read_tokens s = option_and_then (λ ts. checked (nat_le (length s) 65536 && are_within ts) ts) (tokens_from (suc (length s)) 0 s)

-- what the first pieces are, and the pieces after it
abbrev pub Front : Type 0 → Type 0
Front X = Option (X × List Piece)

abbrev pub read_closing : List Piece → Front (Option (List ℕ))
read_closing (sign signs.CloseBrace ∷ rest) = Some (None, rest)
read_closing (sign signs.Colon ∷ number n ∷ sign signs.CloseBrace ∷ rest) = Some (Some n, rest)
read_closing _ = None

-- the form, if its parenthesis is closed
abbrev pub read_group : Form → List Piece → Front Form
read_group t (sign signs.CloseParen ∷ rest) = Some (t, rest)
read_group t _ = None

-- the form in its braces
abbrev pub read_braces : Form → List Piece → Front Form
read_braces t ts = option_map (λ c. (braced c.0 t, c.1)) (read_closing ts)

-- a unit, where `seq` reads what is inside parentheses and braces
abbrev pub read_unit : (List Piece → Front Form) → List Piece → Front Form
read_unit seq (name n ∷ rest) = Some (once n, rest)
read_unit seq (sign signs.OpenParen ∷ ts) = option_and_then (λ r. read_group r.0 r.1) (seq ts)
read_unit seq (sign signs.OpenBrace ∷ ts) = option_and_then (λ r. read_braces r.0 r.1) (seq ts)
read_unit seq _ = None

-- a unit where nothing more can be opened
abbrev pub read_name : List Piece → Front Form
read_name (name n ∷ rest) = Some (once n, rest)
read_name _ = None

-- up to n further units, each after a comma
abbrev pub read_units : (List Piece → Front Form) → ℕ → Form → List Piece → Front Form
read_units unit zero s ts = Some (s, ts)
read_units unit (suc n) s (sign signs.Comma ∷ ts) = option_and_then (λ r. read_units unit n (selection s r.0) r.1) (unit ts)
read_units unit (suc n) s ts = Some (s, ts)

abbrev pub read_alt : (List Piece → Front Form) → ℕ → List Piece → Front Form
read_alt unit n ts = option_and_then (λ r. read_units unit n r.0 r.1) (unit ts)

-- up to n further alternatives, each after a semicolon
abbrev pub read_alts : (List Piece → Front Form) → ℕ → Form → List Piece → Front Form
read_alts unit zero s ts = Some (s, ts)
read_alts unit (suc n) s (sign signs.Semicolon ∷ ts) = option_and_then (λ r. read_alts unit n (sequence s r.0) r.1) (read_alt unit n ts)
read_alts unit (suc n) s ts = Some (s, ts)

abbrev pub read_seq : (List Piece → Front Form) → ℕ → List Piece → Front Form
read_seq unit n ts = option_and_then (λ r. read_alts unit n r.0 r.1) (read_alt unit n ts)

-- a sequence in which at most d parentheses and braces are open at once, and no list has more than n parts
abbrev pub read_within : ℕ → ℕ → List Piece → Front Form
read_within zero n ts = read_seq read_name n ts
read_within (suc d) n ts = read_seq (read_unit (λ s. read_within d n s)) n ts

-- the form, if its path ends
abbrev pub read_path_end : Form → List Piece → Front Form
read_path_end t (reserved words.End ∷ rest) = Some (t, rest)
read_path_end t _ = None

-- a path after its first word
abbrev pub read_path : ℕ → List Piece → Front Form
read_path n ts = option_and_then (λ r. read_path_end r.0 r.1) (read_within 32 n ts)

-- up to n paths
abbrev pub read_paths : ℕ → List Piece → Front (List Form)
read_paths zero ts = Some ([], ts)
read_paths (suc n) (reserved words.Path ∷ ts) =
    option_and_then (λ p. option_map (λ ps. (p.0 ∷ ps.0, ps.1)) (read_paths n p.1)) (read_path n ts)
read_paths (suc n) ts = Some ([], ts)

-- up to n names
abbrev pub read_names : ℕ → List Piece → Front (List (List ℕ))
read_names zero ts = None
read_names (suc n) (name w ∷ sign signs.Comma ∷ ts) = option_map (λ r. (w ∷ r.0, r.1)) (read_names n ts)
read_names (suc n) (name w ∷ ts) = Some (w ∷ [], ts)
read_names (suc n) _ = None

abbrev pub read_law : List Piece → Front LawForm
read_law (reserved words.Cell ∷ rest) = Some (a_cell, rest)
read_law (reserved words.Tally ∷ rest) = Some (a_tally, rest)
read_law (reserved words.Queue ∷ number n ∷ rest) = Some (a_queue n, rest)
read_law _ = None

abbrev pub read_operations : ℕ → List Piece → Front (List (List ℕ))
read_operations n (reserved words.Operation ∷ ts) = read_names n ts
read_operations n _ = None

-- the resource, if it ends
abbrev pub read_resource_end : List ℕ → LawForm → List (List ℕ) → List Form → List Piece → Front ResourceForm
read_resource_end w l os ps (reserved words.End ∷ rest) = Some (record { name = w; law = l; operations = os; paths = ps }, rest)
read_resource_end w l os ps _ = None

-- the resource with this name and law
abbrev pub read_parts : ℕ → List ℕ → LawForm → List Piece → Front ResourceForm
read_parts n w l ts =
    option_and_then (λ os. option_and_then (λ ps. read_resource_end w l os.0 ps.0 ps.1) (read_paths n os.1)) (read_operations n ts)

abbrev pub read_resource : ℕ → List Piece → Front ResourceForm
read_resource n (reserved words.Resource ∷ name w ∷ ls) = option_and_then (λ l. read_parts n w l.0 l.1) (read_law ls)
read_resource n _ = None

-- the resource, and those that `more` reads of further pieces
abbrev pub read_resources : (List Piece → Option (List ResourceForm)) → ResourceForm → List Piece → Option (List ResourceForm)
read_resources more r [] = Some (r ∷ [])
read_resources more r (t ∷ ts) = option_map (λ rs. r ∷ rs) (more (t ∷ ts))

-- up to n resources, each with at most as many operations and paths
abbrev pub read_file : ℕ → List Piece → Option (List ResourceForm)
read_file zero ts = None
read_file (suc n) ts = option_and_then (λ r. read_resources (λ s. read_file n s) r.0 r.1) (read_resource n ts)

-- none of the names is this one
abbrev pub lacks : List (List ℕ) → List ℕ → Bool
lacks [] n = true
lacks (m ∷ ms) n = if bytes_eq m n then false else lacks ms n

-- the digits denote a number from 1 to `most`: digits alone, of which 0 isn't the first
abbrev pub fits : ℕ → List ℕ → Bool
fits most [] = false
fits most (d ∷ ds) =
    all_ascii_digits (d ∷ ds) && nat_lt 48 d && nat_lt 0 (digits_value 10 (d ∷ ds)) && nat_le (digits_value 10 (d ∷ ds)) most

-- it is the operation of that name and resource
abbrev pub is_own : List ℕ → ℕ → Option Operation → Bool
is_own n r None = false
is_own n r (Some o) = bytes_eq o.name n && o.resource == r

abbrev pub bound_fits : Option (List ℕ) → Bool
bound_fits None = true
bound_fits (Some ds) = fits 65535 ds

abbrev pub law_fits : LawForm → Bool
law_fits a_cell = true
law_fits a_tally = true
law_fits (a_queue ds) = fits 1024 ds

abbrev pub has_one : List Tree → Bool
has_one [] = false
has_one (t ∷ ts) = true

abbrev pub has_two : List Tree → Bool
has_two [] = false
has_two (t ∷ ts) = has_one ts

-- the draft may take the part
abbrev pub is_allowed : Saying → Drafted → Bool
is_allowed (a_resource n) d = lacks (resource_names d) n && nat_lt (length d.resources) 64
is_allowed (a_law l) d = law_fits l
is_allowed (an_operation n) d = lacks (operation_names d.operations) n && nat_lt (length d.operations) 256
is_allowed a_path d = nat_lt (length d.paths) 256
is_allowed (a_name n) d =
    is_own n d.resource (slice_get d.operations (number_of d.operations n)) && lacks d.named n && nat_lt (length d.named) 64
is_allowed a_sequence d = has_two d.open_trees
is_allowed a_selection d = has_two d.open_trees
is_allowed an_opening d = d.braces == 0
is_allowed (a_closing b) d = has_one d.open_trees && bound_fits b
is_allowed an_end d = has_one d.open_trees

abbrev pub are_allowed : List Saying → Drafted → Bool
are_allowed [] d = true
are_allowed (p ∷ ps) d = is_allowed p d && are_allowed ps (after p d)

-- the declaration of these forms, if they keep the rules and the limits
abbrev pub kept : List ResourceForm → Option Declaration
kept rs = checked (are_allowed (file_parts rs) nothing) (declared_by (after_all (file_parts rs) nothing))

-- the declaration of a text
unfoldable pub declared_in : List ℕ → Option Declaration
unfolding class_of reserved_of
declared_in s = option_and_then (λ ts. option_and_then kept (read_file (suc (length ts)) (pieces ts))) (read_tokens s)

-- what is computed of a text is what it declares
abbrev pub EachComputedDeclarationIsDeclared : Type 0
EachComputedDeclarationIsDeclared = (s : List ℕ) (d : Declaration) → declared_in s ≡ Some d → IsDeclarationText s d
