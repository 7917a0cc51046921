-- How forms are printed, and that a tree with the numbers of their names has the same print.
use Rattle.std.proofs.Common.{◌≡◌, ℕ, List, [], ◌∷◌, ◌++◌, map, slice_get, Option, Some, None, option_map, unwrap_or, refl, sym, ap, ◌∙◌}
use Rattle.std.proofs.lemmas.Option.{slice_get-map}
use Rattle.path_model.specs.declared.resource.Law.{Law}
use Rattle.path_model.specs.Trees.{Bound, any, most, Tree, op, seq, alt, burst}
use Rattle.path_model.specs.Declarations.{Operation}
use Rattle.path_lex.specs.declared.token.Sign.TheVariants as signs
use Rattle.path_lex.specs.declared.token.Reserved.TheVariants as words
use Rattle.path_print.specs.declared.printer.Place.{Place}
use Rattle.path_print.specs.declared.printer.Place.TheVariants.{InSeq, InAlt, InUnit}
use Rattle.path_lex.specs.Spelling.{Piece, sign, reserved, name, number}
use Rattle.path_decl.specs.Forms.{Form, once, sequence, selection, braced, LawForm, a_cell, a_tally, a_queue, ResourceForm}
use Rattle.path_decl.specs.Declares.{IsBound, IsLawOf, Numbers}
use Rattle.path_print.specs.Printed.{wraps_seq, wraps_alt, wrapped, bound_pieces, tree_pieces, names_pieces, law_pieces}

-- the tokens of a bound with these digits, or of none
abbrev pub digits_pieces : Option (List ℕ) → List Piece
digits_pieces None = []
digits_pieces (Some ds) = sign signs.Colon ∷ number ds ∷ []

-- the tokens of a form
abbrev pub form_pieces : Form → Place → List Piece
form_pieces (once n) place = name n ∷ []
form_pieces (sequence f g) place = wrapped (wraps_seq place) (form_pieces f InSeq ++ sign signs.Semicolon ∷ form_pieces g InAlt)
form_pieces (selection f g) place = wrapped (wraps_alt place) (form_pieces f InAlt ++ sign signs.Comma ∷ form_pieces g InUnit)
form_pieces (braced c f) place = sign signs.OpenBrace ∷ (form_pieces f InSeq ++ (digits_pieces c ++ sign signs.CloseBrace ∷ []))

-- the tokens of a path with this form
abbrev pub path_form : Form → List Piece
path_form f = reserved words.Path ∷ (form_pieces f InSeq ++ reserved words.End ∷ [])

-- the tokens of paths, one after the other
abbrev pub path_forms : List Form → List Piece
path_forms [] = []
path_forms (f ∷ fs) = path_form f ++ path_forms fs

-- the tokens of a law with these digits
abbrev pub law_form : LawForm → List Piece
law_form a_cell = reserved words.Cell ∷ []
law_form a_tally = reserved words.Tally ∷ []
law_form (a_queue ds) = reserved words.Queue ∷ number ds ∷ []

-- the tokens of a resource with this form before the names of its operations
abbrev pub head_form : ResourceForm → List Piece
head_form r = reserved words.Resource ∷ name r.name ∷ (law_form r.law ++ reserved words.Operation ∷ [])

-- the tokens of a resource with this form
abbrev pub resource_form : ResourceForm → List Piece
resource_form r = head_form r ++ (names_pieces r.operations ++ (path_forms r.paths ++ reserved words.End ∷ []))

-- the tokens of resources, one after the other
abbrev pub resource_forms : List ResourceForm → List Piece
resource_forms [] = []
resource_forms (r ∷ rs) = resource_form r ++ resource_forms rs

name_at : (os : List Operation) (a : ℕ) (n : List ℕ) → slice_get (map (λ o. o.name) os) a ≡ Some n → unwrap_or (option_map (λ o. o.name) (slice_get os a)) [] ≡ n
name_at os a n e = ap (λ o. unwrap_or o []) (sym (slice_get-map (λ o. o.name) os a) ∙ e)

bound_form : (c : Option (List ℕ)) (b : Bound) → IsBound c b → bound_pieces b ≡ digits_pieces c
bound_form None any h = refl
bound_form None (most n) h = absurd h
bound_form (Some ds) any h = absurd h
bound_form (Some ds) (most n) h = ap (λ x. sign signs.Colon ∷ number x ∷ []) (sym h)

-- a law is printed as it stands in its form
pub printed_law : (f : LawForm) (l : Law) → IsLawOf f l → law_pieces l ≡ law_form f
printed_law a_cell l h = ap law_pieces h
printed_law a_tally l h = ap law_pieces h
printed_law (a_queue ds) l h = ap law_pieces h.2 ∙ ap (λ x. reserved words.Queue ∷ number x ∷ []) (sym h.1)

pub tree_form : (os : List Operation) (f : Form) (t : Tree) (place : Place) → Numbers (map (λ o. o.name) os) f t → tree_pieces os t place ≡ form_pieces f place
tree_form os (once n) (op a) place h = ap (λ m. name m ∷ []) (name_at os a.0 n h)
tree_form os (once n) (seq s t) place h = absurd h
tree_form os (once n) (alt s t) place h = absurd h
tree_form os (once n) (burst b s) place h = absurd h
tree_form os (sequence f g) (seq s t) place h = rw (tree_form os f s InSeq h.0, tree_form os g t InAlt h.1) refl
tree_form os (sequence f g) (op a) place h = absurd h
tree_form os (sequence f g) (alt s t) place h = absurd h
tree_form os (sequence f g) (burst b s) place h = absurd h
tree_form os (selection f g) (alt s t) place h = rw (tree_form os f s InAlt h.0, tree_form os g t InUnit h.1) refl
tree_form os (selection f g) (op a) place h = absurd h
tree_form os (selection f g) (seq s t) place h = absurd h
tree_form os (selection f g) (burst b s) place h = absurd h
tree_form os (braced c f) (burst b s) place h = rw (bound_form c b h.0, tree_form os f s InSeq h.1) refl
tree_form os (braced c f) (op a) place h = absurd h
tree_form os (braced c f) (seq s t) place h = absurd h
tree_form os (braced c f) (alt s t) place h = absurd h
