-- How the bytes of tokens join.
use Rattle.std.proofs.Common.{◌≡◌, ℕ, Bool, true, false, List, [], ◌∷◌, ◌++◌, refl, sym, ap, ◌∙◌, append_assoc, append-nil, codes, if◌then◌else◌}
use Rattle.path_lex.specs.declared.token.Sign.TheVariants as signs
use Rattle.path_lex.specs.Spelling.{Piece, sign}
use Rattle.std.specs.Fmt.{decimal}
use Rattle.path_print.specs.Printed.{bound_pieces, gap, piece_text, spaced, wrapped, tree_pieces, path_pieces}
use Rattle.path_print.specs.declared.printer.Place.TheVariants.{InSeq}
use Rattle.path_model.specs.Trees.{Tree, most}
use Rattle.path_model.specs.Declarations.{Operation}

pub spaced-append : (ps qs : List Piece) → spaced (ps ++ qs) ≡ spaced ps ++ spaced qs
spaced-append [] qs = refl
spaced-append (p ∷ ps) qs = rw (spaced-append ps qs) (ap (λ x. gap p ++ x) (sym (append_assoc (piece_text p) (spaced ps) (spaced qs))) ∙ sym (append_assoc (gap p) (piece_text p ++ spaced ps) (spaced qs)))

-- after these bytes the tokens, in parentheses or not
pub spaced-wrapped : (w : Bool) (out : List ℕ) (ps qs : List Piece) (s : Piece) →
    ((((out ++ (if w then 32 ∷ 40 ∷ [] else [])) ++ spaced ps) ++ spaced (s ∷ [])) ++ spaced qs) ++ (if w then 32 ∷ 41 ∷ [] else []) ≡ out ++ spaced (wrapped w (ps ++ s ∷ qs))
spaced-wrapped true out ps qs s = simp (append_assoc, spaced-append) refl
spaced-wrapped false out ps qs s = simp (append_assoc, spaced-append, append-nil) refl

pub spaced-braces : (out : List ℕ) (ps : List Piece) →
    ((out ++ 32 ∷ 123 ∷ []) ++ spaced ps) ++ 32 ∷ 125 ∷ [] ≡ out ++ spaced (sign signs.OpenBrace ∷ (ps ++ sign signs.CloseBrace ∷ []))
spaced-braces out ps = simp (append_assoc, spaced-append) refl

pub spaced-counted : (out : List ℕ) (ps : List Piece) (n : ℕ) →
    ((out ++ 32 ∷ 123 ∷ []) ++ spaced ps) ++ (58 ∷ 32 ∷ (decimal n ++ 32 ∷ 125 ∷ [])) ≡ out ++ spaced (sign signs.OpenBrace ∷ (ps ++ (bound_pieces (most n) ++ sign signs.CloseBrace ∷ [])))
spaced-counted out ps n = simp (append_assoc, spaced-append) refl

-- after these bytes a path
pub spaced-path : (out : List ℕ) (os : List Operation) (t : Tree) →
    ((out ++ codes " path") ++ spaced (tree_pieces os t InSeq)) ++ codes " end" ≡ out ++ spaced (path_pieces os t)
spaced-path out os t = simp (append_assoc, spaced-append) refl

-- what the code writes of a tree
pub ruleset tree_texts = (spaced-wrapped, spaced-braces, spaced-counted)

-- and of a path
pub ruleset path_texts = (spaced-path)
