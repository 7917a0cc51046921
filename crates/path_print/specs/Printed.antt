-- The printed text of a declaration.
use Rattle.std.specs.Prelude.{ℕ, ◌+◌, ◌==◌, Bool, true, false, List, [], ◌∷◌, ◌++◌, map, filter, slice_get, option_map, unwrap_or, codes}
use Rattle.std.specs.Prelude.{Option, Some, None}
use Rattle.std.specs.Fmt.{decimal}
use Rattle.path_model.specs.declared.ids.OpId.{OpId}
use Rattle.path_model.specs.declared.ids.PathId.{PathId}
use Rattle.path_model.specs.declared.resource.Law.{Law}
use Rattle.path_model.specs.declared.resource.Law.TheVariants as laws
use Rattle.path_model.specs.Trees.{Bound, any, most, Tree, op, seq, alt, burst}
use Rattle.path_model.specs.Declarations.{Resource, Operation, Path, Declaration}
use Rattle.path_lex.specs.declared.token.Sign.{Sign}
use Rattle.path_lex.specs.declared.token.Sign.TheVariants as signs
use Rattle.path_lex.specs.declared.token.Reserved.{Reserved}
use Rattle.path_lex.specs.declared.token.Reserved.TheVariants as words
use Rattle.path_print.specs.declared.printer.Place.{Place}
use Rattle.path_print.specs.declared.printer.Place.TheVariants.{InSeq, InAlt, InUnit}
use Rattle.path_lex.specs.Spelling.{Piece, sign, reserved, name, number}

-- the byte of a sign
abbrev pub sign_byte : Sign → ℕ
sign_byte signs.Semicolon = 59
sign_byte signs.Comma = 44
sign_byte signs.Colon = 58
sign_byte signs.OpenParen = 40
sign_byte signs.CloseParen = 41
sign_byte signs.OpenBrace = 123
sign_byte signs.CloseBrace = 125

-- the bytes of a reserved word
abbrev pub reserved_text : Reserved → List ℕ
reserved_text words.Resource = codes "resource"
reserved_text words.Operation = codes "operation"
reserved_text words.Path = codes "path"
reserved_text words.End = codes "end"
reserved_text words.Cell = codes "cell"
reserved_text words.Tally = codes "tally"
reserved_text words.Queue = codes "queue"

-- the bytes of a token
abbrev pub piece_text : Piece → List ℕ
piece_text (sign s) = sign_byte s ∷ []
piece_text (reserved r) = reserved_text r
piece_text (name n) = n
piece_text (number n) = n

-- what precedes a sign: nothing before `,`, `;` or `:`, else a space
abbrev pub sign_gap : Sign → List ℕ
sign_gap signs.Semicolon = []
sign_gap signs.Comma = []
sign_gap signs.Colon = []
sign_gap signs.OpenParen = 32 ∷ []
sign_gap signs.CloseParen = 32 ∷ []
sign_gap signs.OpenBrace = 32 ∷ []
sign_gap signs.CloseBrace = 32 ∷ []

-- what precedes a token that isn't the first
abbrev pub gap : Piece → List ℕ
gap (sign s) = sign_gap s
gap (reserved r) = 32 ∷ []
gap (name n) = 32 ∷ []
gap (number n) = 32 ∷ []

-- tokens that aren't the first
abbrev pub spaced : List Piece → List ℕ
spaced [] = []
spaced (p ∷ ps) = gap p ++ (piece_text p ++ spaced ps)

-- the text of these tokens: nothing before the first, and a line feed at the end
abbrev pub laid : List Piece → List ℕ
laid [] = 10 ∷ []
laid (p ∷ ps) = piece_text p ++ (spaced ps ++ 10 ∷ [])

-- a sequence needs parentheses at the right of a sequence, and in a selection
abbrev pub wraps_seq : Place → Bool
wraps_seq InSeq = false
wraps_seq InAlt = true
wraps_seq InUnit = true

-- a selection needs parentheses at the right of a selection
abbrev pub wraps_alt : Place → Bool
wraps_alt InSeq = false
wraps_alt InAlt = false
wraps_alt InUnit = true

-- the tokens, with parentheses if asked
abbrev pub wrapped : Bool → List Piece → List Piece
wrapped true ps = sign signs.OpenParen ∷ (ps ++ sign signs.CloseParen ∷ [])
wrapped false ps = ps

-- the name of an operation
abbrev pub name_of : List Operation → OpId → List ℕ
name_of os a = unwrap_or (option_map (λ o. o.name) (slice_get os a.0)) []

-- the tokens of a bound, inside its braces
abbrev pub bound_pieces : Bound → List Piece
bound_pieces any = []
bound_pieces (most n) = sign signs.Colon ∷ number (decimal n) ∷ []

-- the tokens of a tree, with parentheses only where its place needs them
abbrev pub tree_pieces : List Operation → Tree → Place → List Piece
tree_pieces os (op a) place = name (name_of os a) ∷ []
tree_pieces os (seq s t) place = wrapped (wraps_seq place) (tree_pieces os s InSeq ++ sign signs.Semicolon ∷ tree_pieces os t InAlt)
tree_pieces os (alt s t) place = wrapped (wraps_alt place) (tree_pieces os s InAlt ++ sign signs.Comma ∷ tree_pieces os t InUnit)
tree_pieces os (burst b s) place = sign signs.OpenBrace ∷ (tree_pieces os s InSeq ++ (bound_pieces b ++ sign signs.CloseBrace ∷ []))

-- the tokens of a path
abbrev pub path_pieces : List Operation → Tree → List Piece
path_pieces os t = reserved words.Path ∷ (tree_pieces os t InSeq ++ reserved words.End ∷ [])

-- the text of a path after a space, if there is one
abbrev pub tree_text : List Operation → Option Tree → List ℕ
tree_text os None = []
tree_text os (Some t) = spaced (path_pieces os t)

-- the text of the path of this number after a space
abbrev pub path_text : Declaration → PathId → List ℕ
path_text d p = tree_text d.operations (option_map (λ p. p.tree) (slice_get d.paths p.0))

-- the tokens of paths, in order
abbrev pub paths_pieces : List Operation → List Tree → List Piece
paths_pieces os [] = []
paths_pieces os (t ∷ ts) = path_pieces os t ++ paths_pieces os ts

-- each name after a comma
abbrev pub more_names : List (List ℕ) → List Piece
more_names [] = []
more_names (n ∷ ns) = sign signs.Comma ∷ name n ∷ more_names ns

-- names, with commas between them
abbrev pub names_pieces : List (List ℕ) → List Piece
names_pieces [] = []
names_pieces (n ∷ ns) = name n ∷ more_names ns

-- the tokens of a law
abbrev pub law_pieces : Law → List Piece
law_pieces laws.Cell = reserved words.Cell ∷ []
law_pieces laws.Tally = reserved words.Tally ∷ []
law_pieces (laws.Queue n) = reserved words.Queue ∷ number (decimal n) ∷ []

-- the names of the operations of that resource, in order
abbrev pub names_at : ℕ → List Operation → List (List ℕ)
names_at k os = map (λ o. o.name) (filter (λ o. o.resource == k) os)

-- the trees of the paths of that resource, in order
abbrev pub trees_at : ℕ → List Path → List Tree
trees_at k ps = map (λ p. p.tree) (filter (λ p. p.resource == k) ps)

-- the tokens of a resource before the names of its operations
abbrev pub head_pieces : Resource → List Piece
head_pieces r = reserved words.Resource ∷ name r.name ∷ (law_pieces r.law ++ reserved words.Operation ∷ [])

-- the tokens of a resource with these operations and paths
abbrev pub resource_pieces : List Operation → Resource → List (List ℕ) → List Tree → List Piece
resource_pieces os r ns ts = head_pieces r ++ (names_pieces ns ++ (paths_pieces os ts ++ reserved words.End ∷ []))

-- the tokens of resources; the first one has the number k
unfoldable pub resources_pieces : List Operation → List Path → ℕ → List Resource → List Piece
resources_pieces os ps k [] = []
resources_pieces os ps k (r ∷ rs) = resource_pieces os r (names_at k os) (trees_at k ps) ++ resources_pieces os ps (k + 1) rs

-- the tokens of a declaration
abbrev pub declaration_pieces : Declaration → List Piece
declaration_pieces d = resources_pieces d.operations d.paths 0 d.resources

-- the text of a declaration
unfoldable pub printed : Declaration → List ℕ
printed d = laid (declaration_pieces d)
