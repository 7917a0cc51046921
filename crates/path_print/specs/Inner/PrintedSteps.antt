-- How printing walks through a declaration: what belongs to one resource is together.
use Rattle.std.specs.Prelude.{◌≡◌, ℕ, ◌==◌, Bool, true, false, if◌then◌else◌, List, [], ◌∷◌, ◌++◌}
use Rattle.std.specs.String.{string_bytes}
use Rattle.std.specs.declared.string.String.{String}
use Rattle.path_model.specs.Trees.{Tree}
use Rattle.path_model.specs.Declarations.{Operation, Path}
use Rattle.path_lex.specs.Spelling.{Piece}
use Rattle.path_print.specs.Printed.{piece_text, spaced}

-- the leading items that belong to resource k, each shown by v
abbrev pub here : {X Y : Type 0} → (X → ℕ) → (X → Y) → ℕ → List X → List Y
here r v k [] = []
here r v k (x ∷ xs) = if r x == k then v x ∷ here r v k xs else []

-- the items after those
abbrev pub after : {X : Type 0} → (X → ℕ) → ℕ → List X → List X
after r k [] = []
after r k (x ∷ xs) = if r x == k then after r k xs else x ∷ xs

-- the names of the leading operations that belong to that resource
abbrev pub names_here : ℕ → List Operation → List (List ℕ)
names_here k os = here (λ o. o.resource) (λ o. o.name) k os

-- the operations after those
abbrev pub operations_after : ℕ → List Operation → List Operation
operations_after k os = after (λ o. o.resource) k os

-- the trees of the leading paths that belong to that resource
abbrev pub trees_here : ℕ → List Path → List Tree
trees_here k ps = here (λ p. p.resource) (λ p. p.tree) k ps

-- the paths after those
abbrev pub paths_after : ℕ → List Path → List Path
paths_after k ps = after (λ p. p.resource) k ps

-- the text goes on with these tokens
abbrev pub Writes : {Y : Type 0} → String Y → String Y → List Piece → Type 0
Writes old new ps = string_bytes new ≡ string_bytes old ++ spaced ps

-- the tokens, after others or first
abbrev pub joined : Bool → List Piece → List ℕ
joined true ps = spaced ps
joined false [] = []
joined false (p ∷ ps) = piece_text p ++ spaced ps
