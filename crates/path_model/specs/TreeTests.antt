-- A test of trees: whether one is well formed, found by computing.
use Rattle.std.specs.Prelude.{◌≡◌, ◌==◌, ◌||◌, ◌&&◌, not, Bool, true, false, ◌↔◌}
use Rattle.path_model.specs.Trees.{Bound, any, most, Tree, op, seq, alt, burst, WellFormed, has}

-- whether an operation is in both trees
abbrev pub share : Tree → Tree → Bool
share (op a) t = has t a
share (seq l r) t = share l t || share r t
share (alt l r) t = share l t || share r t
share (burst bd b) t = share b t

-- whether no name occurs twice
abbrev pub no_repeats : Tree → Bool
no_repeats (op a) = true
no_repeats (seq l r) = no_repeats l && (no_repeats r && not (share l r))
no_repeats (alt l r) = no_repeats l && (no_repeats r && not (share l r))
no_repeats (burst bd b) = no_repeats b

-- whether there are no braces
abbrev pub no_braces : Tree → Bool
no_braces (op a) = true
no_braces (seq l r) = no_braces l && no_braces r
no_braces (alt l r) = no_braces l && no_braces r
no_braces (burst bd b) = false

-- whether the bound has room for an execution
abbrev pub has_room : Bound → Bool
has_room any = true
has_room (most n) = not (n == 0)

-- whether no braces are inside braces, and each pair has room for an execution
abbrev pub no_nesting : Tree → Bool
no_nesting (op a) = true
no_nesting (seq l r) = no_nesting l && no_nesting r
no_nesting (alt l r) = no_nesting l && no_nesting r
no_nesting (burst bd b) = no_braces b && has_room bd

-- whether the tree is well formed
abbrev pub is_well_formed : Tree → Bool
is_well_formed s = no_repeats s && no_nesting s

-- the test holds of the well-formed trees
abbrev pub WellFormedTreesPass : Type 0
WellFormedTreesPass = (s : Tree) → (is_well_formed s ≡ true) ↔ WellFormed s
