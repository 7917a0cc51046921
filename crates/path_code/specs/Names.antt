-- The names of a tree, from left to right.
use Rattle.std.specs.Prelude.{List, [], ◌∷◌, ◌++◌}
use Rattle.path_model.specs.declared.ids.OpId.{OpId}
use Rattle.path_model.specs.Trees.{Tree, op, seq, alt, burst}

-- the operations that the tree names, from left to right
abbrev pub names_in : Tree → List OpId
names_in (op a) = a ∷ []
names_in (seq s t) = names_in s ++ names_in t
names_in (alt s t) = names_in s ++ names_in t
names_in (burst bd s) = names_in s
