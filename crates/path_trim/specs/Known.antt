-- What a caller knows of trimmed paths.
use Rattle.std.specs.Prelude.{List, refl}
use Rattle.std.specs.Coded.{Coded, code_by, coded_list}
use base.Stored.{coded_sub}
use Rattle.path_model.specs.Trees.{Tree}
use Rattle.path_decl.specs.Stored.{tree_code}
use Rattle.path_trim.specs.LawfulTrees.{LawfulTrees, LawfulTrees-prop}

-- the trees of all paths, the removed ones too, and what always holds of them
pub record KnownTrees : Type 0 where
  pub trees : List Tree
  pub lawful : LawfulTrees trees

-- they are stored as the trees
abbrev pub known_trees : Coded KnownTrees
known_trees =
    code_by ((ss : List Tree) × LawfulTrees ss) (coded_sub (coded_list tree_code) LawfulTrees LawfulTrees-prop)
    (λ k. (k.trees, k.lawful)) (λ p. record { trees = p.0; lawful = p.1 }) (λ _. refl)
