-- The first of several compiled paths that has a tree.
use Rattle.std.specs.Prelude.{◌≡◌, ◌<◌, ℕ, true, false, List, length, take, slice_index_or, All}
use Rattle.path_model.specs.Trees.{Tree, shape}
use Rattle.path_model.specs.Trimmed.{same_tree}
use Rattle.path_code.specs.declared.code.PathCode.{PathCode}

-- the path has another tree
abbrev pub HasOther : {Y : Type 0} → Tree → PathCode Y → Type 0
HasOther s p = same_tree s (shape p.tree.now) ≡ false

-- the path at this index has the tree, and none before it has
pub record IsFirstEqual {Y : Type 0} (s : Tree) (ps : List (PathCode Y)) (i : ℕ) : Type 0 where
  pub within : i < length ps
  pub before : All (HasOther s) (take i ps)
  pub equal : (d : PathCode Y) → same_tree s (shape (slice_index_or ps i d).tree.now) ≡ true
