-- No earlier path that was looked at has the tree.
use Rattle.std.proofs.Common.{◌≡◌, ◌<◌, ℕ, false}
use Rattle.path_model.specs.Trees.{shape}
use Rattle.path_model.specs.Trimmed.{same_tree}
use Rattle.path_standings.specs.Told.{tree_at}
use Rattle.path_standings.proofs.trees.same_before.Given as goal

abbrev pub invariant-loop-earlier : goal.invariant-loop-earlier
invariant-loop-earlier g l = (i : ℕ) → i < l.earlier → same_tree (shape l.fn.tree) (tree_at l.decl.declaration i) ≡ false
