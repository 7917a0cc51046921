use Rattle.std.proofs.Common.{◌∙◌, sym}
use Rattle.cmd_explain.proofs.alike.is_alike.Goals as goal

pub returns : goal.returns
returns g c = (
  λ t. sym c.tree_in-left.ensures ∙ c.is_same_tree.ensures.equal.0 t ∙ c.tree_in-right.ensures,
  λ e. c.is_same_tree.ensures.equal.1 (c.tree_in-left.ensures ∙ e ∙ sym c.tree_in-right.ensures),
)
