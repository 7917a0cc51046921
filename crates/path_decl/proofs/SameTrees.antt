-- Equal trees are told apart from others.
use Rattle.std.proofs.Common.{◌≡◌, ◌↔◌, Bool, true, IsTrue, refl, sym, ◌∙◌, subst}
use Rattle.std.proofs.lemmas.Bool.{eq-eqb}
use Rattle.path_model.specs.Trees.{Bound, any, most, Tree, op, seq, alt, burst}
use Rattle.path_model.specs.Trimmed.{same_bound, same_tree}
use Rattle.path_model.proofs.CallerLemmas.{same_tree_same}

bound_itself : (b : Bound) → same_bound b b ≡ true
bound_itself any = refl
bound_itself (most n) = eq-eqb n n refl

tree_itself : (s : Tree) → same_tree s s ≡ true
tree_itself (op a) = eq-eqb a.0 a.0 refl
tree_itself (seq s t) = rw (tree_itself s, tree_itself t) refl
tree_itself (alt s t) = rw (tree_itself s, tree_itself t) refl
tree_itself (burst b s) = rw (bound_itself b, tree_itself s) refl

pub same_trees : (s t : Tree) (r : Bool) → r ≡ same_tree s t → IsTrue r ↔ (s ≡ t)
same_trees s t r e = (λ h. same_tree_same s t (sym e ∙ h), λ h. e ∙ subst (λ x. same_tree s x ≡ true) h (tree_itself s))
