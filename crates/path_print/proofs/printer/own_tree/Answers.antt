-- The tree at an index is the first of those that the resource has from there on.
use Rattle.std.proofs.Common.{sym, ap, ◌∙◌, option_map}
use Rattle.path_model.specs.Trees.{shape}
use Rattle.path_print.proofs.PrintedWalk.{seen_at, unseen_at, past_at}
use Rattle.path_print.proofs.printer.own_tree.Goals as goal

pub returns-in_err-path_resource : goal.returns-in_err-path_resource
returns-in_err-path_resource g c = ap (λ o. option_map (λ t. shape t.now) o) c.from_residual.ensures ∙ past_at (λ p. p.resource) (λ p. p.tree) c.args.resource.0 c.args.decl.now.declaration.paths c.args.path.0 c.in_err-path_resource.ensures

pub returns-then-eq : goal.returns-then-eq
returns-then-eq g c = c.tree_of.ensures ∙ seen_at (λ p. p.resource) (λ p. p.tree) c.args.resource.0 c.in_ok-path_resource.field-0.0 c.args.decl.now.declaration.paths c.args.path.0 c.in_ok-path_resource.ensures (sym c.if-eq.ensures)

pub returns-else-eq : goal.returns-else-eq
returns-else-eq g c = unseen_at (λ p. p.resource) (λ p. p.tree) c.args.resource.0 c.in_ok-path_resource.field-0.0 c.args.decl.now.declaration.paths c.args.path.0 c.in_ok-path_resource.ensures (sym c.if-eq.ensures)
