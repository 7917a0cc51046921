-- The name at an index is the first of those that the resource has from there on.
use Rattle.std.proofs.Common.{sym, ap, ◌∙◌, option_map}
use Rattle.path_print.proofs.PrintedWalk.{seen_at, unseen_at, past_at}
use Rattle.path_print.proofs.printer.own_name.Goals as goal

pub returns-in_err-resource_of : goal.returns-in_err-resource_of
returns-in_err-resource_of g c = ap (λ o. option_map (λ s. s.now) o) c.from_residual.ensures ∙ past_at (λ o. o.resource) (λ o. o.name) c.args.resource.0 c.args.decl.now.declaration.operations c.args.op.0 c.in_err-resource_of.ensures

pub returns-then-eq : goal.returns-then-eq
returns-then-eq g c = c.op_name.ensures ∙ seen_at (λ o. o.resource) (λ o. o.name) c.args.resource.0 c.in_ok-resource_of.field-0.0 c.args.decl.now.declaration.operations c.args.op.0 c.in_ok-resource_of.ensures (sym c.if-eq.ensures)

pub returns-else-eq : goal.returns-else-eq
returns-else-eq g c = unseen_at (λ o. o.resource) (λ o. o.name) c.args.resource.0 c.in_ok-resource_of.field-0.0 c.args.decl.now.declaration.operations c.args.op.0 c.in_ok-resource_of.ensures (sym c.if-eq.ensures)
