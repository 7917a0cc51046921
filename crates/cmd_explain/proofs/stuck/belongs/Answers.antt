-- The resource is that of the operation.
use Rattle.std.proofs.Common.{◌∙◌, sym}
use Rattle.std.proofs.lemmas.Bool.{eqb-true, eq-eqb}
use Rattle.cmd_explain.proofs.StuckHere.{own_resource, no_resource}
use Rattle.cmd_explain.proofs.stuck.belongs.Goals as goal

pub returns-in-Some : goal.returns-in-Some
returns-in-Some g c =
    let own = own_resource c.args.decl.now.declaration.operations c.args.op.0 c.in-Some.own c.in-Some.ensures in
    (λ t. own ∙ eqb-true _ _ t, λ e. eq-eqb _ _ (sym own ∙ e))

pub returns-in-None : goal.returns-in-None
returns-in-None g c =
    let none = no_resource c.args.decl.now.declaration.operations c.args.op.0 (sym c.in-None.ensures) in
    (λ t. none ∙ sym (eqb-true _ _ t), λ e. eq-eqb _ _ (sym e ∙ none))
