-- The first that is of the resource is live there.
use Rattle.std.proofs.Common.{All, arith, subst}
use Rattle.std.proofs.lemmas.List.{take_all}
use Rattle.std.proofs.lemmas.List.Elements.{All-more}
use Rattle.cmd_explain.proofs.StuckHere.{Elsewhere}
use Rattle.cmd_explain.proofs.stuck.has_live.Goals as goal

pub loop-activation-preserved : goal.loop-activation-preserved
loop-activation-preserved g c =
    All-more (Elsewhere c.args.decl.now.declaration c.args.resource.0) c.args.live.now c.loop-activation.activation-index _ (omega arith) c.loop-activation.invariant
    (λ e. (let t = c.belongs.ensures.1 e in let f = c.if-belongs.false in cc))

pub returns-then-belongs-clause-some : goal.returns-then-belongs-clause-some
returns-then-belongs-clause-some g c = λ t all. all c.loop-activation.activation-index _ (omega arith) (c.belongs.ensures.0 c.if-belongs.true)

pub returns-clause-none : goal.returns-clause-none
returns-clause-none g c = λ f. subst (All (Elsewhere c.args.decl.now.declaration c.args.resource.0)) (take_all c.loop-activation.activation-index c.args.live.now (omega arith)) c.loop-activation.invariant
