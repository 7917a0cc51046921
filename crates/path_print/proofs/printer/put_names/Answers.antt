-- Each name continues the text, and the next resource begins after the last one.
use Rattle.std.proofs.Common.{◌≤◌, length, rules, arith, sym, ◌∙◌}
use Rattle.std.proofs.lemmas.List.{drop_all}
use Rattle.path_print.proofs.PrintedWalk.{named_end, named_first, named_next, none_past}
use Rattle.path_print.proofs.printer.put_names.Goals as goal

pub loop-op-init : goal.loop-op-init
loop-op-init g c = named_first _ _ _ _

pub loop-op-preserved : goal.loop-op-preserved
loop-op-preserved g c = named_next _ _ _ _ _ _ _ _ c.loop-op.invariant c.in-Some.ensures (search rules)

pub returns-clause-text : goal.returns-clause-text
returns-clause-text g c = let h : length c.args.decl.now.declaration.operations ≤ c.loop-op.op = omega arith in (named_end _ _ _ _ _ _ c.loop-op.invariant (none_past (λ o. o.resource) (λ o. o.name) _ _ _ h)).0

pub returns-clause-next : goal.returns-clause-next
returns-clause-next g c =
    let h : length c.args.decl.now.declaration.operations ≤ c.loop-op.op = omega arith in
    let all : length c.args.decl.now.declaration.operations ≤ c.counts-total.result.operations = omega arith in
    drop_all _ _ all ∙ sym (drop_all _ _ h) ∙ (named_end _ _ _ _ _ _ c.loop-op.invariant (none_past (λ o. o.resource) (λ o. o.name) _ _ _ h)).1

pub returns-in_default-clause-text : goal.returns-in_default-clause-text
returns-in_default-clause-text g c = (named_end _ _ _ _ _ _ c.loop-op.invariant c.in_default.ensures).0

pub returns-in_default-clause-next : goal.returns-in_default-clause-next
returns-in_default-clause-next g c = (named_end _ _ _ _ _ _ c.loop-op.invariant c.in_default.ensures).1
