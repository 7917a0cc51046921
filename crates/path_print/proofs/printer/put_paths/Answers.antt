-- Each path continues the text, and the next resource begins after the last one.
use Rattle.std.proofs.Common.{◌≤◌, length, rules, arith, sym, ◌∙◌}
use Rattle.std.proofs.lemmas.List.{drop_all}
use Rattle.path_print.proofs.PrintedWalk.{pathed_end, pathed_first, pathed_more, none_past}
use Rattle.path_print.proofs.printer.put_paths.Goals as goal

pub loop-path-init : goal.loop-path-init
loop-path-init g c = pathed_first _ _ _ _ _

pub loop-path-preserved : goal.loop-path-preserved
loop-path-preserved g c = pathed_more _ _ _ _ _ _ _ _ _ c.loop-path.invariant c.in-Some.ensures (search rules)

pub returns-clause-text : goal.returns-clause-text
returns-clause-text g c =
    let h : length c.args.decl.now.declaration.paths ≤ c.loop-path.path = omega arith in
    (pathed_end _ _ _ _ _ _ _ c.loop-path.invariant (none_past (λ p. p.resource) (λ p. p.tree) _ _ _ h)).0

pub returns-clause-next : goal.returns-clause-next
returns-clause-next g c =
    let h : length c.args.decl.now.declaration.paths ≤ c.loop-path.path = omega arith in
    let all : length c.args.decl.now.declaration.paths ≤ c.counts-total.result.paths = omega arith in
    drop_all _ _ all ∙ sym (drop_all _ _ h) ∙ (pathed_end _ _ _ _ _ _ _ c.loop-path.invariant (none_past (λ p. p.resource) (λ p. p.tree) _ _ _ h)).1

pub returns-in_default-clause-text : goal.returns-in_default-clause-text
returns-in_default-clause-text g c = (pathed_end _ _ _ _ _ _ _ c.loop-path.invariant c.in_default.ensures).0

pub returns-in_default-clause-next : goal.returns-in_default-clause-next
returns-in_default-clause-next g c = (pathed_end _ _ _ _ _ _ _ c.loop-path.invariant c.in_default.ensures).1
