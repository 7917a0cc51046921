-- Each fact read is one more, and a line that is none refutes the text.
use Rattle.std.proofs.Common.{sym, ◌∙◌}
use Rattle.path_head.proofs.Facts.{read_more, facts_none}
use Rattle.path_head.proofs.head.read_facts.Goals as goal

pub loop-rest-preserved : goal.loop-rest-preserved
loop-rest-preserved g c =
    let fact = c.in-Some.ensures.some in
    read_more c.args.decl.now.declaration c.args.text.now c.loop-rest.facts.items c.push.new.self.items c.in-Some.fact c.loop-rest.rest.now c.in-Some.after.now c.in_ok-push-in-Some.ensures.items fact.0 fact.1 c.loop-rest.invariant.read c.loop-rest.invariant.fits

pub returns-in-None-clause-none : goal.returns-in-None-clause-none
returns-in-None-clause-none g c = λ memory fs rest h e.
    facts_none c.args.decl.now.declaration c.args.decl.now.lawful.operation_names c.loop-rest.facts.items fs c.loop-rest.rest.now rest c.args.decl.now.lawful.few_operations c.loop-rest.invariant.fits
    c.in-None.ensures.none c.loop-rest-test.ensures.no h (sym c.loop-rest.invariant.read ∙ e)
