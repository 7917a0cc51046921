-- A text begins with one head.
use Rattle.std.proofs.Common.{[], sym, ◌∙◌}
use Rattle.path_head.specs.HeadTexts.{facts_before, lines_before, sum_before}
use Rattle.path_head.proofs.Fronts.{front_once}
use Rattle.path_head.proofs.Heads.{last_short, head_is, heads_same, after_same}
use Rattle.path_head.proofs.head.read_head.Goals as goal

pub returns-in-Err-clause-none : goal.returns-in-Err-clause-none
returns-in-Err-clause-none g c = λ memory f fs rest h k e.
    c.in-Err.ensures.err f (facts_before c.args.decl.now.declaration fs (sum_before (lines_before c.args.decl.now.declaration c.args.print.now f fs []) rest)) h e

pub returns-in-Err-read_facts-clause-none : goal.returns-in-Err-read_facts-clause-none
returns-in-Err-read_facts-clause-none g c = λ memory f fs rest h k e.
    let front = c.in-Ok.ensures.ok in
    c.in-Err-read_facts.ensures.none memory fs _ k (front_once c.args.print.now c.in-Ok.read.0 f c.in-Ok.read.1.now _ front.1 h (sym front.0 ∙ e)).1

pub above-requires : goal.above-requires
above-requires g c =
    let front = c.in-Ok.ensures.ok in
    let facts = c.in-Ok-read_facts.ensures.ok in
    last_short c.args.decl.now.declaration c.args.print.now c.args.text.now c.in-Ok.read.0 c.in-Ok.read.1.now c.in-Ok-read_facts.read.0.items c.in-Ok-read_facts.read.1.now front.0 facts.0

pub returns-in_default-clause-none : goal.returns-in_default-clause-none
returns-in_default-clause-none g c = λ memory f fs rest h k e.
    let front = c.in-Ok.ensures.ok in
    let facts = c.in-Ok-read_facts.ensures.ok in
    let sum = c.in-Ok-read_facts.ensures.sum in
    c.in_default.ensures.none rest (heads_same c.args.decl.now.declaration c.args.print.now c.args.text.now c.in-Ok.read.0 c.in-Ok.read.1.now c.in-Ok-read_facts.read.0.items c.in-Ok-read_facts.read.1.now front.0 facts.0
    c.args.decl.now.lawful.operation_names c.args.decl.now.lawful.few_operations front.1 facts.1 sum.0 sum.1 c.above.result.now c.above.ensures f fs rest h k e).2

pub returns-clause-ok : goal.returns-clause-ok
returns-clause-ok g c =
    let front = c.in-Ok.ensures.ok in
    let facts = c.in-Ok-read_facts.ensures.ok in
    head_is c.args.decl.now.declaration c.args.print.now c.args.text.now c.in-Ok.read.0 c.in-Ok.read.1.now c.in-Ok-read_facts.read.0.items c.in-Ok-read_facts.read.1.now front.0 facts.0 c.above.result.now c.in-Some.after.now c.above.ensures c.in-Some.ensures.some

pub returns-clause-one : goal.returns-clause-one
returns-clause-one g c = λ f fs rest h k e.
    let front = c.in-Ok.ensures.ok in
    let facts = c.in-Ok-read_facts.ensures.ok in
    let sum = c.in-Ok-read_facts.ensures.sum in
    let p = heads_same c.args.decl.now.declaration c.args.print.now c.args.text.now c.in-Ok.read.0 c.in-Ok.read.1.now c.in-Ok-read_facts.read.0.items c.in-Ok-read_facts.read.1.now front.0 facts.0
    c.args.decl.now.lawful.operation_names c.args.decl.now.lawful.few_operations front.1 facts.1 sum.0 sum.1 c.above.result.now c.above.ensures f fs rest h k e in
    (p.0, p.1, after_same c.above.result.now c.in-Some.after.now rest c.in-Ok-read_facts.read.1.now c.in-Some.ensures.some p.2)
