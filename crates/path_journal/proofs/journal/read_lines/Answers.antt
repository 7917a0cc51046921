-- Each line read is one more, and a faulty line refutes the text.
use Rattle.std.proofs.Common.{rules, arith, ◌≡◌, ◌≢◌, [], length, ap}
use Rattle.std.proofs.lemmas.Grind.{common_steps}
use Rattle.std.proofs.lemmas.List.{nil_from_length}
use Rattle.path_journal.proofs.JournalLemmas.{records_more, records_end, records_fault, no_lines, one_list}
use Rattle.path_journal.proofs.journal.read_lines.Goals as goal

pub loop-rest-preserved : goal.loop-rest-preserved
loop-rest-preserved g c =
    let some : c.loop-rest.rest.now ≢ [] = λ e. let k : length c.loop-rest.rest.now ≡ 0 = ap length e in grind (arith, common_steps) in
    records_more c.args.decl.now.declaration c.args.text.now c.loop-rest.rest.now c.after_line-rest.result.now c.loop-rest.lines.items c.push.new.self.items c.in-Ok.line c.in-Ok.length some c.in-Ok.ensures.line c.in-Ok.ensures.length c.after_line-rest.ensures c.in-Ok.ensures.fits c.in_ok-push-in-Ok.ensures.items c.loop-rest.invariant

pub returns-in-Err-clause-none : goal.returns-in-Err-clause-none
returns-in-Err-clause-none g c = λ memory.
    let some : c.loop-rest.rest.now ≢ [] = λ e. let k : length c.loop-rest.rest.now ≡ 0 = ap length e in grind (arith, common_steps) in
    no_lines c.args.decl.now.declaration c.args.decl.now.lawful.operation_names c.args.text.now c.len.result c.in-Err.stop.fault
    (records_fault c.args.decl.now.declaration c.args.text.now c.loop-rest.rest.now c.loop-rest.lines.items c.len.result c.in-Err.stop.fault (search rules) some c.in-Err.ensures.err c.loop-rest.invariant)

pub returns-clause-one : goal.returns-clause-one
returns-clause-one g c =
    let none : length c.loop-rest.rest.now ≡ 0 = grind (arith, common_steps) in
    one_list c.args.decl.now.declaration c.args.decl.now.lawful.operation_names c.args.text.now c.loop-rest.lines.items
    (records_end c.args.decl.now.declaration c.args.text.now c.loop-rest.rest.now c.loop-rest.lines.items (nil_from_length c.loop-rest.rest.now none) c.loop-rest.invariant)
