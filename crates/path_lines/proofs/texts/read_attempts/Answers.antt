-- Each line read is one more attempt, and a faulty line refutes the text.
use Rattle.std.proofs.Common.{rules, arith, ◌≡◌, ◌≢◌, ◌∙◌, [], length, ap}
use Rattle.std.proofs.lemmas.Grind.{common_steps}
use Rattle.std.proofs.lemmas.List.{nil_from_length}
use Rattle.path_lines.specs.AttemptTexts.{Entry, EntryFits}
use Rattle.path_lines.proofs.WholeTexts.{lines_none}
use Rattle.path_lines.proofs.AttemptLemmas.{entry_text, entries_more, faulty, fault_text, none_at_fault, ends}
use Rattle.path_lines.proofs.OneReading.{one_reading}
use Rattle.path_lines.proofs.texts.read_attempts.Goals as goal

pub loop-rest-init : goal.loop-rest-init
loop-rest-init g c = lines_none Entry (entry_text c.args.decl.now.declaration) EntryFits c.args.text.now c.in_ok-entries.entries.items c.in_ok-entries.ensures.items

pub loop-rest-preserved : goal.loop-rest-preserved
loop-rest-preserved g c =
    let some : c.loop-rest.rest.now ≢ [] = λ e. let k : length c.loop-rest.rest.now ≡ 0 = ap length e in grind (arith, common_steps) in
    entries_more c.args.decl.now.declaration c.args.text.now c.loop-rest.rest.now c.after_line-rest.result.now c.loop-rest.entries.items c.push.new.self.items (c.in-Ok.line.worker, c.in-Ok.line.attempt) c.in-Ok.line.length some c.in-Ok.ensures.line c.in-Ok.ensures.length c.after_line-rest.ensures c.in-Ok.ensures.fits c.in_ok-push-in-Ok.ensures.items c.loop-rest.invariant

pub returns-in-Err-clause-none : goal.returns-in-Err-clause-none
returns-in-Err-clause-none g c = λ long memory.
    let some : c.loop-rest.rest.now ≢ [] = λ e. let k : length c.loop-rest.rest.now ≡ 0 = ap length e in grind (arith, common_steps) in
    none_at_fault c.args.decl.now.declaration c.args.text.now c.len.result c.in-Err.stop.fault c.args.decl.now.lawful.operation_names.each
    (faulty c.args.decl.now.declaration c.args.text.now c.loop-rest.rest.now c.loop-rest.entries.items c.len.result c.in-Err.stop.fault (search rules) some c.in-Err.ensures.err c.loop-rest.invariant)

pub returns-clause-one : goal.returns-clause-one
returns-clause-one g c =
    let none : length c.loop-rest.rest.now ≡ 0 = grind (arith, common_steps) in
    one_reading c.args.decl.now.declaration c.args.text.now c.loop-rest.entries.items c.args.decl.now.lawful.operation_names
    (ends c.args.decl.now.declaration c.args.text.now c.loop-rest.rest.now c.loop-rest.entries.items (nil_from_length c.loop-rest.rest.now none) c.loop-rest.invariant)

pub overflow_cast-len : goal.overflow_cast-len
overflow_cast-len g c =
    let few = c.loop-rest.invariant.few in
    omega (arith, few)

pub returns-in-Err-clause-err : goal.returns-in-Err-clause-err
returns-in-Err-clause-err g c =
    let some : c.loop-rest.rest.now ≢ [] = λ e. let k : length c.loop-rest.rest.now ≡ 0 = ap length e in grind (arith, common_steps) in
    rw c.fault_at.ensures (fault_text c.args.decl.now.declaration c.args.text.now c.len.result c.in-Err.stop.fault
    (faulty c.args.decl.now.declaration c.args.text.now c.loop-rest.rest.now c.loop-rest.entries.items c.len.result c.in-Err.stop.fault (c.len.ensures ∙ c.loop-rest.entries.ok.0) some c.in-Err.ensures.err c.loop-rest.invariant))

pub returns-clause-ok : goal.returns-clause-ok
returns-clause-ok g c =
    let none : length c.loop-rest.rest.now ≡ 0 = grind (arith, common_steps) in
    ends c.args.decl.now.declaration c.args.text.now c.loop-rest.rest.now c.loop-rest.entries.items (nil_from_length c.loop-rest.rest.now none) c.loop-rest.invariant
