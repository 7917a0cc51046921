-- Each line read is one more step, and a line that can't follow is a fault.
use Rattle.std.proofs.Common.{arith, ◌≡◌, ◌≢◌, ◌<◌, ◌+◌, [], length, ap, ◌∙◌}
use Rattle.std.proofs.lemmas.Grind.{common_steps}
use Rattle.std.proofs.lemmas.List.{nil_from_length}
use Rattle.path_script.specs.ScriptFaults.{IsStepFault}
use Rattle.path_script.proofs.Progress.{cut_first, steps_more, steps_fault, steps_open, says_at}
use Rattle.path_script.proofs.steps.read_steps.Goals as goal

pub loop-rest-preserved : goal.loop-rest-preserved
loop-rest-preserved g c =
    let told = rw c.in-Ok-Some.field-0-is at c.in-Ok-Some.ensures.step in
    let some : c.loop-rest.rest.now ≢ [] = λ e. let k : length c.loop-rest.rest.now ≡ 0 = ap length e in grind (arith, common_steps) in
    let first = cut_first c.loop-rest.rest.now c.until.result.0.now c.until.result.1.now c.until.ensures.parts c.until.ensures.first c.until.ensures.end in
    let count : c.len.result ≡ length c.loop-rest.steps.items = c.len.ensures ∙ c.loop-rest.steps.ok.0 in
    let few : c.args.before + length c.loop-rest.steps.items < 4096 = let lt = told.3 in omega (arith, lt, count) in
    rw c.after_step-entered.ensures (steps_more c.args.decl.now.declaration c.args.text.now c.args.before c.loop-rest.steps.items c.push.new.self.items c.loop-rest.entered c.loop-rest.rest.now c.after_line-rest.result.now c.until.result.0.now c.in-Ok-Some.step
    c.args.decl.now.lawful.operation_names.each some first c.after_line-rest.ensures told.0 told.1 told.2 few c.in_ok-push-in-Ok-Some.ensures.items c.loop-rest.invariant)

pub returns-in-Err-clause-err : goal.returns-in-Err-clause-err
returns-in-Err-clause-err g c =
    let some : c.loop-rest.rest.now ≢ [] = λ e. let k : length c.loop-rest.rest.now ≡ 0 = ap length e in grind (arith, common_steps) in
    let first = cut_first c.loop-rest.rest.now c.until.result.0.now c.until.result.1.now c.until.ensures.parts c.until.ensures.first c.until.ensures.end in
    let fault = steps_fault c.args.decl.now.declaration c.args.text.now c.args.lines c.args.before c.loop-rest.steps.items c.loop-rest.entered c.loop-rest.rest.now c.until.result.0.now c.len.result c.len-in-Err.result c.in-Err.cause
    (c.len.ensures ∙ c.loop-rest.steps.ok.0) (c.len-in-Err.ensures ∙ c.loop-rest.steps.ok.0) some first c.in-Err.ensures.err c.loop-rest.invariant in
    rw c.fault_at.ensures (says_at ⊥ (IsStepFault c.args.decl.now.declaration c.args.text.now c.args.lines c.args.before) (c.args.lines + c.len-in-Err.result) c.in-Err.cause fault)

pub returns-clause-err : goal.returns-clause-err
returns-clause-err g c =
    let none : length c.loop-rest.rest.now ≡ 0 = grind (arith, common_steps) in
    steps_open c.args.decl.now.declaration c.args.text.now c.args.lines c.args.before c.loop-rest.steps.items c.loop-rest.entered c.loop-rest.rest.now c.len-2.result (c.len-2.ensures ∙ c.loop-rest.steps.ok.0) (nil_from_length c.loop-rest.rest.now none) c.loop-rest.invariant
