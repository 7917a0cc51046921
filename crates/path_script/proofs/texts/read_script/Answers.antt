-- Each process read is one more, and a line that can't follow is a fault.
use Rattle.std.proofs.Common.{arith, ◌≡◌, ◌≢◌, ◌<◌, ◌+◌, ◌*◌, [], length, ap, ◌∙◌}
use Rattle.std.proofs.lemmas.Grind.{common_steps}
use Rattle.std.proofs.lemmas.List.{nil_from_length}
use Rattle.std.proofs.lemmas.Result.{err_from_is_err_and}
use Rattle.path_script.specs.ScriptFaults.{IsFaultAt}
use Rattle.path_script.proofs.OneScript.{Names}
use Rattle.path_script.proofs.Progress.{cut_first, begin_fault, processes_more, says_at, steps_said, whole_text}
use Rattle.path_script.proofs.Refusals.{one_text, none_said, if_err}
use Rattle.path_script.proofs.OneFault.{said_once}
use Rattle.path_script.proofs.texts.read_script.Goals as goal

pub returns-in-Err-clause-err : goal.returns-in-Err-clause-err
returns-in-Err-clause-err g c =
    let some : c.loop-rest.rest.now ≢ [] = λ e. let k : length c.loop-rest.rest.now ≡ 0 = ap length e in grind (arith, common_steps) in
    let first = cut_first c.loop-rest.rest.now c.until.result.0.now c.until.result.1.now c.until.ensures.parts c.until.ensures.first c.until.ensures.end in
    let count : c.len-count.result ≡ length c.loop-rest.processes.items = c.len-count.ensures ∙ c.loop-rest.processes.ok.0 in
    let at = begin_fault c.args.decl.now.declaration c.args.text.now c.loop-rest.processes.items c.loop-rest.told c.loop-rest.rest.now c.until.result.0.now c.len-count.result c.in-Err.cause count some first (c.in-Err.ensures.err c.args.decl.now.declaration) c.loop-rest.invariant in
    rw c.fault_at.ensures (says_at (262144 < length c.args.text.now) (IsFaultAt c.args.decl.now.declaration c.args.text.now) (c.loop-rest.told + 2 * c.len-count.result) c.in-Err.cause at)

pub returns-in-Err-clause-none : goal.returns-in-Err-clause-none
returns-in-Err-clause-none g c =
    let names : Names c.args.decl.now.declaration = record { distinct = c.args.decl.now.lawful.operation_names; few = c.args.decl.now.lawful.few_operations } in
    none_said c.args.decl.now.declaration c.args.text.now c.fault_at.result names (returns-in-Err-clause-err g c)

pub returns-in-Err-clause-one_fault : goal.returns-in-Err-clause-one_fault
returns-in-Err-clause-one_fault g c =
    let names : Names c.args.decl.now.declaration = record { distinct = c.args.decl.now.lawful.operation_names; few = c.args.decl.now.lawful.few_operations } in
    said_once c.args.decl.now.declaration c.args.text.now c.fault_at.result names (returns-in-Err-clause-err g c)

pub returns-in_err-steps-clause-err : goal.returns-in_err-steps-clause-err
returns-in_err-steps-clause-err g c =
    let p = err_from_is_err_and c.from_residual-in_err-steps.result c.from_residual-in_err-steps.ensures.1 in
    let some : c.loop-rest.rest.now ≢ [] = λ e. let k : length c.loop-rest.rest.now ≡ 0 = ap length e in grind (arith, common_steps) in
    let first = cut_first c.loop-rest.rest.now c.until.result.0.now c.until.result.1.now c.until.ensures.parts c.until.ensures.first c.until.ensures.end in
    let count : c.len-count.result ≡ length c.loop-rest.processes.items = c.len-count.ensures ∙ c.loop-rest.processes.ok.0 in
    let at = steps_said c.args.decl.now.declaration c.args.text.now c.loop-rest.processes.items c.loop-rest.told c.loop-rest.rest.now c.after_line-behind.result.now c.until.result.0.now c.in-Ok.name.now c.len-count.result c.in_err-steps.field-0.0
    count c.in-Ok.ensures.ok.2 some first c.after_line-behind.ensures c.in-Ok.ensures.ok.0 c.in-Ok.ensures.ok.1 c.loop-rest.invariant c.in_err-steps.ensures.err in
    rw (p.1, p.2) at

pub returns-in_err-steps-clause-none : goal.returns-in_err-steps-clause-none
returns-in_err-steps-clause-none g c =
    let names : Names c.args.decl.now.declaration = record { distinct = c.args.decl.now.lawful.operation_names; few = c.args.decl.now.lawful.few_operations } in
    if_err c.from_residual-in_err-steps.result _ _ (returns-in_err-steps-clause-err g c) (λ e said. none_said c.args.decl.now.declaration c.args.text.now e names said)

pub returns-in_err-steps-clause-one_fault : goal.returns-in_err-steps-clause-one_fault
returns-in_err-steps-clause-one_fault g c =
    let names : Names c.args.decl.now.declaration = record { distinct = c.args.decl.now.lawful.operation_names; few = c.args.decl.now.lawful.few_operations } in
    if_err c.from_residual-in_err-steps.result _ _ (returns-in_err-steps-clause-err g c) (λ e said. said_once c.args.decl.now.declaration c.args.text.now e names said)

pub loop-rest-preserved : goal.loop-rest-preserved
loop-rest-preserved g c =
    let some : c.loop-rest.rest.now ≢ [] = λ e. let k : length c.loop-rest.rest.now ≡ 0 = ap length e in grind (arith, common_steps) in
    let first = cut_first c.loop-rest.rest.now c.until.result.0.now c.until.result.1.now c.until.ensures.parts c.until.ensures.first c.until.ensures.end in
    let count : c.len-count.result ≡ length c.loop-rest.processes.items = c.len-count.ensures ∙ c.loop-rest.processes.ok.0 in
    let steps : c.len.result ≡ length c.in_ok-steps.steps.items = c.len.ensures ∙ c.in_ok-steps.steps.ok.0 in
    processes_more c.args.decl.now.declaration c.args.text.now c.loop-rest.processes.items c.push.new.self.items c.loop-rest.told c.loop-rest.rest.now c.after_line-behind.result.now c.in_ok-steps.after.now c.until.result.0.now c.in-Ok.name.now _ c.len-count.result c.len.result
    some first c.after_line-behind.ensures c.in-Ok.ensures.ok.0 c.in-Ok.ensures.ok.1 c.in_ok-name-in-Ok.ensures count c.in-Ok.ensures.ok.2 steps c.in_ok-steps.ensures.few c.in_ok-steps.ensures.fits c.in_ok-steps.ensures.balanced c.in_ok-steps.ensures.reads c.in_ok-push.ensures.items c.loop-rest.invariant

pub returns-clause-one : goal.returns-clause-one
returns-clause-one g c = λ ps t.
    let names : Names c.args.decl.now.declaration = record { distinct = c.args.decl.now.lawful.operation_names; few = c.args.decl.now.lawful.few_operations } in
    let none : length c.loop-rest.rest.now ≡ 0 = grind (arith, common_steps) in
    one_text c.args.decl.now.declaration c.args.text.now ps c.loop-rest.processes.items names t (whole_text c.args.decl.now.declaration c.args.text.now c.loop-rest.processes.items c.loop-rest.told c.loop-rest.rest.now (nil_from_length c.loop-rest.rest.now none) c.loop-rest.invariant)
