-- A step that can't be taken breaks one rule.
use Rattle.std.proofs.lemmas.Result.{err_from_is_err_and}
use Rattle.path_script.specs.ScriptLines.{ends}
use Rattle.path_script.specs.ScriptFaults.{no_rule, ends_inside}
use Rattle.path_script.proofs.Telling.{no_step}
use Rattle.path_script.proofs.steps.read_step.Goals as goal

pub returns-then-entered-gt0-clause-err : goal.returns-then-entered-gt0-clause-err
returns-then-entered-gt0-clause-err g c =
    let said = rw c.in_default.is at c.in_ok-step.ensures.end in
    no_rule ends tt said (ends_inside c.if-entered-gt0.true)

pub returns-in_err-check-clause-err : goal.returns-in_err-check-clause-err
returns-in_err-check-clause-err g c =
    let p = err_from_is_err_and c.from_residual-in_err-check.result c.from_residual-in_err-check.ensures.1 in
    let told = rw c.in-Some.is at c.in_ok-step.ensures.step in
    rw (p.1, p.2) (no_step c.args.decl.now.declaration c.args.steps c.args.entered c.args.line.now c.in-Some.step c.in_err-check.field-0.0 c.args.decl.now.lawful.operation_names.each told.0 told.1 c.in_err-check.ensures.err)
