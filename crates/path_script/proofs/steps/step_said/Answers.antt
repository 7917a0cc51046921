-- A line has one form.
use Rattle.path_script.specs.ScriptLines.{begins, enters}
use Rattle.path_script.specs.ScriptFaults.{within, no_form, no_rule, unknown}
use Rattle.path_script.proofs.Telling.{bad_place, enter_told}
use Rattle.path_script.proofs.steps.step_said.Goals as goal

pub returns-in_default-clause-err : goal.returns-in_default-clause-err
returns-in_default-clause-err g c = λ k n. no_form (λ l fit may e. c.in_default.ensures.err l fit e)

pub returns-in-Process-clause-err : goal.returns-in-Process-clause-err
returns-in-Process-clause-err g c = λ k n.
    let told = rw c.in-Process.is at c.in-Ok.ensures.ok in
    bad_place c.args.decl.now.declaration (within k n) c.args.line.now (begins c.in-Process.field-0.now) told.0 told.1 (λ no. no)

pub returns-in-None-clause-err : goal.returns-in-None-clause-err
returns-in-None-clause-err g c = λ k n.
    let told = rw c.in-Enter.is at c.in-Ok.ensures.ok in
    no_rule (enters c.in-Enter.name.now) told.1 told.0 (unknown c.in-None.ensures.none)

pub returns-in-Some-clause-step : goal.returns-in-Some-clause-step
returns-in-Some-clause-step g c =
    let told = rw c.in-Enter.is at c.in-Ok.ensures.ok in
    enter_told c.args.decl.now.declaration c.args.line.now c.in-Enter.name.now c.in-Some.op told.0 c.in-Some.ensures.some

pub returns-in-Use-clause-step : goal.returns-in-Use-clause-step
returns-in-Use-clause-step g c = rw c.in-Use.is at c.in-Ok.ensures.ok

pub returns-in-Leave-clause-step : goal.returns-in-Leave-clause-step
returns-in-Leave-clause-step g c = rw c.in-Leave.is at c.in-Ok.ensures.ok
