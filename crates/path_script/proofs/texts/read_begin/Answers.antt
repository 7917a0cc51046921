-- Between processes only a process can begin.
use Rattle.std.proofs.Common.{inl, inr}
use Rattle.path_script.specs.ScriptFaults.{between, no_form, no_rule, many_processes}
use Rattle.path_script.specs.ScriptLines.{begins, enters, uses, leaves, ends}
use Rattle.path_script.proofs.Telling.{bad_place}
use Rattle.path_script.proofs.texts.read_begin.Goals as goal

pub returns-in_default-clause-err : goal.returns-in_default-clause-err
returns-in_default-clause-err c = λ d. no_form (λ l fit may e. c.in_default.ensures.err l fit e)

pub returns-in-Enter-clause-err : goal.returns-in-Enter-clause-err
returns-in-Enter-clause-err c = λ d. elim c.in-Enter.is [
  | inl p ↦ let told = rw p.1 at c.in-Ok.ensures.ok in bad_place d (between c.args.processes) c.args.line.now (enters p.0.now) told.0 told.1 (λ no. no)
  | inr q ↦ elim q [
    | inl p ↦ let told = rw p.1 at c.in-Ok.ensures.ok in bad_place d (between c.args.processes) c.args.line.now (uses p.0) told.0 told.1 (λ no. no)
    | inr r ↦ elim r [
      | inl p ↦ let told = rw p at c.in-Ok.ensures.ok in bad_place d (between c.args.processes) c.args.line.now leaves told.0 told.1 (λ no. no)
      | inr p ↦ let told = rw p at c.in-Ok.ensures.ok in bad_place d (between c.args.processes) c.args.line.now ends told.0 told.1 (λ no. no)
    ]
  ]
]

pub returns-then-processes-ge-MOST_PROCESSES-clause-err : goal.returns-then-processes-ge-MOST_PROCESSES-clause-err
returns-then-processes-ge-MOST_PROCESSES-clause-err c = λ d.
    let told = rw c.in-Process.is at c.in-Ok.ensures.ok in
    no_rule (begins c.in-Process.name.now) told.1 told.0 (many_processes c.if-processes-ge-MOST_PROCESSES.true)
