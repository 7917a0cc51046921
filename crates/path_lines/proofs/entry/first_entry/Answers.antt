-- A line is cut after the worker's number, and a line that isn't an attempt refutes each text with that line.
use Rattle.std.proofs.Common.{◌≡◌, ◌<◌, ◌^◌, arith, ◌∷◌, ◌++◌, ◌∙◌, ap, decimal, sym}
use Rattle.std.proofs.lemmas.Result.{err_from_is_err_and}
use Rattle.path_lines.specs.LineTexts.{attempt_text, line_text}
use Rattle.path_lines.specs.declared.entry.LineFault.TheVariants.{Bad}
use Rattle.path_lines.proofs.EntryLemmas.{no_number, no_space, front_fault, attempt_fault, number_spaced, is_first}
use Rattle.path_lines.proofs.AttemptLemmas.{no_rest, line_is_line}
use Rattle.path_lines.proofs.entry.first_entry.Goals as goal

pub returns-in_err-worker-clause-err : goal.returns-in_err-worker-clause-err
returns-in_err-worker-clause-err g c =
    let p = err_from_is_err_and c.from_residual.result c.from_residual.ensures.1 in
    rw (p.1, p.2, c.in_err-worker.ensures.bad) (front_fault c.args.decl.now.declaration c.args.text.now (no_number c.args.text.now c.in_err-worker.ensures.err))

pub returns-in_err-worker-clause-none : goal.returns-in_err-worker-clause-none
returns-in_err-worker-clause-none g c =
    rw (err_from_is_err_and c.from_residual.result c.from_residual.ensures.1).1
    (no_rest c.args.decl.now.declaration c.args.text.now Bad c.args.decl.now.lawful.operation_names.each (front_fault c.args.decl.now.declaration c.args.text.now (no_number c.args.text.now c.in_err-worker.ensures.err)))

pub returns-in_err-rest-clause-err : goal.returns-in_err-rest-clause-err
returns-in_err-rest-clause-err g c =
    let p = err_from_is_err_and c.from_residual-in_err-rest.result c.from_residual-in_err-rest.ensures.1 in
    rw (p.1, p.2, c.in_err-rest.ensures.bad) (front_fault c.args.decl.now.declaration c.args.text.now (no_space c.args.text.now c.in_ok-worker.worker c.in_ok-worker.rest.now c.in_ok-worker.ensures.ok c.in_err-rest.ensures.err))

pub returns-in_err-rest-clause-none : goal.returns-in_err-rest-clause-none
returns-in_err-rest-clause-none g c =
    rw (err_from_is_err_and c.from_residual-in_err-rest.result c.from_residual-in_err-rest.ensures.1).1
    (no_rest c.args.decl.now.declaration c.args.text.now Bad c.args.decl.now.lawful.operation_names.each (front_fault c.args.decl.now.declaration c.args.text.now (no_space c.args.text.now c.in_ok-worker.worker c.in_ok-worker.rest.now c.in_ok-worker.ensures.ok c.in_err-rest.ensures.err)))

pub returns-in_err-attempt-clause-err : goal.returns-in_err-attempt-clause-err
returns-in_err-attempt-clause-err g c =
    let p = err_from_is_err_and c.from_residual-in_err-attempt.result c.from_residual-in_err-attempt.ensures.1 in
    let small : c.in_ok-worker.worker < 2 ^ 32 = let few = c.in_ok-worker.ensures.ok.1 in omega (arith, few) in
    let whole : c.args.text.now ≡ decimal c.in_ok-worker.worker ++ (32 ∷ c.in_ok-rest.rest.now) = let e = c.in_ok-worker.ensures.ok.0 in let cut = c.in_ok-rest.ensures.ok in cc in
    rw (p.1, p.2) (attempt_fault c.args.decl.now.declaration c.args.text.now c.in_ok-worker.worker c.in_ok-rest.rest.now c.in_err-attempt.field-0.0.fault small whole c.in_err-attempt.ensures.err c.in_err-attempt.ensures.fault)

pub returns-in_err-attempt-clause-none : goal.returns-in_err-attempt-clause-none
returns-in_err-attempt-clause-none g c =
    let small : c.in_ok-worker.worker < 2 ^ 32 = let few = c.in_ok-worker.ensures.ok.1 in omega (arith, few) in
    let whole : c.args.text.now ≡ decimal c.in_ok-worker.worker ++ (32 ∷ c.in_ok-rest.rest.now) = let e = c.in_ok-worker.ensures.ok.0 in let cut = c.in_ok-rest.ensures.ok in cc in
    rw (err_from_is_err_and c.from_residual-in_err-attempt.result c.from_residual-in_err-attempt.ensures.1).1
    (no_rest c.args.decl.now.declaration c.args.text.now c.in_err-attempt.field-0.0.fault c.args.decl.now.lawful.operation_names.each (attempt_fault c.args.decl.now.declaration c.args.text.now c.in_ok-worker.worker c.in_ok-rest.rest.now c.in_err-attempt.field-0.0.fault small whole c.in_err-attempt.ensures.err c.in_err-attempt.ensures.fault))

pub returns-clause-line : goal.returns-clause-line
returns-clause-line g c =
    let read = c.in_ok-attempt.ensures.ok in
    let small : c.in_ok-worker.worker < 2 ^ 32 = let few = c.in_ok-worker.ensures.ok.1 in omega (arith, few) in
    let whole : c.args.text.now ≡ decimal c.in_ok-worker.worker ++ (32 ∷ c.in_ok-rest.rest.now) = let e = c.in_ok-worker.ensures.ok.0 in let cut = c.in_ok-rest.ensures.ok in cc in
    let spelled : c.args.text.now ≡ line_text c.args.decl.now.declaration c.in_ok-worker.worker c.in_ok-attempt.attempt ++ c.in_ok-attempt.rest.now = whole ∙ ap (λ v. decimal c.in_ok-worker.worker ++ (32 ∷ v)) read.0 ∙ sym (number_spaced c.in_ok-worker.worker (attempt_text c.args.decl.now.declaration c.in_ok-attempt.attempt) c.in_ok-attempt.rest.now) in
    is_first (line_text c.args.decl.now.declaration c.in_ok-worker.worker c.in_ok-attempt.attempt) c.in_ok-attempt.rest.now c.args.text.now (line_is_line c.args.decl.now.declaration (c.in_ok-worker.worker, c.in_ok-attempt.attempt) c.args.decl.now.lawful.operation_names.each (small, read.1)) read.2 spelled
