-- The first byte decides the version, and the lines that were read are the lines of the text.
use Rattle.std.proofs.Common.{subst}
use Rattle.std.proofs.lemmas.Result.{err_from_is_err_and}
use Rattle.path_journal.specs.JournalTexts.{AreLinesOf, AreNoLines}
use Rattle.path_journal.specs.JournalFaults.{IsLinesFault}
use Rattle.path_journal.proofs.JournalLemmas.{old_once, old_none, old_fault, new_text, new_once, new_none, new_fault, bad_head, bad_head_none}
use Rattle.path_journal.proofs.journal.read_plain.Goals as goal

pub returns-in_err-lines-clause-err : goal.returns-in_err-lines-clause-err
returns-in_err-lines-clause-err g c =
    let p = err_from_is_err_and c.from_residual.result c.from_residual.ensures.1 in
    rw (p.1, p.2) (old_fault c.args.decl.now.declaration c.args.decl.now.lawful.operation_names c.args.text.now c.in_err-lines.field-0.0 c.in_default.ensures c.in_err-lines.ensures.err)

pub returns-in_err-lines-clause-none : goal.returns-in_err-lines-clause-none
returns-in_err-lines-clause-none g c =
    let p = err_from_is_err_and c.from_residual.result c.from_residual.ensures.1 in
    rw (p.1, p.2) (λ memory. old_none c.args.decl.now.declaration c.args.decl.now.lawful.operation_names c.args.text.now c.in_default.ensures (c.in_err-lines.ensures.none memory))

pub returns-in_default-clause-one : goal.returns-in_default-clause-one
returns-in_default-clause-one g c = old_once c.args.decl.now.declaration c.args.decl.now.lawful.operation_names c.args.text.now c.in_ok-lines.lines.items c.in_default.ensures c.in_ok-lines.ensures.ok

pub returns-in_default-read_head-clause-err : goal.returns-in_default-read_head-clause-err
returns-in_default-read_head-clause-err g c = bad_head c.args.decl.now.declaration c.args.decl.now.lawful.operation_names c.args.text.now c.in-Some.field-0.now c.in-Some.ensures c.in_default-read_head.ensures.err c.requires.other

pub returns-in_default-read_head-clause-none : goal.returns-in_default-read_head-clause-none
returns-in_default-read_head-clause-none g c = λ memory. bad_head_none c.args.decl.now.declaration c.args.decl.now.lawful.operation_names c.args.text.now c.in-Some.field-0.now c.in-Some.ensures c.in_default-read_head.ensures.err

pub returns-in_err-lines-2-clause-err : goal.returns-in_err-lines-2-clause-err
returns-in_err-lines-2-clause-err g c =
    let p = err_from_is_err_and c.from_residual-in_err-lines-2.result c.from_residual-in_err-lines-2.ensures.1 in
    let head = c.in-Ok.ensures.ok in
    let at = subst (λ x. IsLinesFault c.args.decl.now.declaration x 1 c.in_err-lines-2.field-0.0) c.after_line.ensures c.in_err-lines-2.ensures.err in
    rw (p.1, p.2) (new_fault c.args.decl.now.declaration c.args.decl.now.lawful.operation_names c.args.text.now c.in-Ok.rest.now c.in-Ok.room c.in_err-lines-2.field-0.0 head.0 head.2 head.1 at)

pub returns-in_err-lines-2-clause-none : goal.returns-in_err-lines-2-clause-none
returns-in_err-lines-2-clause-none g c =
    let p = err_from_is_err_and c.from_residual-in_err-lines-2.result c.from_residual-in_err-lines-2.ensures.1 in
    let head = c.in-Ok.ensures.ok in
    rw (p.1, p.2) (λ memory. (
    let none = subst (λ x. AreNoLines c.args.decl.now.declaration x) c.after_line.ensures (c.in_err-lines-2.ensures.none memory) in
    new_none c.args.decl.now.declaration c.args.decl.now.lawful.operation_names c.args.text.now c.in-Some.field-0.now c.in-Ok.rest.now c.in-Ok.room c.in-Some.ensures head.0 head.2 head.1 none))

pub returns-clause-ok : goal.returns-clause-ok
returns-clause-ok g c =
    let head = c.in-Ok.ensures.ok in
    let lines = subst (λ x. AreLinesOf c.args.decl.now.declaration x c.in_ok-lines-2.lines.items) c.after_line.ensures c.in_ok-lines-2.ensures.ok in
    new_text c.args.decl.now.declaration c.args.decl.now.lawful.operation_names c.args.text.now c.in-Ok.rest.now c.in-Ok.room c.in_ok-lines-2.lines.items head.0 head.2 head.1 lines

pub returns-clause-one : goal.returns-clause-one
returns-clause-one g c =
    let head = c.in-Ok.ensures.ok in
    let lines = subst (λ x. AreLinesOf c.args.decl.now.declaration x c.in_ok-lines-2.lines.items) c.after_line.ensures c.in_ok-lines-2.ensures.ok in
    new_once c.args.decl.now.declaration c.args.decl.now.lawful.operation_names c.args.text.now c.in-Some.field-0.now c.in-Ok.rest.now c.in-Ok.room c.in_ok-lines-2.lines.items c.in-Some.ensures head.0 head.2 head.1 lines
