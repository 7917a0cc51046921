-- A head of version 3 decides, and the lines behind it are the lines of the text.
use Rattle.std.proofs.Common.{◌≡◌, ◌++◌, ◌∷◌, ap, ◌∙◌}
use Rattle.std.proofs.lemmas.Result.{IfOk-weaker, IfErr-weaker, err_from_is_err_and}
use Rattle.path_journal.specs.JournalTexts.{kept_head}
use Rattle.path_journal.proofs.KeptJournals.{kept_once, kept_none, open_none, plain_once, plain_none, kept_text_fault}
use Rattle.path_journal.proofs.journal.read_journal.Goals as goal

pub returns-in_default-clause-one : goal.returns-in_default-clause-one
returns-in_default-clause-one g c = IfOk-weaker c.read_plain.result _ _ (λ j one. plain_once c.args.decl.now.declaration c.args.decl.now.lawful.operation_names c.args.text.now j.room j.lines.items c.in_default.ensures.err one) c.read_plain.ensures.one

pub returns-in_default-clause-none : goal.returns-in_default-clause-none
returns-in_default-clause-none g c = IfErr-weaker c.read_plain.result _ _ (λ e none long memory. plain_none c.args.decl.now.declaration c.args.decl.now.lawful.operation_names c.args.text.now c.in_default.ensures.err (none memory)) c.read_plain.ensures.none

pub returns-in_default-strip-clause-none : goal.returns-in_default-strip-clause-none
returns-in_default-strip-clause-none g c = λ long memory.
    let head = c.in-Ok.ensures.ok in
    open_none c.args.decl.now.declaration c.args.decl.now.lawful.operation_names c.args.text.now c.in-Ok.rest.now c.in-Ok.named head.1 head.2 head.0 c.in_default-strip.ensures

pub returns-in_err-lines-clause-err : goal.returns-in_err-lines-clause-err
returns-in_err-lines-clause-err g c =
    let p = err_from_is_err_and c.from_residual.result c.from_residual.ensures.1 in
    let head = c.in-Ok.ensures.ok in
    let whole : c.args.text.now ≡ kept_head c.in-Ok.named ++ 10 ∷ c.in-Some.body.now = head.0 ∙ ap (λ x. kept_head c.in-Ok.named ++ x) c.in-Some.ensures in
    rw (p.1, p.2) (kept_text_fault c.args.decl.now.declaration c.args.text.now c.in-Some.body.now c.in-Ok.named c.in_err-lines.field-0.0 head.1 whole c.in_err-lines.ensures.err)

pub returns-in_err-lines-clause-none : goal.returns-in_err-lines-clause-none
returns-in_err-lines-clause-none g c =
    let p = err_from_is_err_and c.from_residual.result c.from_residual.ensures.1 in
    let head = c.in-Ok.ensures.ok in
    let whole : c.args.text.now ≡ kept_head c.in-Ok.named ++ 10 ∷ c.in-Some.body.now = head.0 ∙ ap (λ x. kept_head c.in-Ok.named ++ x) c.in-Some.ensures in
    rw (p.1, p.2) (λ long memory. kept_none c.args.decl.now.declaration c.args.decl.now.lawful.operation_names c.args.text.now c.in-Some.body.now c.in-Ok.named head.1 whole (c.in_err-lines.ensures.none memory))

pub returns-clause-one : goal.returns-clause-one
returns-clause-one g c =
    let head = c.in-Ok.ensures.ok in
    let whole : c.args.text.now ≡ kept_head c.in-Ok.named ++ 10 ∷ c.in-Some.body.now = head.0 ∙ ap (λ x. kept_head c.in-Ok.named ++ x) c.in-Some.ensures in
    kept_once c.args.decl.now.declaration c.args.decl.now.lawful.operation_names c.args.text.now c.in-Some.body.now c.in-Ok.named c.in_ok-lines.lines.items head.1 whole c.in_ok-lines.ensures.ok
