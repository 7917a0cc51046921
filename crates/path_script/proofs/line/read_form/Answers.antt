-- A line that begins as a use has a verb after that, up to its end.
use Rattle.std.proofs.Common.{◌≡◌, ◌++◌, ◌∙◌, ap, codes}
use Rattle.std.proofs.lemmas.Result.{err_from_is_err_and}
use Rattle.path_script.proofs.LineLemmas.{no_use, no_word, whole}
use Rattle.path_lines.specs.LineTexts.{verb_text}
use Rattle.path_script.proofs.line.read_form.Goals as goal

pub returns-in_err-verb-clause-err : goal.returns-in_err-verb-clause-err
returns-in_err-verb-clause-err c =
    let used : c.args.line.now ≡ codes "use " ++ c.in_ok-rest.rest.now = let e = c.in-Some.ensures.some in let f = c.in_ok-rest.ensures.ok in cc in
    rw (err_from_is_err_and c.from_residual-in_err-verb.result c.from_residual-in_err-verb.ensures.1).1 (no_use c.args.line.now c.in_ok-rest.rest.now used c.in_err-verb.ensures.err)

pub returns-in-Some-clause-ok : goal.returns-in-Some-clause-ok
returns-in-Some-clause-ok c =
    let read = c.in_ok-verb.ensures.ok in
    let used : c.args.line.now ≡ codes "use " ++ c.in_ok-rest.rest.now = let e = c.in-Some.ensures.some in let f = c.in_ok-rest.ensures.ok in cc in
    (whole c.args.line.now (codes "use " ++ verb_text c.in_ok-verb.verb) c.in_ok-verb.field-0-1.now c.requires (used ∙ ap (λ v. codes "use " ++ v) read.0) read.2, read.1)

pub returns-in_default-keyword-4-clause-err : goal.returns-in_default-keyword-4-clause-err
returns-in_default-keyword-4-clause-err c =
    no_word c.args.line.now c.in_default.ensures.spaced c.in_default-keyword.ensures.spaced c.in_default-keyword-2.ensures.spaced c.in_default-keyword-3.ensures.ended c.in_default-keyword-4.ensures.ended
