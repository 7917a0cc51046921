-- A use begins with one number.
use Rattle.std.proofs.Common.{◌∷◌, ◌++◌, ◌∙◌, rules}
use Rattle.std.proofs.lemmas.Result.{err_from_is_err_and}
use Rattle.path_lines.specs.LineTexts.{verb_text}
use Rattle.path_fields.proofs.CallerLemmas.{same_number}
use Rattle.path_lines.proofs.EntryLemmas.{space_ends, number_spaced}
use Rattle.path_lines.proofs.entry.read_use.Goals as goal

pub returns-in_err-rest-clause-err : goal.returns-in_err-rest-clause-err
returns-in_err-rest-clause-err c =
    let found = c.in_ok-act.ensures.ok in
    rw (err_from_is_err_and c.from_residual-in_err-rest.result c.from_residual-in_err-rest.ensures.1).1 (λ n v rest lt fits end e.
    let p = same_number c.args.text.now c.in_ok-act.act n c.in_ok-act.rest.now (32 ∷ (verb_text v ++ rest)) found.0 found.2 (search rules) lt (space_ends (verb_text v ++ rest)) (e ∙ number_spaced n (verb_text v) rest) in
    c.in_err-rest.ensures.err (verb_text v ++ rest) p.1)

pub returns-in_err-verb-clause-err : goal.returns-in_err-verb-clause-err
returns-in_err-verb-clause-err c =
    let found = c.in_ok-act.ensures.ok in
    rw (err_from_is_err_and c.from_residual-in_err-verb.result c.from_residual-in_err-verb.ensures.1).1 (λ n v rest lt fits end e.
    let p = same_number c.args.text.now c.in_ok-act.act n c.in_ok-act.rest.now (32 ∷ (verb_text v ++ rest)) found.0 found.2 (search rules) lt (space_ends (verb_text v ++ rest)) (e ∙ number_spaced n (verb_text v) rest) in
    let same = p.1 in
    let cut = c.in_ok-rest.ensures.ok in
    c.in_err-verb.ensures.err v rest fits end cc)
