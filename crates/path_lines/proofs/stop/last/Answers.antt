-- A text begins with one number.
use Rattle.std.proofs.Common.{◌<◌, ◌^◌, subst, sym, arith, rules}
use Rattle.std.proofs.lemmas.Result.{err_from_is_err_and}
use Rattle.path_fields.specs.Splits.{EndsAt}
use Rattle.path_fields.proofs.CallerLemmas.{feed_ends, same_number}
use Rattle.path_lines.proofs.stop.last.Goals as goal

pub returns-in_err-end-clause-err : goal.returns-in_err-end-clause-err
returns-in_err-end-clause-err c =
    let found = c.in_ok-value.ensures.ok in
    rw (err_from_is_err_and c.from_residual-in_err-end.result c.from_residual-in_err-end.ensures.1).1 (λ n rest few end e.
    let fits : n < 2 ^ 64 = let most = c.ranges.most.fits in omega (arith, few, most) in
    let p = same_number c.args.text.now c.in_ok-value.value n c.in_ok-value.rest.now rest found.0 found.2 (search rules) fits (feed_ends rest end) e in
    c.in_err-end.ensures.err (subst (EndsAt 10) (sym p.1) end))
