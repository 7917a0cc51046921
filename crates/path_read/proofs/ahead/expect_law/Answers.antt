use Rattle.std.proofs.lemmas.Result.{err_from_is_err_and}
use Rattle.path_read.proofs.Following.{fails_then}
use Rattle.path_read.proofs.Laws.{is_cell, is_tally, is_queue, no_kind, no_capacity}
use Rattle.path_read.proofs.ahead.expect_law.Goals as goal

pub returns-in-Some-clause-ok : goal.returns-in-Some-clause-ok
returns-in-Some-clause-ok c = is_cell _ _ c.in-Some.ensures.some

pub returns-in-Some-after_word-clause-ok : goal.returns-in-Some-after_word-clause-ok
returns-in-Some-after_word-clause-ok c = is_tally _ _ c.in-Some-after_word.ensures.some

pub returns-in_err-sized-clause-err : goal.returns-in_err-sized-clause-err
returns-in_err-sized-clause-err c =
    let p = err_from_is_err_and c.from_residual.result c.from_residual.ensures.1 in
    rw (p.1, p.2) (fails_then _ (no_kind _ c.in_default.ensures.none c.in_default-after_word.ensures.none) c.in_err-sized.ensures.err)

pub returns-in_err-digits-clause-err : goal.returns-in_err-digits-clause-err
returns-in_err-digits-clause-err c =
    let p = err_from_is_err_and c.from_residual-in_err-digits.result c.from_residual-in_err-digits.ensures.1 in
    rw (p.1, p.2) (fails_then _ (no_capacity _ _ c.in_ok-sized.ensures.ok) c.in_err-digits.ensures.err)

pub returns-clause-ok : goal.returns-clause-ok
returns-clause-ok c = is_queue _ _ _ _ c.in_ok-sized.ensures.ok c.in_ok-digits.ensures.ok
