use Rattle.std.proofs.Common.{ap, subst, arith, inl, Err}
use Rattle.std.proofs.lemmas.Result.{err_from_is_err_and}
use Rattle.path_lex.specs.Spelling.{name, number, views, FirstLong}
use Rattle.path_lex.proofs.Lengths.{none_long_word, none_long_number, refuses_long, names_word, names_number}
use Rattle.path_lex.proofs.lex.tokens.Goals as goal

pub returns-in_err-check_lengths-clause-err : goal.returns-in_err-check_lengths-clause-err
returns-in_err-check_lengths-clause-err g c =
    let p = err_from_is_err_and c.from_residual-in_err-check_lengths.result c.from_residual-in_err-check_lengths.ensures.1 in
    rw (p.1, p.2) (refuses_long c.args.text.now (views c.in_ok-tokens.tokens.items) c.in_err-check_lengths.field-0.0 (omega arith) c.in_ok-tokens.ensures.ok c.in_ok-tokens.ensures.only (rw c.deref.ensures.value at c.in_err-check_lengths.ensures.err))

pub returns-in_err-check_lengths-clause-word_too_long : goal.returns-in_err-check_lengths-clause-word_too_long
returns-in_err-check_lengths-clause-word_too_long g c = λ at le long.
    let p = err_from_is_err_and c.from_residual-in_err-check_lengths.result c.from_residual-in_err-check_lengths.ensures.1 in
    let long_here = subst (λ ts. FirstLong ts name 32 at) (c.in_ok-tokens.ensures.only long.0 long.1) long.2 in
    inl (rw (p.1, p.2) (ap Err (names_word _ _ at (rw c.deref.ensures.value at c.in_err-check_lengths.ensures.err) long_here)))

pub returns-in_err-check_lengths-clause-number_too_long : goal.returns-in_err-check_lengths-clause-number_too_long
returns-in_err-check_lengths-clause-number_too_long g c = λ at le long.
    let p = err_from_is_err_and c.from_residual-in_err-check_lengths.result c.from_residual-in_err-check_lengths.ensures.1 in
    let long_here = subst (λ ts. FirstLong ts number 9 at) (c.in_ok-tokens.ensures.only long.0 long.1) long.2 in
    inl (rw (p.1, p.2) (ap Err (names_number _ _ at (rw c.deref.ensures.value at c.in_err-check_lengths.ensures.err) long_here)))

pub returns-clause-word_too_long : goal.returns-clause-word_too_long
returns-clause-word_too_long g c = λ at le long.
    let within = rw c.deref.ensures.value at c.in_ok-check_lengths.ensures.ok in
    absurd (none_long_word (subst (λ ts. FirstLong ts name 32 at) (c.in_ok-tokens.ensures.only long.0 long.1) long.2) within)

pub returns-clause-number_too_long : goal.returns-clause-number_too_long
returns-clause-number_too_long g c = λ at le long.
    let within = rw c.deref.ensures.value at c.in_ok-check_lengths.ensures.ok in
    absurd (none_long_number (subst (λ ts. FirstLong ts number 9 at) (c.in_ok-tokens.ensures.only long.0 long.1) long.2) within)
