-- A head of version 3 names one room.
use Rattle.std.proofs.Common.{◌≡◌, ◌++◌, decimal, arith}
use Rattle.std.proofs.lemmas.Result.{err_from_is_err_and}
use Rattle.path_journal.proofs.HeadLemmas.{one_number}
use Rattle.path_journal.proofs.KeptHeads.{behind_kept_head}
use Rattle.path_journal.proofs.head.read_kept_head.Goals as goal

pub returns-in_err-named-clause-err : goal.returns-in_err-named-clause-err
returns-in_err-named-clause-err c =
    rw (err_from_is_err_and c.from_residual.result c.from_residual.ensures.1).1 (λ room rest is end e. c.in_err-named.ensures.err (decimal room ++ rest) e)

pub returns-then-room-eq0-clause-err : goal.returns-then-room-eq0-clause-err
returns-then-room-eq0-clause-err c = λ room rest is end e.
    let some = is.0 in
    let few = is.1 in
    let read = c.in_ok-room.ensures.ok in
    let zero = c.if-room-eq0.true in
    let p = one_number c.in_ok-named.named.now c.in_ok-room.room room c.in_ok-room.rest.now rest read.0 (omega (arith, zero)) read.2 (omega (arith, few)) end (behind_kept_head c.args.text.now c.in_ok-named.named.now room rest c.in_ok-named.ensures.ok e) in
    let same : c.in_ok-room.room ≡ room = p.0 in
    absurd (omega (arith, same, zero, some))
