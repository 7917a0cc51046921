-- A line has one room.
use Rattle.std.proofs.Common.{◌≡◌, ◌++◌, ◌∷◌, codes, decimal, sym, ◌∙◌, arith}
use Rattle.std.proofs.lemmas.List.{append_cancel_left}
use Rattle.path_head.proofs.Facts.{feed_ends}
use Rattle.path_head.proofs.Fronts.{step}
use Rattle.path_head.proofs.front.room_line.Goals as goal

pub returns-in_err-rest-clause-none : goal.returns-in_err-rest-clause-none
returns-in_err-rest-clause-none c = rw c.from_residual.ensures (λ room rest is e. c.in_err-rest.ensures (decimal room ++ 10 ∷ rest) e)

pub returns-then-room-eq0-clause-none : goal.returns-then-room-eq0-clause-none
returns-then-room-eq0-clause-none c = λ room rest is e.
    let read = c.in_ok-room.ensures.some in
    let zero = c.if-room-eq0.true in
    let p = step (codes "\n") c.in_ok-rest.rest.now c.in_ok-room.room room c.in_ok-room.rest.now rest feed_ends (omega (arith, zero)) (omega (arith, is.1)) read.0 (append_cancel_left (codes "journal 4 room ") _ _ (sym c.in_ok-rest.ensures ∙ e)) in
    let same : c.in_ok-room.room ≡ room = p.0 in
    omega (arith, same, zero, is.0)
