-- A text begins with one number.
use Rattle.std.proofs.Common.{◌≡◌, ◌<◌, ◌^◌, rules, arith}
use Rattle.path_head.proofs.Numbers.{number_is}
use Rattle.path_head.proofs.number.number_before.Goals as goal

pub returns-then-value-most-clause-none : goal.returns-then-value-most-clause-none
returns-then-value-most-clause-none c = λ n rest le e.
    let fits : n < 2 ^ 64 = let most = c.ranges.most.fits in omega (arith, le, most) in
    let p = number_is c.args.text.now c.args.end.now c.in_ok-value.value n c.in_ok-value.rest.now rest c.requires c.in_ok-value.ensures.some c.in_ok-value.ensures.end (search rules) fits e in
    let same : c.in_ok-value.value ≡ n = p.0 in
    let more = c.if-value-most.true in
    omega (arith, same, more, le)

pub returns-in_err-rest-clause-none : goal.returns-in_err-rest-clause-none
returns-in_err-rest-clause-none c =
    rw c.from_residual-in_err-rest.ensures (λ n rest le e.
    let fits : n < 2 ^ 64 = let most = c.ranges.most.fits in omega (arith, le, most) in
    let p = number_is c.args.text.now c.args.end.now c.in_ok-value.value n c.in_ok-value.rest.now rest c.requires c.in_ok-value.ensures.some c.in_ok-value.ensures.end (search rules) fits e in
    c.in_err-rest.ensures rest p.1)
