-- A text begins with one number.
use Rattle.std.proofs.Common.{◌<◌, ◌^◌, arith, rules}
use Rattle.path_fields.proofs.CallerLemmas.{same_number}
use Rattle.path_lines.proofs.stop.number_to.Goals as goal

pub returns-then-value-most-clause-err : goal.returns-then-value-most-clause-err
returns-then-value-most-clause-err c = λ n rest few end e.
    let fits : n < 2 ^ 64 = let most = c.ranges.most.fits in omega (arith, few, most) in
    let p = same_number c.args.text.now c.in-Some.value n c.in-Some.rest.now rest c.in-Some.ensures.some c.in-Some.ensures.end (search rules) fits end e in
    let same = p.0 in
    let more = c.if-value-most.true in
    absurd (omega (arith, same, few, more))
