-- One more way is looked at.
use Rattle.std.proofs.Common.{below_more, arith}
use Rattle.path_order.proofs.ruling.first_shut.Goals as goal

pub returns-then-is_shut : goal.returns-then-is_shut
returns-then-is_shut g c = λ gate run h x alike are. (omega arith, c.is_shut.ensures.yes c.if-is_shut.true gate run h x alike are)

pub loop-place-preserved : goal.loop-place-preserved
loop-place-preserved g c = λ gate run h x alike are. below_more _ _ (c.loop-place.invariant gate run h x alike are) (c.is_shut.ensures.no c.if-is_shut.false gate run h x alike are)

pub returns : goal.returns
returns g c = λ gate run h x alike are j l. c.loop-place.invariant gate run h x alike are j (let le = c.loop-place-test.false in omega (arith, l, le))
