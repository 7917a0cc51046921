-- One more is looked at.
use Rattle.std.proofs.Common.{below_more, arith}
use Rattle.path_order.proofs.ruling.first_taken.Goals as goal

pub returns-then-is_taken : goal.returns-then-is_taken
returns-then-is_taken g c = λ run h x are. (omega arith, c.is_taken.ensures.yes c.if-is_taken.true run h x are)

pub loop-place-preserved : goal.loop-place-preserved
loop-place-preserved g c = λ run h x are. below_more _ _ (c.loop-place.invariant run h x are) (c.is_taken.ensures.no c.if-is_taken.false run h x are)

pub returns : goal.returns
returns g c = λ run h x are j l. c.loop-place.invariant run h x are j (let le = c.loop-place-test.false in omega (arith, l, le))
