-- The place is behind the lines that were passed, and on the first line that isn't.
use Rattle.std.proofs.Common.{refl, arith}
use Rattle.tell_places.proofs.Spots.{passed_none, passed_few, passed_more}
use Rattle.tell_places.proofs.places.spot_at.Goals as goal

pub loop-line-init : goal.loop-line-init
loop-line-init c = passed_none c.args.text.now _ c.min-left.result (omega (arith, c.min-left.ensures)) (omega arith)

pub spot_on-requires-clause-few : goal.spot_on-requires-clause-few
spot_on-requires-clause-few c =
    let few = passed_few _ _ _ _ _ c.loop-line.invariant in
    grind (arith, few)

pub overflow_add-lines : goal.overflow_add-lines
overflow_add-lines c =
    let few = passed_few _ _ _ _ _ c.loop-line.invariant in
    grind (arith, few)

pub loop-line-preserved : goal.loop-line-preserved
loop-line-preserved c =
    passed_more c.args.text.now _ c.loop-line.lines _ c.loop-line.rest.now c.in-Some.line.now c.in-Some.after.now c.loop-line.left _ c.loop-line.invariant
    c.in-Some.ensures.some c.in-Some.ensures.first c.if-left-line.false refl (omega (arith, c.if-left-line.false))

pub spot_on-requires-2-clause-few : goal.spot_on-requires-2-clause-few
spot_on-requires-2-clause-few c =
    let few = passed_few _ _ _ _ _ c.loop-line.invariant in
    grind (arith, few)
