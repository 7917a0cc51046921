-- Each line is passed, and there are no more lines than line feeds.
use Rattle.std.proofs.Common.{refl, arith}
use Rattle.tell_places.proofs.Spots.{behind_none, behind_more, behind_short, if_none}
use Rattle.tell_places.proofs.places.behind.Goals as goal

pub loop-count-init : goal.loop-count-init
loop-count-init c = record { behind = behind_none c.args.text.now; few = omega arith }

pub returns-in_err-after-clause-none : goal.returns-in_err-after-clause-none
returns-in_err-after-clause-none c =
    if_none c.from_residual.result _
    (behind_short c.args.text.now c.loop-count.rest.now c.loop-count.count c.args.lines c.loop-count.invariant.behind c.in_err-after.ensures.none c.loop-count-test.true)

pub loop-count-preserved : goal.loop-count-preserved
loop-count-preserved c = record {
  behind = behind_more c.args.text.now c.loop-count.rest.now _ _ c.loop-count.count _ c.loop-count.invariant.behind c.in_ok-after.ensures.some c.in_ok-after.ensures.first refl;
  few = omega arith;
}
