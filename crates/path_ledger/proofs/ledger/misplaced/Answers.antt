-- Each number is held against the least that may follow those before it.
use Rattle.std.proofs.Common.{arith, sym, subst, take}
use Rattle.std.proofs.lemmas.List.{take_all}
use Rattle.std.proofs.lemmas.Option.{slice_get-get_or}
use Rattle.path_model.specs.Journals.{AreNumbered}
use Rattle.path_ledger.proofs.Numbered.{ends_next, next_within, numbered_raise, too_low}
use Rattle.path_ledger.proofs.ledger.misplaced.Goals as goal

pub returns-then-activation-low-clause-some : goal.returns-then-activation-low-clause-some
returns-then-activation-low-clause-some c =
    let so_far = c.loop-place.invariant.least in
    record {
      before = numbered_raise 0 _ c.loop-place.low c.args.next c.loop-place.invariant.within so_far.numbered;
      activation = _;
      at = slice_get-get_or c.args.live.now c.loop-place.place _ c.loop-place-test.true;
      out = λ numbered. too_low _ c.loop-place.low _ so_far c.if-activation-low.true numbered;
    }

pub returns-then-activation-next-clause-some : goal.returns-then-activation-next-clause-some
returns-then-activation-next-clause-some c =
    let so_far = c.loop-place.invariant.least in
    record {
      before = numbered_raise 0 _ c.loop-place.low c.args.next c.loop-place.invariant.within so_far.numbered;
      activation = _;
      at = slice_get-get_or c.args.live.now c.loop-place.place _ c.loop-place-test.true;
      out = c.if-activation-next.true;
    }

pub loop-place-preserved : goal.loop-place-preserved
loop-place-preserved c = record {
  least = ends_next c.args.live.now c.loop-place.place _ c.loop-place.low c.loop-place-test.true c.loop-place.invariant.least c.if-activation-low.false;
  within = next_within _ _ c.if-activation-next.false;
}

pub returns-clause-none : goal.returns-clause-none
returns-clause-none c =
    let so_far = c.loop-place.invariant.least in
    subst (λ xs. AreNumbered xs c.args.next) (take_all c.loop-place.place c.args.live.now (let k = c.loop-place-test.false in omega (arith, k)))
    (numbered_raise 0 _ c.loop-place.low c.args.next c.loop-place.invariant.within so_far.numbered)
