-- A copy of one more line.
use Rattle.std.proofs.Common.{◌∙◌, arith, rules}
use Rattle.path_workers.proofs.Counted.{found_more, found_there}
use Rattle.path_workers.proofs.merge.finds_each.Goals as goal

pub loop-place-preserved : goal.loop-place-preserved
loop-place-preserved g c = record {
  same = c.meets.ensures.same ∙ c.loop-place.invariant.same;
  found = found_more c.args.journal.now c.args.passes.now c.args.before c.loop-place.place c.loop-place.invariant.found
      (λ d. found_there c.args.journal.now c.args.passes.now c.loop-place.passes c.loop-place.place d _ c.loop-place.invariant.same (omega arith)
      (c.if-not-meets.ensures.met (search rules)));
}

pub returns-clause-found : goal.returns-clause-found
returns-clause-found g c = λ yes k d le lt. c.loop-place.invariant.found k d le (omega arith)
