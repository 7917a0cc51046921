use Rattle.std.proofs.Common.{arith, ℕ, List, below_more, get_or}
use Rattle.path_workers.specs.declared.answer.Receipt.{Receipt}
use Rattle.path_workers.specs.Attempts.{Held}
use Rattle.path_run.specs.declared.outcome.End.{End}
use Rattle.path_run.specs.Lines.{AreInOrder, IsCurrent, IsDisorder}
use Rattle.path_run.proofs.Orders.{held_at}
use Rattle.path_run.proofs.lines.first_disorder.Goals as goal

pub returns-in-Some-clause-some : goal.returns-in-Some-clause-some
returns-in-Some-clause-some g c = (
  c.loop-i.i,
  c.loop-i-test.true,
  c.loop-i.invariant,
  held_at (λ (rs : List Receipt) (x : End). IsDisorder c.args.journal.now rs x c.in-Some.place) c.args.closed_passes.now c.args.ends.now c.loop-i.i c.index-closed_passes-i.result c.receipts-receipts.result.now _
      c.loop-i-test.true c.requires c.index-closed_passes-i.is c.receipts-receipts.ensures c.in-Some.ensures.some,
)

pub loop-i-preserved : goal.loop-i-preserved
loop-i-preserved g c = λ i h e lt.
    below_more (λ (j : ℕ). (h' : Held) (e' : End) → AreInOrder c.args.journal.now (get_or c.args.closed_passes.now j h').receipts × IsCurrent c.args.journal.now (get_or c.args.closed_passes.now j h').receipts (get_or c.args.ends.now j e')) c.loop-i.i
    (λ j low h' e'. c.loop-i.invariant j h' e' low)
    (held_at (λ (rs : List Receipt) (x : End). AreInOrder c.args.journal.now rs × IsCurrent c.args.journal.now rs x) c.args.closed_passes.now c.args.ends.now c.loop-i.i c.index-closed_passes-i.result c.receipts-receipts.result.now _
    c.loop-i-test.true c.requires c.index-closed_passes-i.is c.receipts-receipts.ensures c.in_default.ensures.none) i lt h e

pub returns-clause-none : goal.returns-clause-none
returns-clause-none g c = λ i h e lt. c.loop-i.invariant i h e (omega (arith, lt, c.loop-i-test.false))
