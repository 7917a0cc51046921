-- An image is no longer than what was written, and each byte of it is there or zero.
use Rattle.std.proofs.Common.{inl, inr, arith}
use Rattle.path_store.proofs.Images.{image_short, image_at, image_from}
use Rattle.path_store.proofs.recovery.is_image.Goals as goal

pub returns-then-left-written-clause-no : goal.returns-then-left-written-clause-no
returns-then-left-written-clause-no c = λ i. let short = image_short c.args.written.now c.args.left.now i in let long = c.if-left-written.true in omega (arith, short, long)

pub returns-then-left-at-ne0-clause-no : goal.returns-then-left-at-ne0-clause-no
returns-then-left-at-ne0-clause-no c = λ i. elim (image_at c.args.written.now c.args.left.now c.loop-at.at i c.loop-at-test.true) [ inl same ↦ c.if-left-at.true same | inr none ↦ c.if-left-at-ne0.true none ]

pub returns-clause-yes : goal.returns-clause-yes
returns-clause-yes c = image_from c.args.written.now c.args.left.now (omega arith) (λ k lt. c.loop-at.invariant k (let past = c.loop-at-test.false in omega (arith, lt, past)))
