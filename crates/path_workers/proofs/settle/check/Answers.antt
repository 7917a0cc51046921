-- As many receipts as lines, and one for each.
use Rattle.std.proofs.Common.{◌≡◌, ◌-◌, length, subst, refl, arith, rules}
use Rattle.path_workers.specs.Settled.{receipts_of, AllCopied, IsFirstMismatch}
use Rattle.path_workers.proofs.Counted.{all_copied}
use Rattle.path_workers.proofs.settle.check.Goals as goal

pub returns-then-finds_each-clause-ok : goal.returns-then-finds_each-clause-ok
returns-then-finds_each-clause-ok g c =
    let count : receipts_of c.args.passes.now ≡ length c.args.journal.now - c.args.before = omega arith in
    (count, all_copied c.args.before c.args.journal.now c.args.passes.now count (c.if-finds_each.ensures.found (search rules)))

pub receipt_count-receipts-requires : goal.receipt_count-receipts-requires
receipt_count-receipts-requires g c κs = λ within. within

pub finds_each-requires : goal.finds_each-requires
finds_each-requires g c κs = λ within. within

pub first_mismatch-requires : goal.first_mismatch-requires
first_mismatch-requires g c κs = λ within. within

pub returns-then-lines-receipts-clause-same : goal.returns-then-lines-receipts-clause-same
returns-then-lines-receipts-clause-same g c = refl

pub returns-then-lines-receipts-clause-ok : goal.returns-then-lines-receipts-clause-ok
returns-then-lines-receipts-clause-ok g c = tt

pub returns-then-finds_each-clause-same : goal.returns-then-finds_each-clause-same
returns-then-finds_each-clause-same g c = c.finds_each.ensures.same

pub returns-then-finds_each-clause-err : goal.returns-then-finds_each-clause-err
returns-then-finds_each-clause-err g c = tt

pub returns-in-Some-clause-same : goal.returns-in-Some-clause-same
returns-in-Some-clause-same g c = c.finds_each.ensures.same

pub returns-in-Some-clause-ok : goal.returns-in-Some-clause-ok
returns-in-Some-clause-ok g c = tt

pub returns-in-None-clause-same : goal.returns-in-None-clause-same
returns-in-None-clause-same g c = c.finds_each.ensures.same

pub returns-in-None-clause-err : goal.returns-in-None-clause-err
returns-in-None-clause-err g c = tt

pub saturating_sub-lines-requires : goal.saturating_sub-lines-requires
saturating_sub-lines-requires g c = tt

pub returns-in-None-clause-ok : goal.returns-in-None-clause-ok
returns-in-None-clause-ok g c =
    let count : receipts_of c.args.passes.now ≡ length c.args.journal.now - c.args.before = omega arith in
    (count, subst (AllCopied c.args.before c.args.journal.now) c.finds_each.ensures.same c.in-None.ensures.none)

pub returns-in-Some-clause-err : goal.returns-in-Some-clause-err
returns-in-Some-clause-err g c =
    let count : receipts_of c.args.passes.now ≡ length c.args.journal.now - c.args.before = omega arith in
    (count, subst (λ held. IsFirstMismatch c.args.before c.args.journal.now held c.in-Some.place) c.finds_each.ensures.same c.in-Some.ensures.some)
