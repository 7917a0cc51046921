use Rattle.std.proofs.Common.{◌≡◌, ◌≤◌, length, arith}
use Rattle.std.proofs.lemmas.Bool.Decides.{nat_tests}
use Rattle.path_decl.proofs.SameLists.{alike_through}
use Rattle.path_decl.proofs.equal.are_same_operations.Goals as goal

pub returns : goal.returns
returns g c =
    let same : length c.args.left.now.declaration.operations ≡ length c.args.right.now.declaration.operations = grind (arith, nat_tests, c.if-total-counts.false, c.counts-total.ensures.operations, c.counts.ensures.operations) in
    let all : length c.args.left.now.declaration.operations ≤ c.loop-number.number = grind (arith, nat_tests, c.loop-number-test.false, c.counts-total.ensures.operations) in
    alike_through c.loop-number.number c.args.left.now.declaration.operations c.args.right.now.declaration.operations same all c.loop-number.invariant
