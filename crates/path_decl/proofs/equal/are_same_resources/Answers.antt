use Rattle.std.proofs.Common.{◌≡◌, ◌≤◌, length, arith}
use Rattle.std.proofs.lemmas.Bool.Decides.{nat_tests}
use Rattle.path_decl.proofs.SameLists.{alike_through}
use Rattle.path_decl.proofs.equal.are_same_resources.Goals as goal

pub returns : goal.returns
returns g c =
    let same : length c.args.left.now.declaration.resources ≡ length c.args.right.now.declaration.resources = grind (arith, nat_tests, c.if-total-counts.false, c.counts-total.ensures.resources, c.counts.ensures.resources) in
    let all : length c.args.left.now.declaration.resources ≤ c.loop-number.number = grind (arith, nat_tests, c.loop-number-test.false, c.counts-total.ensures.resources) in
    alike_through c.loop-number.number c.args.left.now.declaration.resources c.args.right.now.declaration.resources same all c.loop-number.invariant
