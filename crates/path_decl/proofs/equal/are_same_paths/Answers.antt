use Rattle.std.proofs.Common.{◌≡◌, ◌≤◌, length, arith}
use Rattle.std.proofs.lemmas.Bool.Decides.{nat_tests}
use Rattle.path_decl.proofs.SameLists.{alike_through}
use Rattle.path_decl.proofs.equal.are_same_paths.Goals as goal

pub returns : goal.returns
returns g c =
    let same : length c.args.left.now.declaration.paths ≡ length c.args.right.now.declaration.paths = grind (arith, nat_tests, c.if-total-counts.false, c.counts-total.ensures.paths, c.counts.ensures.paths) in
    let all : length c.args.left.now.declaration.paths ≤ c.loop-number.number = grind (arith, nat_tests, c.loop-number-test.false, c.counts-total.ensures.paths) in
    alike_through c.loop-number.number c.args.left.now.declaration.paths c.args.right.now.declaration.paths same all c.loop-number.invariant
