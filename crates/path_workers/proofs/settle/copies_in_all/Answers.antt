-- The copies in one more pass.
use Rattle.std.proofs.Common.{◌≡◌, ℕ, ◌+◌, ◌∙◌, take, ap, sym, refl, arith, min, nat_cmp}
use Rattle.std.specs.Ordering.{ord_min}
use Rattle.std.proofs.lemmas.Grind.{common_steps}
use Rattle.std.proofs.lemmas.List.{take_all}
use Rattle.std.proofs.lemmas.List.Sums.{sum_by_more}
use Rattle.path_workers.specs.Settled.{copies, copies_in}
use Rattle.path_workers.proofs.settle.copies_in_all.Goals as goal

lower : (n : ℕ) → ord_min nat_cmp 2 n ≡ min 2 n
lower n = grind (arith, common_steps)

pub loop-pass-init : goal.loop-pass-init
loop-pass-init g c = refl

pub offset_bounds-passes-pass-index : goal.offset_bounds-passes-pass-index
offset_bounds-passes-pass-index g c = omega arith

pub bounds-passes-pass-index : goal.bounds-passes-pass-index
bounds-passes-pass-index g c = omega arith

pub copies-requires : goal.copies-requires
copies-requires g c κs = λ within. within

pub loop-pass-smaller : goal.loop-pass-smaller
loop-pass-smaller g c = omega arith

pub overflow_add-found : goal.overflow_add-found
overflow_add-found g c = record { fits = omega (arith, c.loop-pass.invariant, c.copies.ensures) }

pub returns : goal.returns
returns g c =
    c.loop-pass.invariant ∙ ap (λ passes. min 2 (copies c.args.place c.args.line.now passes)) (take_all c.loop-pass.pass-index c.args.passes.now (omega arith))

pub loop-pass-preserved : goal.loop-pass-preserved
loop-pass-preserved g c =
    let passes = c.args.passes.now in
    let i = c.loop-pass.pass-index in
    let here = copies_in c.args.place c.args.line.now in
    let before = copies c.args.place c.args.line.now (take i passes) in
    let more : copies c.args.place c.args.line.now (take (i + 1) passes) ≡ before + here c.pass-item.result = sum_by_more here passes i c.pass-item.result (omega arith) ∙ ap (λ h. before + here h) (sym c.pass-item.is) in
    omega (arith, more, lower (c.loop-pass.found + c.copies.result), c.loop-pass.invariant, c.copies.ensures, c.min-found.ensures)
