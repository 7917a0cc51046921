-- The receipts of one more pass.
use Rattle.std.proofs.Common.{◌≡◌, ◌+◌, ◌∙◌, length, min, take, ap, sym, refl, arith}
use Rattle.std.proofs.lemmas.List.{take_all}
use Rattle.std.proofs.lemmas.List.Sums.{sum_by_more}
use Rattle.path_workers.specs.Settled.{receipts_of}
use Rattle.path_workers.proofs.settle.receipt_count.Goals as goal

pub loop-pass-init : goal.loop-pass-init
loop-pass-init g c = refl

pub offset_bounds-passes-pass-index : goal.offset_bounds-passes-pass-index
offset_bounds-passes-pass-index g c = omega arith

pub bounds-passes-pass-index : goal.bounds-passes-pass-index
bounds-passes-pass-index g c = omega arith

pub receipts-requires : goal.receipts-requires
receipts-requires g c κs = λ within. within

pub saturating_add-count-requires : goal.saturating_add-count-requires
saturating_add-count-requires g c = tt

pub loop-pass-smaller : goal.loop-pass-smaller
loop-pass-smaller g c = omega arith

pub loop-pass-preserved : goal.loop-pass-preserved
loop-pass-preserved g c =
    let passes = c.args.passes.now in
    let i = c.loop-pass.pass-index in
    let more : receipts_of (take (i + 1) passes) ≡ receipts_of (take i passes) + length c.pass-item.result.receipts =
    sum_by_more (λ h. length h.receipts) passes i c.pass-item.result (omega arith) ∙ ap (λ h. receipts_of (take i passes) + length h.receipts) (sym c.pass-item.is) in
    omega (arith, more, ap length c.receipts.ensures)

pub returns : goal.returns
returns g c =
    c.loop-pass.invariant ∙ ap (λ passes. min 18446744073709551615 (receipts_of passes)) (take_all c.loop-pass.pass-index c.args.passes.now (omega arith))
