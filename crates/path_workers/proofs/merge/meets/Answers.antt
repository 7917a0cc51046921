-- A slot changes, and no pass does.
use Rattle.std.proofs.Common.{◌≡◌, ◌∙◌, ap, refl, arith, rules, length, slice_set}
use Rattle.std.proofs.Math.ListN.{length-set}
use Rattle.std.proofs.lemmas.List.{set-get_or}
use Rattle.std.proofs.lemmas.List.Sums.{get_or-le-sum_by}
use borrow.Author.Rules.{scaled_Fits, scaled_fits≤}
use Rattle.path_workers.specs.Settled.{copies_in}
use Rattle.path_workers.proofs.merge.meets.Goals.{then-lowest-passes-via-then-lowest-passes, then-lowest-passes-via-else-lowest-passes+then-not-meets}
use Rattle.path_workers.proofs.merge.meets.Goals as goal

pub returns-then-is_empty-clause-same : goal.returns-then-is_empty-clause-same
returns-then-is_empty-clause-same g c = refl

pub slot-lowest-requires : goal.slot-lowest-requires
slot-lowest-requires g c κs = λ within. within

pub bounds-passes-lowest : goal.bounds-passes-lowest
bounds-passes-lowest g c = omega arith

pub meets-requires : goal.meets-requires
meets-requires g c κs = λ within. within

pub bounds-passes-lowest-2 : goal.bounds-passes-lowest-2
bounds-passes-lowest-2 g c = rw length-set (omega arith)

pub next_place-next-requires : goal.next_place-next-requires
next_place-next-requires g c κs = λ within. within

pub set_slot-requires : goal.set_slot-requires
set_slot-requires g c κs = λ within. within

pub sink-requires : goal.sink-requires
sink-requires g c κs = λ within. within

pub offset_bounds-0 : goal.offset_bounds-0
offset_bounds-0 g c = scaled_fits≤ 0 (length c.args.passes.now) _ (omega arith) c.well_formed.0.1

pub offset_bounds-passes-lowest : goal.offset_bounds-passes-lowest
offset_bounds-passes-lowest g c = scaled_Fits c.slot-lowest.result.pass (length c.args.passes.now) _ (omega arith) c.well_formed.0.1

pub offset_bounds-passes-lowest-2 : goal.offset_bounds-passes-lowest-2
offset_bounds-passes-lowest-2 g c = scaled_Fits c.slot-lowest.result.pass (length c.args.passes.now) _ (omega arith) c.well_formed.0.1

pub offset_bounds-0-2 : goal.offset_bounds-0-2
offset_bounds-0-2 g c = scaled_fits≤ 0 (length c.args.passes.now) _ (omega arith) c.well_formed.0.1

pub returns-clause-same : goal.returns-clause-same
returns-clause-same g c =
    let passes = c.args.passes.now in
    let lowest = c.slot-lowest.result.pass in
    let met = slice_set passes lowest c.meets.new.self in
    let same : met ≡ passes = ap (slice_set passes lowest) c.meets.ensures.same ∙ set-get_or passes lowest c.index-passes-lowest.result in
    c.sink.ensures ∙ ap (slice_set met 0) c.set_slot.ensures ∙ set-get_or met 0 c.index-passes-0-2.result ∙ same

pub returns-clause-met : goal.returns-clause-met
returns-clause-met g c = λ yes.
    let here = c.if-not-meets.ensures.met (search rules) in
    let all = get_or-le-sum_by (copies_in c.args.place c.args.line.now) c.args.passes.now c.slot-lowest.result.pass c.index-passes-lowest.result (omega arith) in
    omega (arith, here, all)

pub returns-then-lowest-passes-clause-same : goal.returns-then-lowest-passes-clause-same
returns-then-lowest-passes-clause-same g c = elim c.then-lowest-passes.branch [
  | then-lowest-passes-via-then-lowest-passes w ↦ w.passes-is
  | then-lowest-passes-via-else-lowest-passes+then-not-meets w ↦
      let passes = c.args.passes.now in
      let lowest = c.slot-lowest.result.pass in
      w.passes-is ∙ ap (slice_set passes lowest) w.meets.ensures.same ∙ set-get_or passes lowest w.index-passes-lowest.result
]
