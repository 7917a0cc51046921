-- Two slots change, and no pass does.
use Rattle.std.proofs.Common.{◌≡◌, ◌∙◌, ap, arith, length, slice_set}
use Rattle.std.proofs.Math.ListN.{length-set}
use Rattle.std.proofs.lemmas.List.{set-get_or}
use borrow.Author.Rules.{scaled_Fits}
use Rattle.path_workers.proofs.merge.swap_slots.Goals as goal

pub offset_bounds-passes-one : goal.offset_bounds-passes-one
offset_bounds-passes-one g c = scaled_Fits c.args.one (length c.args.passes.now) _ (omega arith) c.well_formed.0.1

pub offset_bounds-passes-other : goal.offset_bounds-passes-other
offset_bounds-passes-other g c = scaled_Fits c.args.other (length c.args.passes.now) _ (omega arith) c.well_formed.0.1

pub offset_bounds-passes-one-then-other-passes : goal.offset_bounds-passes-one-then-other-passes
offset_bounds-passes-one-then-other-passes g c = scaled_Fits c.args.one (length c.args.passes.now) _ (omega arith) c.well_formed.0.1

pub offset_bounds-passes-other-then-other-passes : goal.offset_bounds-passes-other-then-other-passes
offset_bounds-passes-other-then-other-passes g c = scaled_Fits c.args.other (length c.args.passes.now) _ (omega arith) c.well_formed.0.1

pub bounds-passes-one : goal.bounds-passes-one
bounds-passes-one g c = omega arith

pub slot-held-requires : goal.slot-held-requires
slot-held-requires g c κs = λ within. within

pub bounds-passes-other : goal.bounds-passes-other
bounds-passes-other g c = omega arith

pub slot-found-requires : goal.slot-found-requires
slot-found-requires g c κs = λ within. within

pub bounds-passes-one-then-other-passes : goal.bounds-passes-one-then-other-passes
bounds-passes-one-then-other-passes g c = omega arith

pub set_slot-requires : goal.set_slot-requires
set_slot-requires g c κs = λ within. within

pub bounds-passes-other-then-other-passes : goal.bounds-passes-other-then-other-passes
bounds-passes-other-then-other-passes g c = rw length-set (omega arith)

pub set_slot-requires-then-other-passes : goal.set_slot-requires-then-other-passes
set_slot-requires-then-other-passes g c κs = λ within. within

pub returns-then-other-passes : goal.returns-then-other-passes
returns-then-other-passes g c =
    let passes = c.args.passes.now in
    let first = slice_set passes c.args.one c.set_slot.new.self in
    let same : first ≡ passes = ap (slice_set passes c.args.one) c.set_slot.ensures ∙ set-get_or passes c.args.one c.index-passes-one-then-other-passes.result in
    ap (slice_set first c.args.other) c.set_slot-then-other-passes.ensures ∙ set-get_or first c.args.other c.index-passes-other-then-other-passes.result ∙ same
