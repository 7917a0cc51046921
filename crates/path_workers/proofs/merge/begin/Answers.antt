-- A slot changes, and no pass does.
use Rattle.std.proofs.Common.{◌∙◌, ap, refl, arith, length, slice_set}
use Rattle.std.proofs.lemmas.List.{set-get_or}
use borrow.Author.Rules.{scaled_Fits}
use Rattle.path_workers.proofs.merge.begin.Goals as goal

pub loop-slot-init : goal.loop-slot-init
loop-slot-init g c = refl

pub bounds-passes-slot : goal.bounds-passes-slot
bounds-passes-slot g c = omega arith

pub begin-requires : goal.begin-requires
begin-requires g c κs = λ within. within

pub loop-slot-smaller : goal.loop-slot-smaller
loop-slot-smaller g c = omega arith

pub returns : goal.returns
returns g c = c.loop-slot.invariant

pub offset_bounds-passes-slot : goal.offset_bounds-passes-slot
offset_bounds-passes-slot g c = scaled_Fits c.loop-slot.slot (length c.args.passes.now) _ (omega arith) c.well_formed.0.1

pub loop-slot-preserved : goal.loop-slot-preserved
loop-slot-preserved g c =
    ap (slice_set c.loop-slot.passes c.loop-slot.slot) c.begin.ensures ∙ set-get_or c.loop-slot.passes c.loop-slot.slot c.index-passes-slot.result ∙ c.loop-slot.invariant
