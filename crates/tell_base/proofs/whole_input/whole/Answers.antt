-- Each way out of the loop cuts the input.
use Rattle.std.proofs.Common.{refl}
use Rattle.path_fields.proofs.CallerLemmas.{is_text, is_other}
use Rattle.tell_base.proofs.WholeLemmas.{passes, ends_at_mark, ends_at_last, ends_past, only_cut}
use Rattle.tell_base.proofs.whole_input.whole.Goals as goal

pub returns-then-eq : goal.returns-then-eq
returns-then-eq c =
    let k = ends_at_mark _ _ _ _ _ c.in-Some.ensures.some (is_text _ _ _ _ c.as_slice.ensures c.if-eq.true c.eq.ensures) c.loop-line.invariant in
    record { cuts = k; only = only_cut k }

pub loop-line-preserved : goal.loop-line-preserved
loop-line-preserved c = passes _ _ _ _ _ _ c.in-Some.ensures.some c.in-Some.ensures.first (is_other _ _ _ _ c.as_slice.ensures c.if-eq.false c.eq.ensures) refl c.loop-line.invariant

pub returns-then-eq-2 : goal.returns-then-eq-2
returns-then-eq-2 c =
    let k = ends_at_last _ _ _ (is_text _ _ _ _ c.as_slice-2.ensures c.if-eq-2.true c.eq-2.ensures) c.loop-line.invariant in
    record { cuts = k; only = only_cut k }

pub returns : goal.returns
returns c =
    let k = ends_past _ _ _ c.in_default.ensures.none (is_other _ _ _ _ c.as_slice-2.ensures c.if-eq-2.false c.eq-2.ensures) c.loop-line.invariant in
    record { cuts = k; only = only_cut k }
