-- A run is put at the end.
use Rattle.std.proofs.Common.{◌≡◌, ◌<◌, ◌∙◌, [], length, get_or, refl, sym, ap, subst, arith}
use Rattle.std.proofs.lemmas.List.{get_or-map, length-map, take_all}
use Rattle.std.proofs.lemmas.List.Elements.{All-nil}
use Rattle.path_gate.specs.Inner.Initial.{rows_of}
use Rattle.path_gate.proofs.Runs.{run_joined}
use Rattle.path_gate.proofs.gate.table.in_one_list.Goals as goal

pub loop-run-init : goal.loop-run-init
loop-run-init g c = rw c.in_ok-ranges.ensures.items (record { runs = refl; laid_out = All-nil _ })

pub loop-run-preserved : goal.loop-run-preserved
loop-run-preserved g c =
    let i = c.loop-run.run-index in
    let by_op = c.args.by_op.now in
    let run = c.run-item.result in
    let l : i < length by_op = omega arith in
    let inside : i < length (rows_of by_op) = subst (λ n. i < n) (sym (length-map by_op (λ terms. terms.items))) l in
    let at : get_or (rows_of by_op) i [] ≡ c.deref.result.now = get_or-map (λ terms. terms.items) by_op i run [] l ∙ ap (λ terms. terms.items) (sym c.run-item.is) ∙ sym c.deref.ensures.value in
    let joined = run_joined c.loop-run.terms.items c.deref.result.now c.extend_from_slice.new.self.items c.loop-run.ranges.items c.push.new.self.items c.len-start.result c.len.result (rows_of by_op) i inside at
    c.in_ok-extend_from_slice.ensures.items c.in_ok-push.ensures.items (c.len-start.ensures ∙ c.loop-run.terms.ok.0) (c.len.ensures ∙ c.extend_from_slice.new.self.ok.0) c.loop-run.invariant.laid_out c.loop-run.invariant.runs in
    record { runs = joined.0; laid_out = joined.1 }

pub returns-clause-laid_out : goal.returns-clause-laid_out
returns-clause-laid_out g c = c.loop-run.invariant.laid_out

pub returns-clause-runs : goal.returns-clause-runs
returns-clause-runs g c =
    let rows = rows_of c.args.by_op.now in
    c.loop-run.invariant.runs ∙ take_all c.loop-run.run-index rows (omega (arith, length-map c.args.by_op.now (λ terms. terms.items)))
