-- One more count.
use Rattle.std.proofs.Common.{◌∙◌, ◌++◌, ◌∷◌, [], ap, sym, append_assoc, arith}
use Rattle.std.proofs.lemmas.List.{append-nil}
use Rattle.path_gate.proofs.Counted.{counts_more, no_counts}
use Rattle.path_gate.proofs.gate.Gate.push_counts.Goals as goal

pub loop-number-init : goal.loop-number-init
loop-number-init g c =
    let reserved = c.in_ok-reserve.ensures in
    record {
      counted = ([], sym (append-nil c.reserve.new.self.items), no_counts c.args.self.now);
      room = omega (arith, reserved.capacity, reserved.len);
    }

pub loop-number-preserved : goal.loop-number-preserved
loop-number-preserved g c =
    let so = c.loop-number.invariant.counted in
    let x = c.in_progress.result in
    let pushed = c.push_reserved.ensures in
    record {
      counted = (
        so.0 ++ x ∷ [],
        pushed.items ∙ ap (λ n. c.loop-number.row.items ++ n ∷ []) c.from.ensures ∙ ap (λ r. r ++ x ∷ []) so.1 ∙ append_assoc c.reserve.new.self.items so.0 (x ∷ []),
        counts_more c.args.self.now c.loop-number.number so.0 so.2 x c.in_progress.ensures.counted c.in_progress.type_inv c.in_progress.ensures.unnamed,
      );
      room = omega (arith, c.loop-number.invariant.room, pushed.len, pushed.capacity, c.loop-number-test.true);
    }
