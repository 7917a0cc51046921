-- There is a place for the receipt, and what a pass keeps holds with it.
use Rattle.std.proofs.Common.{◌≡◌, ℕ, List, [], length, ap, sym, subst, ◌∙◌, arith}
use Rattle.std.specs.Prelude.{vec_len, vec_capacity}
use Rattle.path_model.specs.Segments.{joined}
use Rattle.path_workers.specs.declared.answer.Receipt.{Receipt}
use Rattle.path_workers.specs.Attempts.{receipts_then}
use Rattle.path_workers.specs.Inner.Holdings.{Rise, opens, places_for}
use Rattle.path_workers.proofs.MayGet.{gets_behind}
use Rattle.path_workers.proofs.Opens.{placed_of, has_place, kept, starts_alone}
use Rattle.path_workers.proofs.Rising.{rises_then}
use Rattle.path_workers.proofs.pass.Pass.make.Goals as goal

pub stamp-answer-requires : goal.stamp-answer-requires
stamp-answer-requires g c =
    let i = c.self.inside in
    let cap : ℕ = vec_capacity c.take_places.new.receipts in
    let placed = placed_of c.args.attempt i.receipts.items i.starts (vec_len c.take_places.new.receipts) cap (omega arith) c.in_ok-take_places.ensures.ok in
    let k = has_place c.args.attempt i.receipts.items i.starts cap placed (omega (arith, c.self.invariant.reserved, c.take_places.ensures.grown)) in
    omega (arith, k, c.take_places.ensures.len)

pub invariant_of-self-2 : goal.invariant_of-self-2
invariant_of-self-2 g c =
    let i = c.self.inside in
    let h = c.args.shared.now in
    let q = c.stamp-answer.result.reply in
    let s = c.stamp-answer.ensures in
    let cap : ℕ = vec_capacity c.take_places.new.receipts in
    let grown : ℕ = vec_capacity c.stamp-answer.new.receipts in
    let placed = placed_of c.args.attempt i.receipts.items i.starts (vec_len c.take_places.new.receipts) cap (omega arith) c.in_ok-take_places.ensures.ok in
    let may = gets_behind h.declaration h.room h.openings (joined h.earlier) h.journal i.worker c.args.attempt q s.owed in
    let alone : places_for c.args.attempt ≡ 1 → opens q [] ≡ 0 = starts_alone c.args.attempt q may in
    let gained : c.stamp-answer.new.receipts.items ≡ receipts_then i.receipts.items c.args.attempt c.stamp-answer.result.place q = s.receipts ∙ ap (λ rs. receipts_then rs c.args.attempt c.stamp-answer.result.place q) c.take_places.ensures.items in
    let left = kept c.args.attempt i.receipts.items c.stamp-answer.new.receipts.items c.stamp-answer.result.place q (length h.journal) i.starts cap grown placed (omega arith) (omega arith) (omega arith) alone s.place gained (omega arith) in
    let rising = rises_then i.receipts.items i.order.rises i.order.end c.args.attempt c.stamp-answer.result.place q c.then-self-inside.result.rises c.then-self-inside.result.end c.self.invariant.rising
    c.then-self-inside.ensures.none c.then-self-inside.ensures.end c.then-self-inside.ensures.rises in
    record {
      own_lines_are = omega arith;
      reserved = omega arith;
      owed = omega arith;
      counted = omega arith;
      rising = λ up. subst (λ (rs : List Receipt). Rise 0 rs c.then-self-inside.result.end) (sym gained) (rising up);
    }

pub returns-clause-kind : goal.returns-clause-kind
returns-clause-kind g c =
    let h = c.args.shared.now in
    gets_behind h.declaration h.room h.openings (joined h.earlier) h.journal c.self.inside.worker c.args.attempt c.stamp-answer.result.reply c.stamp-answer.ensures.owed
