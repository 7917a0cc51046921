-- One more is held back, or it is next.
use Rattle.std.proofs.Common.{◌∙◌, ◌+◌, List, arith, below_more, sym, subst}
use Rattle.path_model.specs.declared.ids.OpId.{OpId}
use Rattle.path_order.specs.Waiting.{ops_of}
use Rattle.path_order.proofs.Behind.{IsTrying, held_like}
use Rattle.path_order.proofs.Ruled.{goes_next, held_back, over_still}
use Rattle.path_order.proofs.ruling.first_free.Goals as goal
use Rattle.path_order.proofs.ruling.first_free.Goals.{then-not-is_behind+in_ok-rule_next+in_default, else-not-is_behind}

pub returns-in-Goes-clause-next : goal.returns-in-Goes-clause-next
returns-in-Goes-clause-next g c = λ h is at.
    goes_next c.args.gate.now.paths c.args.spares.now.paths c.loop-place.spares.paths (ops_of c.args.running.now) h c.args.waiting.now c.loop-place.place _ c.loop-place.invariant.paths
    c.in_ok-rule_next.field-0 c.in-Goes.is (c.in_ok-rule_next.ensures.ruled h is at) (grind arith) c.loop-place-test.true (c.loop-place.invariant.back h is at)

pub loop-place-init : goal.loop-place-init
loop-place-init g c = record {
  ready = c.in_ok-clear_all.ensures.ready;
  operations = c.in_ok-clear_all.ensures.operations;
  paths = c.in_ok-clear_all.ensures.paths;
  over = c.in_ok-clear_all.ensures.over;
  back = λ h is at k l. absurd (omega (arith, l));
}

pub loop-place-preserved : goal.loop-place-preserved
loop-place-preserved g c =
    let run : List OpId = ops_of c.args.running.now in
    let ws = c.args.waiting.now in
    let inv = c.loop-place.invariant in
    elim c.if-not-is_behind.branch [
      | then-not-is_behind+in_ok-rule_next+in_default w ↦
          subst (λ s. IsTrying c.args.gate.now c.args.spares.now run ws (c.loop-place.place + 1) s) (sym w.spares-is) (record {
            ready = w.in_ok-rule_next.ensures.ready;
            operations = w.in_ok-rule_next.ensures.operations ∙ inv.operations;
            paths = w.in_ok-rule_next.ensures.paths ∙ inv.paths;
            over = over_still c.args.gate.now run c.loop-place.spares.clear w.rule_next.new.spares.clear w.in_ok-rule_next.ensures.clear inv.over;
            back = λ h is at. below_more _ _ (inv.back h is at)
                (held_back c.args.gate.now.paths c.args.spares.now.paths c.loop-place.spares.paths run h ws c.loop-place.place _ inv.paths
                w.in_ok-rule_next.field-0 w.in_default.not-Goes (w.in_ok-rule_next.ensures.ruled h is at) (grind arith));
          })
      | else-not-is_behind w ↦
          subst (λ s. IsTrying c.args.gate.now c.args.spares.now run ws (c.loop-place.place + 1) s) (sym w.spares-is) (record {
            ready = inv.ready;
            operations = inv.operations;
            paths = inv.paths;
            over = inv.over;
            back = λ h is at. below_more _ _ (inv.back h is at)
                (held_like c.args.gate.now.paths c.args.spares.now.paths h run ws c.loop-place.place c.loop-place-test.true
                (c.is_behind.ensures w.if-not-is_behind.false) (inv.back h is at));
          })
    ]

pub returns-clause-next : goal.returns-clause-next
returns-clause-next g c = λ h is at i l. c.loop-place.invariant.back h is at i (let le = c.loop-place-test.false in omega (arith, l, le))
