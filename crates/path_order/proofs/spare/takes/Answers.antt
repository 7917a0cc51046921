-- One more path is looked at.
use Rattle.std.proofs.Common.{◌≡◌, true, false, below_more, arith, sym, ◌∙◌}
use Rattle.path_order.proofs.Judging.{takes_here, nothing_here}
use Rattle.path_order.proofs.spare.takes.Goals as goal
use Rattle.path_order.proofs.spare.takes.Goals.{else-then-via-then-then+else-not-now, else-then-via-else-then}

true_false : true ≡ false → ⊥
true_false e = cc

pub returns-then-not-now-clause-yes : goal.returns-then-not-now-clause-yes
returns-then-not-now-clause-yes g c =
    λ e h x is at starts behind. (
      c.loop-path.path,
      c.loop-path-test.true,
      takes_here c.args.gate.now c.args.behind.now c.requires c.args.y c.loop-path.path c.forbids-now.result c.forbids-then.result c.forbids-now.ensures c.forbids-then.ensures h x is at starts behind c.if-not-now.true c.if-then.true,
    )

pub loop-path-preserved : goal.loop-path-preserved
loop-path-preserved g c =
    let not : c.forbids-then.result ≡ true → c.forbids-now.result ≡ false → ⊥ =
    elim c.else-then.branch [
      | else-then-via-then-then+else-not-now w ↦ λ t n. true_false (sym w.if-not-now.false ∙ n)
      | else-then-via-else-then w ↦ λ t n. true_false (sym t ∙ w.if-then.false)
    ] in
    λ h x is at starts behind.
    below_more _ _ (c.loop-path.invariant h x is at starts behind)
    (nothing_here c.args.gate.now c.args.behind.now c.requires c.args.y c.loop-path.path c.forbids-now.result c.forbids-then.result c.forbids-now.ensures c.forbids-then.ensures h x is at starts behind not)

pub returns-clause-no : goal.returns-clause-no
returns-clause-no g c = λ e h x is at starts behind p l. c.loop-path.invariant h x is at starts behind p (let le = c.loop-path-test.false in omega (arith, l, le))
