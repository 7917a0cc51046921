-- Each write takes a front of what is left, or nothing.
use Rattle.std.proofs.Common.{ℕ, List, Bor, ap, ◌∙◌}
use Rattle.tell_base.proofs.PutLemmas.{puts_more, puts_kept, rest_whole, at_rest}
use Rattle.tell_base.proofs.put.put.Goals as goal
use Rattle.tell_base.proofs.put.put.Goals.{in-Ok, in-Err+else-ne}

pub loop-preserved : goal.loop-preserved
loop-preserved g c = elim c.match-write.branch [
  | in-Ok w ↦ puts_more _ _ _ _ c.loop.rest.now _ w.in-Ok.n (ap (λ (r : Bor (List ℕ)). r.now) w.rest-is ∙ rest_whole c.loop.rest.now w.in-Ok.n) w.in-Ok.ensures.bytes c.loop.invariant
  | in-Err+else-ne w ↦ puts_kept _ _ _ _ _ w.in-Err.ensures.bytes (at_rest _ _ _ _ _ w.rest-is c.loop.invariant)
]
