-- One more operation is sorted.
use Rattle.std.proofs.Common.{ap, ◌∙◌}
use Rattle.path_system.specs.Reports.{MeetsAt}
use Rattle.path_system.proofs.Reported.{sorted_none, sorted_free, sorted_held}
use Rattle.path_system.proofs.report.sorted.Goals as goal
use Rattle.path_system.proofs.report.sorted.Goals.{in-Ok+in_ok-push-in-Ok, in-Err+in_ok-push-in-Err}

pub loop-number-init : goal.loop-number-init
loop-number-init g c = sorted_none (MeetsAt c.args.gate.now) _ _ c.new-startable.ensures.items c.new-blocked.ensures.items

pub loop-number-preserved : goal.loop-number-preserved
loop-number-preserved g c = elim c.match-would_admit.branch [
  | in-Ok+in_ok-push-in-Ok w ↦ sorted_free (MeetsAt c.args.gate.now) (record { 0 = c.loop-number.number }) c.loop-number.startable.items c.match-would_admit.startable.items
      c.loop-number.blocked.items c.match-would_admit.blocked.items c.loop-number.invariant w.in-Ok.ensures
      (ap (λ v. v.items) w.startable-is ∙ w.in_ok-push-in-Ok.ensures.items) (ap (λ v. v.items) w.blocked-is)
  | in-Err+in_ok-push-in-Err w ↦ sorted_held (MeetsAt c.args.gate.now) (record { 0 = c.loop-number.number }) w.in-Err.path c.loop-number.startable.items c.match-would_admit.startable.items
      c.loop-number.blocked.items c.match-would_admit.blocked.items c.loop-number.invariant w.in-Err.ensures
      (ap (λ v. v.items) w.startable-is) (ap (λ v. v.items) w.blocked-is ∙ w.in_ok-push-in-Err.ensures.items)
]
