-- The first term that blocks is that of the first path that forbids.
use Rattle.path_gate.proofs.Sound.{within, judges}
use Rattle.path_gate.proofs.gate.Gate.would_admit.Goals as goal

pub first_blocked-requires : goal.first_blocked-requires
first_blocked-requires g c = within _ _ c.self.invariant.sound c.args.op c.run_of-terms.result.now (rw (← c.deref.ensures.value, ← c.deref-2.ensures.value) c.run_of-terms.ensures)

pub returns : goal.returns
returns g c =
    rw (← c.self.view_is) (judges _ _ c.self.invariant.sound c.args.op c.run_of-terms.result.now (rw (← c.deref.ensures.value, ← c.deref-2.ensures.value) c.run_of-terms.ensures) c.first_blocked.result c.first_blocked.ensures)
