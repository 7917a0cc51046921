-- The terms of a path block exactly where its words forbid.
use Rattle.std.proofs.Common.{refl}
use Rattle.path_gate.proofs.Sound.{within}
use Rattle.path_gate.proofs.Forbidding.{tells}
use Rattle.path_gate.proofs.gate.Gate.forbids.Goals as goal

pub is_blocked-requires : goal.is_blocked-requires
is_blocked-requires g c = within _ _ c.self.invariant.sound c.args.op c.run_of-terms.result.now (rw (← c.deref.ensures.value, ← c.deref-2.ensures.value) c.run_of-terms.ensures)

pub returns : goal.returns
returns g c =
    rw (← c.self.view_is) (tells _ _ c.self.invariant.sound c.args.op c.run_of-terms.result.now (rw (← c.deref.ensures.value, ← c.deref-2.ensures.value) c.run_of-terms.ensures) c.self.inside.lean.value.trees refl c.args.path.0 c.is_blocked.result c.is_blocked.ensures)
