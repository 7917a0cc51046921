-- A gate may go to another thread if its allocator may. What only contracts read takes no memory, so it may always.
use denote.RattleType.{RattleType}
use denote.Param.Send.{IsSend, Frees, sendable}
use Rattle.std.proofs.CrossingOver.{crosses}
use Rattle.std.specs.declared.alloc.Allocator as memory
use Rattle.std.specs.contracts.snapshot.Snapshot as Snapshot
use Rattle.path_gate.specs.contracts.gate.Gate as Gate
use Rattle.path_gate.specs.contracts.gate.Gate.TheInside as Inside
use Rattle.path_gate.specs.contracts.gate.Term as Term
use Rattle.path_gate.specs.contracts.gate.levels.Levels as Levels

module _ (A : RattleType) (a : memory.Ghosts A.Denot) where
  levels_send : IsSend A → Frees a a.dealloc_token → IsSend (Levels.the_field A a).row
  levels_send sa fa = search (sendable, crosses) depth 20

  term_send : IsSend Term.the_row
  term_send = search sendable depth 20

  snapshot_send : (T : RattleType) → IsSend (Snapshot.the_row T)
  snapshot_send T = search sendable depth 20

  inside_send : IsSend A → Frees a a.dealloc_token → IsSend (Inside.the_row A a)
  inside_send sa fa =
      let l = levels_send sa fa in
      let t = term_send in
      search (sendable, crosses, snapshot_send) depth 20

  pub gate_send : IsSend A → Frees a a.dealloc_token → IsSend (Gate.the_field A a).row
  gate_send sa fa = let i = inside_send sa fa in search sendable depth 20
