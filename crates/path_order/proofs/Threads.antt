-- An order may go to another thread if its allocator may. Its parts are shown one by one, since the search for all of them at once gives up.
use denote.RattleType.{RattleType}
use denote.Param.Send.{IsSend, Frees, sendable}
use Rattle.std.proofs.CrossingOver.{crosses}
use Rattle.std.specs.declared.alloc.Allocator as memory
use Rattle.path_gate.proofs.CallerLemmas.{gate_send}
use Rattle.path_order.specs.contracts.order.Order as Order
use Rattle.path_order.specs.contracts.spare.Spares as Spares

module _ (A : RattleType) (a : memory.Ghosts A.Denot) where
  spares_send : IsSend A → Frees a a.dealloc_token → IsSend (Spares.the_field A a).row
  spares_send sa fa = let g = gate_send A a sa fa in search (sendable, crosses) depth 20

  order_whole : IsSend A → Frees a a.dealloc_token → IsSend (Order.the_field A a).row
  order_whole sa fa = let s = spares_send sa fa in search (sendable, crosses) depth 20

  pub order_send : IsSend A → Frees a a.dealloc_token → IsSend (Order.the_row A a)
  order_send sa fa = let o = order_whole sa fa in search sendable
