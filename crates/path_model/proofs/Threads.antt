-- A tree may go to another thread if its allocator may. The search for this doesn't find the rule for recursive types by itself.
use denote.RattleType.{RattleType}
use denote.Param.Send.{IsSend, Frees, sendable}
use Rattle.std.proofs.CrossingOver.{crosses}
use Rattle.std.specs.declared.alloc.Allocator as memory
use Rattle.path_model.specs.contracts.tree.Expr as Expr
use Rattle.path_model.proofs.tree.Expr.TheLaws.TheKnot as knot

pub expr_send : (A : RattleType) (a : memory.Ghosts A.Denot) → IsSend A → Frees a a.dealloc_token → IsSend (Expr.the_field A a).row
expr_send A a sa fa = search (sendable, crosses, knot.crosses) depth 20
