-- What the calls of the refusing allocator share: the allocator that it stands over, and itself.
use Rattle.std.proofs.Common.{[], ◌∷◌}
use mir.Syntax.{Args, Fn, a_type, dnil, dcons}
use mir.MapTy.{inst_fn}
use denote.Param.{bounded, param}
use denote.Signature.{Slot, plain}
use denote.Builtin.{RefOf}
use Rattle.std.proofs.alloc.Calls.{Al}
use Rattle.test_support.specs.contracts.refusing.Refusing as wrapper

module _ (Z : Al) where
  abbrev pub args : Args
  args = bounded (a_type ∷ []) (Z.row, tt) (dcons Z.d (dcons Z.drops dnil))

  abbrev pub self : Slot 2
  self = RefOf (0 ∷ []) tt (plain (λ _. wrapper.the_row (param 0 Z.row))) (λ _. tt)

  abbrev pub here : Fn → Fn
  here f = inst_fn args f
