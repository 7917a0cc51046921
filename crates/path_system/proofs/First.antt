-- What a controller tells, where it was opened at no state, is what a system tells.
use Rattle.std.proofs.Common.{◌≡◌, ◌≢◌, ◌∙◌, ℕ, Option, None, ap, subst}
use Rattle.path_model.specs.declared.journal.Line.{Line}
use Rattle.path_model.specs.declared.resource.Law.{Law}
use Rattle.path_state.specs.States.{State}
use Rattle.path_system.specs.Accounts.{Account, all_lines}
use Rattle.path_system.specs.Before.{WasAsked}
use Rattle.path_system.specs.Faults.{IsReplaceFault, IsReplaceFaultBehind}
use Rattle.path_system.specs.Taken.{IsTakenBehind, IsTakeFault, IsTakeFaultBehind}
use Rattle.path_system.specs.declared.fault.ReplaceFault.{ReplaceFault}
use Rattle.path_system.specs.declared.fault.ReplaceFault.TheVariants.{Busy, Used, OtherLaw}
use Rattle.path_system.specs.declared.fault.TakeFault.{TakeFault}
use Rattle.path_system.specs.declared.fault.TakeFault.TheVariants.{NotOwed, DeviceFailed}
use Rattle.path_system.proofs.Behind.{of_system}

module _ (old : Account) (first : old.opened ≡ None) where
  -- a line that is taken, or not, leaves it at no state
  pub taken_first : (line : Line) (new : Account) → IsTakenBehind old line new → new.opened ≡ None
  taken_first line new taken = ap (λ (a : Account). a.opened) taken.kept ∙ first

  pub fault_first : (may_fail : Type 0) (line : Line) (fault : TakeFault) (new : Account) → IsTakeFaultBehind may_fail old line fault new → new.opened ≡ None
  fault_first may_fail line (NotOwed reply) new is = ap (λ (a : Account). a.opened) is.kept.1 ∙ first
  fault_first may_fail line DeviceFailed new is = ap (λ (a : Account). a.opened) is.kept.1 ∙ first

  pub take_fault : (may_fail : Type 0) (line : Line) (fault : TakeFault) (new : Account) → IsTakeFaultBehind may_fail old line fault new → IsTakeFault may_fail old line fault new
  take_fault may_fail line fault new is = of_system old first _ is.each

  -- and why a device isn't replaced
  pub replace_fault_of : (r : ℕ) (law : Law) (fault : ReplaceFault) → IsReplaceFaultBehind old r law fault → IsReplaceFault old.declaration (all_lines old) r law fault
  replace_fault_of r law Busy is = of_system old first _ is
  replace_fault_of r law Used is = (of_system old first _ is.0, subst (λ (o : Option State). WasAsked old.declaration o (all_lines old) r) first is.1)
  replace_fault_of r law OtherLaw is = (
    (of_system old first _ is.0, subst (λ (o : Option State). WasAsked old.declaration o (all_lines old) r → ⊥) first is.1),
    is.2,
  )
