-- None so far is of the resource.
use Rattle.std.proofs.Common.{◌≢◌}
use Rattle.std.specs.List.{AllWithin}
use Rattle.path_model.specs.Declarations as declarations
use Rattle.path_system.proofs.parts.Parts.is_busy.Given as goal

abbrev pub invariant-loop-activation : goal.invariant-loop-activation
invariant-loop-activation g l =
    AllWithin (λ a. declarations.resource_of l.self.declaration a.op.0 ≢ l.resource.0) l.self.present.register.live 0 l.activation-index
