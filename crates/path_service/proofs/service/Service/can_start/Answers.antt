-- The operation is declared where its number is below their count.
use Rattle.std.proofs.Common.{length, ap, arith}
use Rattle.path_model.specs.Declarations.{Declaration}
use Rattle.path_service.specs.Serving.{Serving}
use Rattle.path_system.proofs.CallerLemmas.{of_system}
use Rattle.path_service.proofs.service.Service.can_start.Goals as goal

pub returns-then-op-counts : goal.returns-then-op-counts
returns-then-op-counts c =
    omega (arith, c.if-op-counts.true, c.counts.ensures.operations, ap (λ (d : Declaration). length d.operations) c.decl.ensures, ap (λ (s : Serving). length s.account.declaration.operations) c.self.view_is)

pub returns-in-Ok : goal.returns-in-Ok
returns-in-Ok c = (
  omega (arith, c.if-op-counts.false, c.counts.ensures.operations, ap (λ (d : Declaration). length d.operations) c.decl.ensures, ap (λ (s : Serving). length s.account.declaration.operations) c.self.view_is),
  rw (ap (λ (s : Serving). s.account) c.self.view_is) at (of_system c.self.inside.controller c.self.invariant.system.first _ c.in-Ok.ensures),
)

pub returns-in-Err : goal.returns-in-Err
returns-in-Err c = (
  omega (arith, c.if-op-counts.false, c.counts.ensures.operations, ap (λ (d : Declaration). length d.operations) c.decl.ensures, ap (λ (s : Serving). length s.account.declaration.operations) c.self.view_is),
  rw (ap (λ (s : Serving). s.account) c.self.view_is) at (of_system c.self.inside.controller c.self.invariant.system.first _ c.in-Err.ensures),
)
