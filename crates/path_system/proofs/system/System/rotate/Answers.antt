-- The lines so far are earlier ones, and none came before them.
use Rattle.std.proofs.Common.{rules, ◌∙◌, ap, sym, arith}
use Rattle.std.proofs.lemmas.Grind.{common_steps}
use Rattle.path_system.specs.Accounts.{Account}
use Rattle.path_system.proofs.Behind.{is_system_of}
use Rattle.path_system.proofs.system.System.rotate.Goals as goal

pub invariant_of-self : goal.invariant_of-self
invariant_of-self g c =
    let room = ap (λ (a : Account). a.room) c.rotate.ensures.rotated in
    let journal = ap (λ (a : Account). a.journal) c.rotate.ensures.rotated in
    record {
      kept = grind (arith, common_steps);
      reserved = grind (arith, common_steps);
      system = is_system_of _ (ap (λ (a : Account). a.opened) c.rotate.ensures.rotated ∙ c.self.invariant.system.first) c.rotate.ensures.controlled;
    }

pub returns-clause-system : goal.returns-clause-system
returns-clause-system g c = is_system_of _ (ap (λ (a : Account). a.opened) c.rotate.ensures.rotated ∙ c.self.invariant.system.first) c.rotate.ensures.controlled
