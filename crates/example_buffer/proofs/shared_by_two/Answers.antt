-- The order that the laws of paths give.
use Rattle.std.proofs.Common.{ap, subst, sym, ◌∙◌}
use Rattle.path_system.specs.Accounts.{Account}
use Rattle.example_buffer.specs.Buffer.{IsBuffer}
use Rattle.example_buffer.proofs.Order.{keeps_order}
use Rattle.example_buffer.proofs.shared_by_two.Goals as goal

pub returns-else-is_empty : goal.returns-else-is_empty
returns-else-is_empty g c =
    let same = c.in-Ok.ensures.system.declaration ∙ ap (λ (a : Account). a.declaration) (sym c.requires.opened) in
    keeps_order (g.S.Steps.account c.in-Ok.settled.system) (subst IsBuffer (sym same) c.requires.buffer) c.journal.ensures.system
