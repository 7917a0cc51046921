-- The answer is about the declaration that was read.
use Rattle.cmd_explore.proofs.shared.shares_operations.Goals as goal

pub returns-in-Ok : goal.returns-in-Ok
returns-in-Ok g c = (c.in-Ok.decl.declaration, c.in-Ok.ensures.ok, c.has_shared.ensures)
