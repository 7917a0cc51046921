-- The gate tells of the first path with the tree.
use Rattle.std.proofs.Common.{[], sym, subst}
use Rattle.std.specs.Prelude.{◌↔◌, IsTrue}
use Rattle.path_model.specs.Legal.{Legal, Forbids}
use Rattle.path_model.specs.Trimmed.{kept}
use Rattle.path_gate.specs.Standings.{AtNumber}
use Rattle.cmd_explain.proofs.Kept.{told_at}
use Rattle.cmd_explain.proofs.refusal.is_forbidding.Goals as goal

pub returns : goal.returns
returns g c = λ h l now.
    told_at c.args.decl.now.declaration c.args.path c.first_alike.result c.first_alike.ensures (λ s. IsTrue c.forbids.result ↔ Forbids h c.args.op s)
    (subst (λ xs. AtNumber (λ s. IsTrue c.forbids.result ↔ Forbids h c.args.op s) c.first_alike.result.0 (kept [] xs)) c.requires.paths
    (c.forbids.ensures h (subst (λ xs. Legal xs h) (sym c.requires.paths) l) now))
