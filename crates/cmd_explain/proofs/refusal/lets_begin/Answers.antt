-- What is named and not forbidden may begin.
use Rattle.std.proofs.Common.{not}
use Rattle.std.specs.Prelude.{◌↔◌, IsTrue}
use Rattle.cmd_explain.specs.Standing.{tree_at, ForbidsAt, LetsAt}
use Rattle.cmd_explain.proofs.Gathered.{lets_told, and_then, and_else}
use Rattle.cmd_explain.proofs.refusal.lets_begin.Goals as goal

pub returns-then-named : goal.returns-then-named
returns-then-named g c = λ h l now.
    and_then (λ b. IsTrue b ↔ LetsAt c.args.decl.now.declaration h c.args.path c.args.op) c.names-named.result (not c.is_forbidding-forbidden.result) c.if-named.true
    (lets_told (tree_at c.args.decl.now.declaration c.args.path) c.args.op c.names-named.result c.is_forbidding-forbidden.result (ForbidsAt c.args.decl.now.declaration h c.args.op c.args.path) c.names-named.ensures (c.is_forbidding-forbidden.ensures h l now))

pub returns-else-named : goal.returns-else-named
returns-else-named g c = λ h l now.
    and_else (λ b. IsTrue b ↔ LetsAt c.args.decl.now.declaration h c.args.path c.args.op) c.names-named.result (not c.is_forbidding-forbidden.result) c.if-named.false
    (lets_told (tree_at c.args.decl.now.declaration c.args.path) c.args.op c.names-named.result c.is_forbidding-forbidden.result (ForbidsAt c.args.decl.now.declaration h c.args.op c.args.path) c.names-named.ensures (c.is_forbidding-forbidden.ensures h l now))
