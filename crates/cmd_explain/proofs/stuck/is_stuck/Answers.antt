-- Nothing is live there, and nothing can start.
use Rattle.std.proofs.Common.{not, ap}
use Rattle.std.specs.Prelude.{◌↔◌, IsTrue}
use Rattle.path_model.specs.Journals.{admitted_history}
use Rattle.path_model.specs.Stuck.{IsStuckAt}
use Rattle.cmd_explain.proofs.Gathered.{and_then, and_else}
use Rattle.cmd_explain.proofs.StuckHere.{stuck_told}
use Rattle.cmd_explain.proofs.stuck.is_stuck.Goals as goal

pub returns-then-idle : goal.returns-then-idle
returns-then-idle g c = λ ls l now e.
    and_then (λ b. IsTrue b ↔ IsStuckAt c.args.decl.now.declaration ls c.args.resource.0) (not c.has_live-lives.result) (not c.has_startable-can_start.result) (ap (λ b. not b) c.if-idle.true)
    (stuck_told c.args.decl.now.declaration ls c.args.resource.0 c.args.live.now c.has_live-lives.result c.has_startable-can_start.result e c.has_live-lives.ensures.some c.has_live-lives.ensures.none
    (c.has_startable-can_start.ensures.some (admitted_history ls) l now) (c.has_startable-can_start.ensures.none (admitted_history ls) l now))

pub returns-else-idle : goal.returns-else-idle
returns-else-idle g c = λ ls l now e.
    and_else (λ b. IsTrue b ↔ IsStuckAt c.args.decl.now.declaration ls c.args.resource.0) (not c.has_live-lives.result) (not c.has_startable-can_start.result) (ap (λ b. not b) c.if-idle.false)
    (stuck_told c.args.decl.now.declaration ls c.args.resource.0 c.args.live.now c.has_live-lives.result c.has_startable-can_start.result e c.has_live-lives.ensures.some c.has_live-lives.ensures.none
    (c.has_startable-can_start.ensures.some (admitted_history ls) l now) (c.has_startable-can_start.ensures.none (admitted_history ls) l now))
