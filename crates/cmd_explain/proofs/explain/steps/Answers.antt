-- One attempt more gets its reply.
use Rattle.std.proofs.Common.{◌<◌, ◌∙◌, ap, length, arith}
use Rattle.path_system.specs.Accounts.{Account}
use Rattle.cmd_explain.proofs.Explaining.{none_yet, next_entry}
use Rattle.cmd_explain.proofs.explain.steps.Goals as goal

pub loop-i-init : goal.loop-i-init
loop-i-init g c = none_yet _ c.args.system.now _ c.requires.empty

pub push_step-requires : goal.push_step-requires
push_step-requires g c = ap (λ (a : Account). a.opened) c.loop-i.invariant.stays ∙ c.requires.first

pub loop-i-preserved : goal.loop-i-preserved
loop-i-preserved g c =
    let within : c.loop-i.i < length c.args.entries.now = omega arith in
    next_entry _ c.args.system.now c.loop-i.system c.push_step.new.system c.args.entries.now c.loop-i.i _ _ _ within c.in_ok-push_step.ensures c.loop-i.invariant
