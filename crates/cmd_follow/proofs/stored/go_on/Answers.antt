-- A line that is taken over is the next of the journal.
use Rattle.std.proofs.Common.{◌≡◌, ◌∙◌, ap, None, rules, arith}
use Rattle.std.proofs.lemmas.Grind.{common_steps}
use Rattle.path_system.specs.Accounts.{Account}
use Rattle.path_system.proofs.CallerLemmas.{of_system}
use Rattle.cmd_follow.proofs.stored.go_on.Goals as goal

pub loop-n-preserved : goal.loop-n-preserved
loop-n-preserved g c =
    let first : c.loop-n.system.opened ≡ None = ap (λ (a : Account). a.opened) c.loop-n.invariant.goes ∙ c.requires in
    let taken = of_system c.loop-n.system first _ c.in_default.ensures.taken.each in
    record { goes = search rules; journal = grind (arith, common_steps) }
