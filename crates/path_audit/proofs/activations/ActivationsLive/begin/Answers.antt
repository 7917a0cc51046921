-- The next number goes to the end.
use Rattle.std.proofs.Common.{◌≡◌, ◌+◌, ◌∷◌, [], Some, length, length-append, ap, arith, ◌∙◌}
use Rattle.path_audit.specs.declared.activations.Owner.{Owner}
use Rattle.path_audit.specs.Inner.Owners.{live_from}
use Rattle.path_audit.proofs.Places.{few, more, activation}
use Rattle.path_audit.proofs.activations.ActivationsLive.begin.Goals as goal

pub overflow_add-self : goal.overflow_add-self
overflow_add-self g c = omega (arith, few 0 c.self.inside.begun.items, c.self.invariant, c.self.inside.begun.ok.0, c.push.ensures.upper_bound, c.push.ensures.len)

pub invariant_of-self-2 : goal.invariant_of-self-2
invariant_of-self-2 g c =
    let xs = c.self.inside.begun.items in
    let o : Owner = record { worker = c.args.worker; op = c.args.op } in
    let now = ap (λ ys. length (live_from 0 ys)) c.in_ok-push.ensures.items in
    let one = ap length (more 0 (length xs) xs o (omega arith)) in
    let sum = length-append (live_from 0 xs) (activation (length xs) o ∷ []) in
    omega (arith, now, one, sum, c.self.invariant)

pub returns-clause-appended : goal.returns-clause-appended
returns-clause-appended g c =
    let xs = c.self.inside.begun.items in
    let o : Owner = record { worker = c.args.worker; op = c.args.op } in
    let number : c.len.result ≡ 0 + length xs = omega (arith, c.len.ensures, c.self.inside.begun.ok.0) in
    let live = ap (live_from 0) c.in_ok-push.ensures.items ∙ more 0 c.len.result xs o number in
    let begun : length c.push.new.self.items ≡ length xs + 1 = ap length c.in_ok-push.ensures.items ∙ length-append xs (Some o ∷ []) in
    rw (← c.self.view_is) (λ i. record { live = live i; begun = begun i })
