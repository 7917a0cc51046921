-- What stands against a start, and what doesn't.
use Rattle.std.proofs.Common.{◌∙◌, ◌≡◌, [], ap, refl, subst, arith, inl, inr}
use Rattle.std.proofs.lemmas.Result.{IfOk-weaker, IfErr-weaker}
use Rattle.std.proofs.lemmas.Bool.{cases_lt}
use Rattle.path_model.specs.declared.journal.Attempt.TheVariants.{Start}
use Rattle.path_model.specs.Journals.{live, begun_in}
use Rattle.path_model.specs.JournalGuarantees.{live_after}
use Rattle.path_system.proofs.CallerLemmas.{OwedNext, live_next, live_unstarted, path_opposes, path_unopposed, start_judged}
use Rattle.example_pool.specs.Pool.{pool_tree, IsPool}
use Rattle.example_pool.proofs.Limits.{pool_formed, limits, follows, stays, same_lines, roomy, rotated_system, owed_next}
use Rattle.example_pool.proofs.Pool.start.Goals as goal

pub returns-clause-before : goal.returns-clause-before
returns-clause-before c = follows _ _ c.self.invariant c.self.view_is

pub returns-clause-limits : goal.returns-clause-limits
returns-clause-limits c = limits _ (follows _ _ (stays _ _ _ _ _ c.rotate.ensures.rotated c.step-reply.ensures.journal c.step-reply.ensures.controlled c.self.invariant) refl)

pub returns-clause-handed_out : goal.returns-clause-handed_out
returns-clause-handed_out c =
    let next = live_next _ (rotated_system _ _ c.rotate.ensures.rotated c.self.invariant c.rotate.ensures.controlled) _ (same_lines _ _ _ c.rotate.ensures.rotated c.self.view_is) _ c.args.worker (Start c.args.op) c.step-reply.result _ (owed_next _ _ c.rotate.ensures.rotated c.self.invariant c.args.worker (Start c.args.op) c.step-reply.result c.step-reply.ensures.owed) c.step-reply.ensures.journal in
    IfOk-weaker c.ticket_of.result _ _ (λ t k. (k.0, next ∙ ap (λ r. live_after (live c.args.self.now) c.args.worker (Start c.args.op) r) k.1)) c.ticket_of.ensures.ticket

pub returns-clause-refused : goal.returns-clause-refused
returns-clause-refused c =
    let next = live_next _ (rotated_system _ _ c.rotate.ensures.rotated c.self.invariant c.rotate.ensures.controlled) _ (same_lines _ _ _ c.rotate.ensures.rotated c.self.view_is) _ c.args.worker (Start c.args.op) c.step-reply.result _ (owed_next _ _ c.rotate.ensures.rotated c.self.invariant c.args.worker (Start c.args.op) c.step-reply.result c.step-reply.ensures.owed) c.step-reply.ensures.journal in
    IfErr-weaker c.ticket_of.result _ _ (λ why none. next ∙ live_unstarted (live c.args.self.now) c.args.worker c.args.op c.step-reply.result none) c.ticket_of.ensures.none

pub returns-clause-busy : goal.returns-clause-busy
returns-clause-busy c e =
    let pool : IsPool c.rotate.new.self = stays _ c.rotate.new.self _ _ _ c.rotate.ensures.rotated refl c.rotate.ensures.controlled c.self.invariant in
    let p = c.ticket_of.ensures.busy e in
    (path_opposes _ (rotated_system _ _ c.rotate.ensures.rotated c.self.invariant c.rotate.ensures.controlled) _ (same_lines _ _ _ c.rotate.ensures.rotated c.self.view_is) pool_tree pool.declared.path pool_formed
    c.args.worker c.args.op p.0 (subst (OwedNext c.rotate.new.self c.args.worker (Start c.args.op)) p.1 (owed_next _ _ c.rotate.ensures.rotated c.self.invariant c.args.worker (Start c.args.op) c.step-reply.result c.step-reply.ensures.owed))).1

pub returns-clause-numbers : goal.returns-clause-numbers
returns-clause-numbers c e =
    let pool : IsPool c.rotate.new.self = stays _ c.rotate.new.self _ _ _ c.rotate.ensures.rotated refl c.rotate.ensures.controlled c.self.invariant in
    let same = same_lines _ _ _ c.rotate.ensures.rotated c.self.view_is in
    let fresh : c.rotate.new.self.journal ≡ [] = ap (λ s. s.journal) c.rotate.ensures.rotated in
    elim (cases_lt (begun_in c.args.self.now) 4294967295) [
      | inl few ↦ elim (start_judged _ (rotated_system _ _ c.rotate.ensures.rotated c.self.invariant c.rotate.ensures.controlled) _ same c.args.worker c.args.op c.step-reply.result (owed_next _ _ c.rotate.ensures.rotated c.self.invariant c.args.worker (Start c.args.op) c.step-reply.result c.step-reply.ensures.owed) (omega (arith, c.requires, pool.declared.operations)) (roomy _ _ pool same fresh) few) [
        | inl n ↦ absurd ((c.ticket_of.ensures.other e).0 n.0 n.1)
        | inr p ↦ absurd ((c.ticket_of.ensures.other e).1 p.0 p.1)
      ]
      | inr l ↦ l
    ]

pub returns-clause-free : goal.returns-clause-free
returns-clause-free c free few =
    let pool : IsPool c.rotate.new.self = stays _ c.rotate.new.self _ _ _ c.rotate.ensures.rotated refl c.rotate.ensures.controlled c.self.invariant in
    let same = same_lines _ _ _ c.rotate.ensures.rotated c.self.view_is in
    let fresh : c.rotate.new.self.journal ≡ [] = ap (λ s. s.journal) c.rotate.ensures.rotated in
    let n = path_unopposed _ (rotated_system _ _ c.rotate.ensures.rotated c.self.invariant c.rotate.ensures.controlled) _ same pool_tree pool.declared.path pool_formed c.args.worker c.args.op c.step-reply.result (owed_next _ _ c.rotate.ensures.rotated c.self.invariant c.args.worker (Start c.args.op) c.step-reply.result c.step-reply.ensures.owed)
    (omega (arith, c.requires, pool.declared.operations)) (roomy _ _ pool same fresh) few (λ x. free x.1) in
    c.ticket_of.ensures.started n.0 n.1

pub invariant_of-self : goal.invariant_of-self
invariant_of-self c = stays _ _ _ _ _ c.rotate.ensures.rotated c.step-reply.ensures.journal c.step-reply.ensures.controlled c.self.invariant
