-- A finish is admitted exactly where it is that of the worker's own connection.
use Rattle.std.proofs.Common.{◌∙◌, ap, refl}
use Rattle.std.proofs.lemmas.Result.{IfOk-weaker, IfErr-weaker}
use Rattle.path_model.specs.declared.journal.Attempt.TheVariants.{Finish}
use Rattle.path_model.specs.Journals.{live}
use Rattle.path_model.specs.JournalGuarantees.{live_after}
use Rattle.path_system.proofs.CallerLemmas.{finishes_own, live_next, live_unfinished}
use Rattle.example_pool.proofs.Limits.{limits, follows, stays, same_lines, rotated_system, owed_next}
use Rattle.example_pool.proofs.Pool.checkin.Goals as goal

pub returns-clause-limits : goal.returns-clause-limits
returns-clause-limits c = limits _ (follows _ _ (stays _ _ _ _ _ c.rotate.ensures.rotated c.step-reply.ensures.journal c.step-reply.ensures.controlled c.self.invariant) refl)

pub returns-clause-held : goal.returns-clause-held
returns-clause-held c =
    let own = finishes_own _ (rotated_system _ _ c.rotate.ensures.rotated c.self.invariant c.rotate.ensures.controlled) _ (same_lines _ _ _ c.rotate.ensures.rotated c.self.view_is) _ _ _ (owed_next _ _ c.rotate.ensures.rotated c.self.invariant c.args.ticket.worker (Finish c.args.ticket.act) c.step-reply.result c.step-reply.ensures.owed) in
    (λ k. own.0 (c.taken_back.ensures.ok.0 k), λ h. c.taken_back.ensures.ok.1 (own.1 h))

pub returns-clause-freed : goal.returns-clause-freed
returns-clause-freed c =
    let next = live_next _ (rotated_system _ _ c.rotate.ensures.rotated c.self.invariant c.rotate.ensures.controlled) _ (same_lines _ _ _ c.rotate.ensures.rotated c.self.view_is) _ c.args.ticket.worker (Finish c.args.ticket.act) c.step-reply.result _ (owed_next _ _ c.rotate.ensures.rotated c.self.invariant c.args.ticket.worker (Finish c.args.ticket.act) c.step-reply.result c.step-reply.ensures.owed) c.step-reply.ensures.journal in
    IfOk-weaker c.taken_back.result _ _ (λ _ k. next ∙ ap (λ r. live_after (live c.args.self.now) c.args.ticket.worker (Finish c.args.ticket.act) r) k) c.taken_back.ensures.taken

pub returns-clause-back : goal.returns-clause-back
returns-clause-back c =
    let next = live_next _ (rotated_system _ _ c.rotate.ensures.rotated c.self.invariant c.rotate.ensures.controlled) _ (same_lines _ _ _ c.rotate.ensures.rotated c.self.view_is) _ c.args.ticket.worker (Finish c.args.ticket.act) c.step-reply.result _ (owed_next _ _ c.rotate.ensures.rotated c.self.invariant c.args.ticket.worker (Finish c.args.ticket.act) c.step-reply.result c.step-reply.ensures.owed) c.step-reply.ensures.journal in
    IfErr-weaker c.taken_back.result _ _ (λ _ k. (k.0, next ∙ live_unfinished (live c.args.self.now) c.args.ticket.worker c.args.ticket.act c.step-reply.result k.1)) c.taken_back.ensures.back

pub invariant_of-self : goal.invariant_of-self
invariant_of-self c = stays _ _ _ _ _ c.rotate.ensures.rotated c.step-reply.ensures.journal c.step-reply.ensures.controlled c.self.invariant
