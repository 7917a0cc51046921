-- No system goes on, the attempts are refused, or they are explained.
use Rattle.std.proofs.Common.{ℕ, List, subst}
use Rattle.std.specs.Prelude.{map}
use Rattle.path_model.specs.Declarations.{Declaration}
use Rattle.path_shelf.specs.Own.{own_state}
use Rattle.path_shelf.specs.States.{MayFail}
use Rattle.tell_base.specs.Ends.{RefusesText}
use Rattle.tell_base.specs.Refusals.{IsBadAttempts}
use Rattle.tell_base.specs.Statuses.{status_of}
use Rattle.tell_base.proofs.CallerLemmas.{ends_told, ends_written, unfailing}
use Rattle.tell_journals.specs.Behind.{behind_status}
use Rattle.tell_journals.proofs.CallerLemmas.{may_behind, may_unopened, same_declaration}
use Rattle.cmd_explain.specs.Explanations.{IsExplanationBehind, ExplanationBehindEnds}
use Rattle.cmd_explain.proofs.Explaining.{explanation_so}
use Rattle.cmd_explain.proofs.behind.explain_behind.Goals as goal

pub returns-in-Err : goal.returns-in-Err
returns-in-Err g c =
    let texts : List (List ℕ) = map (λ f. f.text.items) c.args.journal.now in
    ends_told _ _ (behind_status c.in-Err.fault) _
    (may_unopened c.args.declaration.now c.args.room texts (λ d. IsExplanationBehind d c.args.room texts c.args.attempts.now) (λ d. IsBadAttempts d c.args.attempts.now) (behind_status c.in-Err.fault) c.in-Err.ensures.err)
    c.tell_unopened.ensures

pub returns-in-Ok-explained_behind : goal.returns-in-Ok-explained_behind
returns-in-Ok-explained_behind g c =
    let texts : List (List ℕ) = map (λ f. f.text.items) c.args.journal.now in
    let u = c.in-Ok.ensures.ok in
    ends_written (ExplanationBehindEnds c.args.declaration.now c.args.room texts c.args.attempts.now) _ _ _ _ _ _ c.as_bytes.ensures.value
    (u.0, u.1, (c.in-Ok.behind.system, u.2, (c.in-Ok-explained_behind.ensures.ok.0, c.in-Ok-explained_behind.ensures.ok.1, explanation_so (MayFail (own_state {Y = g.row.A.Denot})) ⊥ c.in-Ok.behind.system _ _ unfailing c.in-Ok-explained_behind.ensures.ok.2)))
    c.put_text.ensures

pub returns-in-Err-explained_behind : goal.returns-in-Err-explained_behind
returns-in-Err-explained_behind g c =
    let texts : List (List ℕ) = map (λ f. f.text.items) c.args.journal.now in
    let u = c.in-Ok.ensures.ok in
    ends_told _ _ (status_of c.in-Err-explained_behind.fault) _
    (may_behind c.args.declaration.now c.args.room texts (λ d. IsExplanationBehind d c.args.room texts c.args.attempts.now) (λ d. IsBadAttempts d c.args.attempts.now) u.0 (status_of c.in-Err-explained_behind.fault) u.1
    (subst (λ (d : Declaration). RefusesText ⊥ (IsBadAttempts d c.args.attempts.now) (status_of c.in-Err-explained_behind.fault)) (same_declaration u.0 c.args.room texts c.in-Ok.behind.system u.2) c.in-Err-explained_behind.ensures.err))
    c.tell_place.ensures

pub explained_behind-requires : goal.explained_behind-requires
explained_behind-requires g c = c.in-Ok.ensures.ok.2.answered.is_system.first
