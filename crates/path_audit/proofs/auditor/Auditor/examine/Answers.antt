-- A line with the owed reply goes on; the first without it is wrong.
use Rattle.std.proofs.Common.{◌≡◌, ◌≢◌, ◌∷◌, [], ◌++◌, get_or, subst, arith, sym}
use Rattle.std.proofs.lemmas.List.{take_all}
use Rattle.std.proofs.lemmas.Option.{slice_get-get_or}
use Rattle.path_model.specs.declared.journal.Line.{Line}
use Rattle.path_model.specs.declared.journal.Reply.TheVariants.{NoRoom}
use Rattle.path_audit.specs.Judged.{AuditorValue, HasJudged}
use Rattle.path_step.proofs.CallerLemmas.{ready, running}
use Rattle.path_audit.proofs.Replayed.{line_at, nothing}
use Rattle.path_audit.proofs.Segments.{begins_next, has_judged, few_lines, admitted_is, line_right, owed_instead}
use Rattle.path_audit.proofs.auditor.Auditor.examine.Goals as goal

pub loop-n-init : goal.loop-n-init
loop-n-init g c openings segments h =
    begins_next (record { replay = c.self.inside.replay; room = c.self.inside.room }) c.args.decl.now.declaration openings segments
    (subst (λ (v : AuditorValue). HasJudged v c.args.decl.now.declaration openings segments) (sym c.self.view_is) h)

pub answer-requires-clause-ready : goal.answer-requires-clause-ready
answer-requires-clause-ready g c = ready _ c.args.decl.now.lawful _ _ _ _ _ (c.loop-n.invariant c.requires.0 c.requires.1 c.requires.2).replayed _ (λ r declared. tt)

pub answer-requires-clause-running : goal.answer-requires-clause-running
answer-requires-clause-running g c = running _ c.args.decl.now.lawful _ _ _ _ _ (c.loop-n.invariant c.requires.0 c.requires.1 c.requires.2).replayed

pub answer-requires-clause-few : goal.answer-requires-clause-few
answer-requires-clause-few g c = few_lines _ c.args.decl.now.lawful _ _ _ _ c.args.lines.now c.loop-n.n (c.loop-n.invariant c.requires.0 c.requires.1 c.requires.2) c.loop-n-test.true

pub answer-requires-clause-admitted : goal.answer-requires-clause-admitted
answer-requires-clause-admitted g c = admitted_is _ c.args.decl.now.lawful _ _ _ _ c.args.lines.now c.loop-n.n (c.loop-n.invariant c.requires.0 c.requires.1 c.requires.2) c.loop-n-test.true

pub overflow_cast-place : goal.overflow_cast-place
overflow_cast-place g c =
    let s = c.loop-n.invariant c.requires.0 c.requires.1 c.requires.2 in
    let few = few_lines _ c.args.decl.now.lawful _ _ _ _ c.args.lines.now c.loop-n.n s c.loop-n-test.true in
    omega (arith, few, s.good_room.1)

pub returns-then-not-is_told-clause-found : goal.returns-then-not-is_told-clause-found
returns-then-not-is_told-clause-found g c openings segments h =
    let line : Line = get_or c.args.lines.now c.loop-n.n nothing in
    let other : (c.in_ok-owed.owed ≡ line.reply) × (line.reply ≢ NoRoom) → ⊥ = λ told. cc (c.is_told.ensures.1 told, c.if-not-is_told.true) in
    owed_instead c.args.decl.now.declaration c.args.decl.now.lawful c.loop-n.replay c.self.inside.room openings segments c.args.lines.now c.loop-n.n (c.loop-n.invariant openings segments h) c.loop-n-test.true
    line (line_at c.args.lines.now c.loop-n.n nothing line c.loop-n-test.true) c.in_ok-owed.owed c.answer.new.self c.in_ok-owed.ensures
    (slice_get-get_or c.args.lines.now c.loop-n.n nothing c.loop-n-test.true) other

pub loop-n-preserved : goal.loop-n-preserved
loop-n-preserved g c openings segments h =
    let line : Line = get_or c.args.lines.now c.loop-n.n nothing in
    line_right c.args.decl.now.declaration c.args.decl.now.lawful c.loop-n.replay c.self.inside.room openings segments c.args.lines.now c.loop-n.n (c.loop-n.invariant openings segments h) c.loop-n-test.true
    line (line_at c.args.lines.now c.loop-n.n nothing line c.loop-n-test.true) c.in_ok-owed.owed c.answer.new.self c.in_ok-owed.ensures (c.is_told.ensures.0 c.if-not-is_told.false)

pub returns-clause-found : goal.returns-clause-found
returns-clause-found g c openings segments h =
    subst (λ lines. HasJudged (record { replay = c.loop-n.replay; room = c.self.inside.room }) c.args.decl.now.declaration openings (segments ++ lines ∷ [])) (take_all c.loop-n.n c.args.lines.now c.loop-n-test.false)
    (has_judged c.loop-n.replay c.args.decl.now.declaration c.self.inside.room openings segments _ (c.loop-n.invariant openings segments h))
