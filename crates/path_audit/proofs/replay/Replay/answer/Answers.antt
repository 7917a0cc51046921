-- The resources fail as the line says.
use Rattle.std.proofs.Common.{◌≡◌, ap, subst, ◌∙◌}
use Rattle.std.specs.Prelude.{IfOk}
use Rattle.path_step.specs.Steps.{Answers, present}
use Rattle.path_audit.specs.Inner.Replays.{Held, ReplayValue, Replays, asked, held_for}
use Rattle.path_audit.proofs.replay.Replay.answer.Goals as goal

pub returns : goal.returns
returns g c =
    let d = c.args.decl.now.declaration in
    let line = c.args.line in
    let new : ReplayValue = record { present = present c.answer.new.gate c.answer.new.live; held = c.answer.new.devices } in
    let before : c.set_fails.new.self ≡ held_for c.self.inside.resources line =
    c.set_fails.ensures ∙ ap (λ f. record { contents = c.self.inside.resources.contents; fails = f }) c.says_failed.ensures in
    subst (λ (v : ReplayValue). IfOk c.answer.result (λ reply. Replays d v c.args.room c.args.lines line reply new)) c.self.view_is
    (subst (λ h. IfOk c.answer.result (λ reply. Answers (λ (h : Held). h.contents) asked d (present c.self.inside.gate c.self.inside.activations) h c.args.room c.args.lines line.worker line.attempt reply new.present new.held))
    before c.answer.ensures.answers)
