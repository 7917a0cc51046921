-- There is one verdict.
use Rattle.std.proofs.Common.{[], ◌∙◌, subst}
use Rattle.std.specs.Prelude.{map}
use Rattle.path_model.specs.Honest.{IsHonest}
use Rattle.path_audit.specs.declared.journals.Verdict.TheVariants.{Sound, WrongLine}
use Rattle.path_audit.specs.Judged.{IsFirstWrongBehind, IsJudgeFault}
use Rattle.path_audit.proofs.Replayed.{sound_exactly, wrong_exactly}
use Rattle.path_audit.proofs.Segments.{alone_honest, alone_wrong}
use Rattle.path_audit.proofs.journals.audit.Goals as goal

pub judge-requires : goal.judge-requires
judge-requires g c = (_, _, c.in_ok-auditor.ensures.opened)

pub returns-in-Ok-clause-sound : goal.returns-in-Ok-clause-sound
returns-in-Ok-clause-sound g c =
    let rows = map (λ opening. opening.items) c.args.openings.now in
    let honest : IsHonest c.args.decl.now.declaration c.args.room rows c.args.lines.now =
    alone_honest _ _ _ _ c.in-Ok._auditor (c.in-Ok.ensures.room ∙ c.in_ok-auditor.ensures.room) (c.in-Ok.ensures.right rows [] c.in_ok-auditor.ensures.opened) in
    sound_exactly c.args.decl.now.declaration c.args.room rows c.args.lines.now Sound honest

pub returns-in-Ok-clause-wrong : goal.returns-in-Ok-clause-wrong
returns-in-Ok-clause-wrong g c =
    let rows = map (λ opening. opening.items) c.args.openings.now in
    let honest : IsHonest c.args.decl.now.declaration c.args.room rows c.args.lines.now =
    alone_honest _ _ _ _ c.in-Ok._auditor (c.in-Ok.ensures.room ∙ c.in_ok-auditor.ensures.room) (c.in-Ok.ensures.right rows [] c.in_ok-auditor.ensures.opened) in
    wrong_exactly c.args.decl.now.declaration c.args.room rows c.args.lines.now Sound honest

pub returns-in-Err-WrongLine-clause-sound : goal.returns-in-Err-WrongLine-clause-sound
returns-in-Err-WrongLine-clause-sound g c =
    let d = c.args.decl.now.declaration in
    let rows = map (λ opening. opening.items) c.args.openings.now in
    let found = subst (IsJudgeFault d _ rows [] c.args.lines.now) c.in-Err-WrongLine.field-0-is (c.in-Err-WrongLine.ensures.wrong rows [] c.in_ok-auditor.ensures.opened) in
    let wrong = alone_wrong d c.args.room rows c.args.lines.now _ (subst (λ room. IsFirstWrongBehind d room rows [] c.args.lines.now c.in-Err-WrongLine.line) c.in_ok-auditor.ensures.room found) in
    sound_exactly d c.args.room rows c.args.lines.now (WrongLine _) wrong

pub returns-in-Err-WrongLine-clause-wrong : goal.returns-in-Err-WrongLine-clause-wrong
returns-in-Err-WrongLine-clause-wrong g c =
    let d = c.args.decl.now.declaration in
    let rows = map (λ opening. opening.items) c.args.openings.now in
    let found = subst (IsJudgeFault d _ rows [] c.args.lines.now) c.in-Err-WrongLine.field-0-is (c.in-Err-WrongLine.ensures.wrong rows [] c.in_ok-auditor.ensures.opened) in
    let wrong = alone_wrong d c.args.room rows c.args.lines.now _ (subst (λ room. IsFirstWrongBehind d room rows [] c.args.lines.now c.in-Err-WrongLine.line) c.in_ok-auditor.ensures.room found) in
    wrong_exactly d c.args.room rows c.args.lines.now (WrongLine _) wrong
