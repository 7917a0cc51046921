-- The journal is sound, or its first wrong line is told.
use Rattle.std.proofs.Common.{length, sym, ◌∙◌, subst}
use Rattle.std.proofs.lemmas.Result.{IfOk-weaker, IfErr-weaker, err_from_is_err_and}
use Rattle.std.specs.String.{string_bytes}
use Rattle.path_model.specs.Rooms.{IsBadRoom}
use Rattle.tell_base.specs.Statuses.{status_of}
use Rattle.tell_base.proofs.CallerLemmas.{lacks_room, may_refuse}
use Rattle.tell_base.specs.Ends.{RefusesText}
use Rattle.tell_base.specs.Refusals.{IsBadJournal, LacksRoom}
use Rattle.cmd_explain.specs.Judgements.{Begins, IsJudgedText, sound_line}
use Rattle.cmd_explain.proofs.Judging.{sound_told, wrong_told}
use Rattle.cmd_explain.proofs.journal.judge_text.Goals as goal

pub returns-in-None-clause-ok : goal.returns-in-None-clause-ok
returns-in-None-clause-ok g c =
    IfOk-weaker c.told.result _ _
    (λ judged is.
    let bytes = string_bytes judged.text in
    subst (λ s. IsJudgedText c.args.decl.now.declaration c.args.room c.args.text.now s bytes) (sym is.1)
    (sound_told c.args.decl.now.declaration c.args.room c.unwrap_or-room.result c.args.text.now bytes c.in-Ok.journal.room c.in-Ok.journal.lines.items c.deref.result.now c.in_ok-examined.examined
    c.in-Ok.ensures.ok c.unwrap_or-room.ensures c.deref.ensures.value c.in_ok-examined.ensures.good_room c.in_ok-examined.ensures.room c.in_ok-examined.ensures.ok (sym c.wrong.ensures ∙ c.in-None.is)
    (subst (λ xs. Begins (sound_line (length xs)) bytes) (c.deref-in-None.ensures.value ∙ sym c.deref.ensures.value) (rw is.0 at c.sound.ensures))))
    c.told.ensures.ok

pub returns-in-None-clause-err : goal.returns-in-None-clause-err
returns-in-None-clause-err g c =
    IfErr-weaker c.told.result _ _
    (λ fault is. subst (λ f. RefusesText (LacksRoom c.args.decl.now.declaration c.args.room c.args.text.now) (IsBadJournal c.args.decl.now.declaration c.args.text.now) (status_of f)) (sym is) (record { may = tt }))
    c.told.ensures.err

pub returns-clause-ok : goal.returns-clause-ok
returns-clause-ok g c =
    IfOk-weaker c.told-in-Some.result _ _
    (λ judged is.
    subst (λ s. IsJudgedText c.args.decl.now.declaration c.args.room c.args.text.now s (string_bytes judged.text)) (sym is.1)
    (wrong_told c.args.decl.now.declaration c.args.room c.unwrap_or-room.result c.args.text.now (string_bytes judged.text) c.in-Ok.journal.room c.in-Ok.journal.lines.items
    c.deref.result.now c.in_ok-examined.examined c.in-Ok.ensures.ok c.unwrap_or-room.ensures c.deref.ensures.value c.in_ok-examined.ensures.good_room c.in_ok-examined.ensures.room
    c.in_ok-examined.ensures.ok c.in-Some.wrong (sym c.wrong.ensures ∙ c.in-Some.is) (rw is.0 at c.unsound.ensures)))
    c.told-in-Some.ensures.ok

pub returns-clause-err : goal.returns-clause-err
returns-clause-err g c =
    IfErr-weaker c.told-in-Some.result _ _
    (λ fault is. subst (λ f. RefusesText (LacksRoom c.args.decl.now.declaration c.args.room c.args.text.now) (IsBadJournal c.args.decl.now.declaration c.args.text.now) (status_of f)) (sym is) (record { may = tt }))
    c.told-in-Some.ensures.err

pub returns-in_err-examined-clause-err : goal.returns-in_err-examined-clause-err
returns-in_err-examined-clause-err g c =
    let p = err_from_is_err_and c.from_residual.result c.from_residual.ensures.1 in
    rw (p.1, p.2)
    (may_refuse (λ t out. ⊥) _ _ ⊥ _ (status_of c.in_err-examined.field-0.0)
    (λ bad. lacks_room c.args.decl.now.declaration c.args.room c.args.text.now c.in-Ok.journal.room c.in-Ok.journal.lines.items c.in-Ok.ensures.ok (subst (λ x. IsBadRoom x) c.unwrap_or-room.ensures bad))
    absurd c.in_err-examined.ensures.err)
