-- One text more, unless it is refused or names another room.
use Rattle.std.proofs.Common.{◌≡◌, ◌<◌, ◌∷◌, [], ◌∙◌, List, ℕ, length, get_or, refl, subst, ap, sym, arith, inr, Err}
use Rattle.std.specs.Prelude.{map, not}
use Rattle.std.proofs.lemmas.Bool.{cond-true}
use Rattle.std.proofs.lemmas.List.{length-map, map-append}
use Rattle.path_journal.specs.JournalTexts.{IsJournalText, IsNoJournalText}
use Rattle.cmd_audit.proofs.SegmentLemmas.{first_read, next_read, all_read, names_another, refuses_text, text_there, within_texts}
use Rattle.cmd_audit.proofs.files.read_segments.Goals as goal
use Rattle.cmd_audit.proofs.files.read_segments.Goals.{then-i-eq0, else-i-eq0+else-not-is_same_room}

pub returns-in-Err-clause-err : goal.returns-in-Err-clause-err
returns-in-Err-clause-err g c =
    let texts : List (List ℕ) = map (λ f. f.text.items) c.args.files.now in
    let text : c.deref.result.now ≡ get_or texts c.loop-i.i [] = c.deref.ensures.value ∙ sym (text_there (λ f. f.text.items) c.args.files.now c.loop-i.i c.index-files-i.result c.loop-i-test.true c.index-files-i.is) in
    refuses_text c.args.decl.now.declaration c.args.given texts c.loop-i.i c.in-Err.fault
    (within_texts (λ f. f.text.items) c.args.files.now c.loop-i.i c.index-files-i.result c.loop-i-test.true c.index-files-i.is)
    (λ e. subst (λ t. 134217728 < length t) text (c.in-Err.ensures.too_long.0 (ap Err e)))
    (λ a b. subst (IsNoJournalText c.args.decl.now.declaration) text (c.in-Err.ensures.none a b))

pub returns-then-not-is_same_room-clause-err : goal.returns-then-not-is_same_room-clause-err
returns-then-not-is_same_room-clause-err g c =
    let d = c.args.decl.now.declaration in
    let texts : List (List ℕ) = map (λ f. f.text.items) c.args.files.now in
    let within = within_texts (λ f. f.text.items) c.args.files.now c.loop-i.i c.index-files-i.result c.loop-i-test.true c.index-files-i.is in
    let text : c.deref.result.now ≡ get_or texts c.loop-i.i [] = c.deref.ensures.value ∙ sym (text_there (λ f. f.text.items) c.args.files.now c.loop-i.i c.index-files-i.result c.loop-i-test.true c.index-files-i.is) in
    let told = subst (λ t. IsJournalText d t c.in-Ok.journal.room c.in-Ok.journal.lines.items) text c.in-Ok.ensures.ok in
    let another = names_another d c.args.given texts c.loop-i.i c.loop-i.room _ c.loop-i.invariant c.in-Ok.journal.room c.in-Ok.journal.lines.items
    c.if-i-eq0.false within told (λ e. cc (c.is_same_room.ensures.1 e, c.if-not-is_same_room.true)) in
    record { may = ((c.loop-i.i, within, inr another), refl) }

pub loop-i-preserved : goal.loop-i-preserved
loop-i-preserved g c =
    let d = c.args.decl.now.declaration in
    let texts : List (List ℕ) = map (λ f. f.text.items) c.args.files.now in
    let text : c.deref.result.now ≡ get_or texts c.loop-i.i [] = c.deref.ensures.value ∙ sym (text_there (λ f. f.text.items) c.args.files.now c.loop-i.i c.index-files-i.result c.loop-i-test.true c.index-files-i.is) in
    let told = subst (λ t. IsJournalText d t c.in-Ok.journal.room c.in-Ok.journal.lines.items) text c.in-Ok.ensures.ok in
    let more = c.push.ensures.items ∙ cond-true _ _ _ (c.is_err.ensures.negation ∙ ap not c.if-is_err.false) in
    let lists = ap (map (λ lines. lines.items)) more ∙ map-append (λ lines. lines.items) c.loop-i.lists.items (c.in-Ok.journal.lines ∷ []) in
    elim c.if-i-eq0.branch [
      | then-i-eq0 w ↦ rw (lists, w.room-is, w.unwrap_or-room.ensures)
          (first_read d c.args.given texts c.loop-i.i c.loop-i.room (map (λ lines. lines.items) c.loop-i.lists.items) c.loop-i.invariant c.in-Ok.journal.room c.in-Ok.journal.lines.items w.if-i-eq0.true told)
      | else-i-eq0+else-not-is_same_room w ↦ rw (lists, w.room-is)
          (next_read d c.args.given texts c.loop-i.i c.loop-i.room (map (λ lines. lines.items) c.loop-i.lists.items) c.loop-i.invariant c.in-Ok.journal.room c.in-Ok.journal.lines.items told
          (w.is_same_room.ensures.0 (cc (w.if-not-is_same_room.false))))
    ]

pub returns-clause-ok : goal.returns-clause-ok
returns-clause-ok g c =
    let texts : List (List ℕ) = map (λ f. f.text.items) c.args.files.now in
    all_read c.args.decl.now.declaration c.args.given texts c.loop-i.i c.loop-i.room _ c.loop-i.invariant (omega (arith, c.loop-i-test.false, c.loop-i.auto.i-end, length-map c.args.files.now (λ f. f.text.items)))
