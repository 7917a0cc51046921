-- The files are refused, or their room, or a line; or a system goes on behind them.
use Rattle.std.specs.Prelude.{map}
use Rattle.std.proofs.Common.{ℕ, List, ◌⊎◌, inl, refl}
use Rattle.path_model.specs.declared.journal.Line.{Line}
use Rattle.path_shelf.specs.Own.{own_state}
use Rattle.tell_base.specs.Statuses.{open_status}
use Rattle.tell_base.proofs.CallerLemmas.{may_refuse, own_room, refuses_opening}
use Rattle.cmd_audit.specs.Files.{fault_status}
use Rattle.cmd_audit.specs.Segments.{AreNoSegments, LackRoom}
use Rattle.tell_journals.specs.Behind.{HasWrongLine, UnlessWrong}
use Rattle.tell_journals.proofs.Going.{all_answered}
use Rattle.tell_journals.proofs.Wrong.{audit_wrong, lack_room}
use Rattle.tell_journals.proofs.behind.open_behind.Goals as goal

pub returns-in-Err-clause-err : goal.returns-in-Err-clause-err
returns-in-Err-clause-err g c =
    let texts : List (List ℕ) = map (λ f. f.text.items) c.args.files.now in
    may_refuse (UnlessWrong (λ out. ⊥) (HasWrongLine c.args.decl.declaration c.args.room texts)) _ _ _ _ (fault_status c.in-Err.fault) (λ x. x) inl c.in-Err.ensures.err

pub returns-in-Err-open-clause-err : goal.returns-in-Err-open-clause-err
returns-in-Err-open-clause-err g c =
    let d = c.args.decl.declaration in
    let texts : List (List ℕ) = map (λ f. f.text.items) c.args.files.now in
    may_refuse (UnlessWrong (λ out. ⊥) (HasWrongLine d c.args.room texts)) (LackRoom d c.args.room texts) (LackRoom d c.args.room texts) (AreNoSegments d c.args.room texts ⊎ ⊥) (AreNoSegments d c.args.room texts ⊎ ⊥)
    (open_status c.in-Err-open.fault) (λ x. x) (λ x. x)
    (refuses_opening (LackRoom d c.args.room texts) (AreNoSegments d c.args.room texts ⊎ ⊥) d (map own_state c.args.devices.items) c.in-Ok.segments.room c.in-Err-open.fault
    (λ unopened. lack_room d c.args.room c.in-Ok.segments.room texts _ c.in-Ok.ensures.ok (own_room d (map own_state c.args.devices.items) c.in-Ok.segments.room c.requires unopened))
    c.in-Err-open.ensures.fault)

pub returns-in-None-clause-ok : goal.returns-in-None-clause-ok
returns-in-None-clause-ok g c =
    let lists : List (List Line) = map (λ lines. lines.items) c.in-Ok.segments.lists.items in
    record {
      room = c.in-Ok.segments.room;
      segments = lists;
      told = c.in-Ok.ensures.ok;
      answered = all_answered c.args.decl.declaration c.in-Ok.segments.room lists (map own_state c.args.devices.items) c.in-Ok-open.system c.take_segments.new.system c.requires c.in-Ok-open.ensures.ok
          (rw c.deref.ensures.value at c.in-None.ensures.taken);
    }

pub returns-in-Some-clause-err : goal.returns-in-Some-clause-err
returns-in-Some-clause-err g c =
    let texts : List (List ℕ) = map (λ f. f.text.items) c.args.files.now in
    record {
      may = (
        (
          c.in-Some.place.file,
          c.in-Some.place.line,
          audit_wrong c.args.decl.declaration c.args.room c.in-Ok.segments.room texts _ (map own_state c.args.devices.items) c.in-Ok-open.system c.in-Some.place c.requires c.in-Ok.ensures.ok
              c.in-Ok-open.ensures.good_room c.in-Ok-open.ensures.ok (rw c.deref.ensures.value at c.in-Some.ensures.wrong),
        ),
        refl,
      );
    }

pub returns-in-Some-clause-wrong : goal.returns-in-Some-clause-wrong
returns-in-Some-clause-wrong g c =
    let texts : List (List ℕ) = map (λ f. f.text.items) c.args.files.now in
    audit_wrong c.args.decl.declaration c.args.room c.in-Ok.segments.room texts _ (map own_state c.args.devices.items) c.in-Ok-open.system c.in-Some.place c.requires c.in-Ok.ensures.ok
    c.in-Ok-open.ensures.good_room c.in-Ok-open.ensures.ok (rw c.deref.ensures.value at c.in-Some.ensures.wrong)

pub returns-in-None-clause-segments : goal.returns-in-None-clause-segments
returns-in-None-clause-segments g c = (c.in-Ok.segments.room, c.in-Ok.ensures.ok)
