use Rattle.std.proofs.Common.{◌≡◌, ◌<◌, ◌≤◌, subst, sym, refl, option_map, length, set, arith, inl, inr}
use Rattle.path_model.specs.Trees.{shape}
use Rattle.path_decl.specs.Table.{noted, times}
use Rattle.path_decl.proofs.Noted.{note_push, note_past, note_both, not_below, more}
use Rattle.path_decl.proofs.naming.+note.Goals as goal

pub returns-in_ok-push-in-Op-clause-noted : goal.returns-in_ok-push-in-Op-clause-noted
returns-in_ok-push-in-Op-clause-noted g t c = λ a.
    let vs = c.args.naming.now.items in
    let lt : c.in-Op.op.0 < length vs = omega (arith, c.in-Some.ensures.variant.0 refl, c.args.naming.now.ok.0) in
    subst (λ x. noted (set vs c.in-Op.op.0 c.push.new.self) a ≡ option_map (more (times (shape x) (record { 0 = a })) c.args.path) (noted vs a)) (sym c.in-Op.is)
    (note_push vs c.in-Op.op.0 a c.in-Some.paths.now c.push.new.self c.args.path lt c.in-Some.ensures.value c.in_ok-push-in-Op.ensures.items)

pub returns-in_default-clause-noted : goal.returns-in_default-clause-noted
returns-in_default-clause-noted g t c = λ a.
    let vs = c.args.naming.now.items in
    let le : length vs ≤ c.in-Op.op.0 = not_below _ _ (λ lt. let e = c.in_default.ensures.variant.1 (omega (arith, lt, c.args.naming.now.ok.0)) in cc) in
    subst (λ x. noted vs a ≡ option_map (more (times (shape x) (record { 0 = a })) c.args.path) (noted vs a)) (sym c.in-Op.is)
    (note_past vs c.in-Op.op.0 a c.args.path le)

pub returns-in_ok-note-in-Seq-2-clause-noted : goal.returns-in_ok-note-in-Seq-2-clause-noted
returns-in_ok-note-in-Seq-2-clause-noted g t c = λ a.
    let p = note_both _ _ c.args.path _ _ _ (rw c.deref-in-Seq.ensures at (c.in_ok-note-in-Seq.ensures.noted a)) (rw c.deref-in-Seq-2.ensures at (c.in_ok-note-in-Seq-2.ensures.noted a)) in
    elim c.in-Seq.is [
      | inl e ↦ subst (λ x. noted c.note-in-Seq-2.new.naming.items a ≡ option_map (more (times (shape x) (record { 0 = a })) c.args.path) (noted c.args.naming.now.items a)) (sym e) p
      | inr e ↦ subst (λ x. noted c.note-in-Seq-2.new.naming.items a ≡ option_map (more (times (shape x) (record { 0 = a })) c.args.path) (noted c.args.naming.now.items a)) (sym e) p
    ]
