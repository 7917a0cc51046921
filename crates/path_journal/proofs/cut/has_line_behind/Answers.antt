-- Each line feed is passed, and a line without a mark behind it is found.
use Rattle.std.proofs.Common.{◌≡◌, ◌∷◌, [], ◌++◌, ◌∙◌, ap, sym, subst, append_assoc}
use Rattle.std.specs.Option.{IfSome}
use Rattle.path_journal.specs.JournalTexts.{LineFits, journal_line}
use Rattle.path_journal.proofs.CutLemmas.{none_at, some_is, behind_more, behind_next, behind_never}
use Rattle.path_journal.proofs.cut.has_line_behind.Goals as goal

pub returns-then-is_some-clause-yes : goal.returns-then-is_some-clause-yes
returns-then-is_some-clause-yes g c =
    let found = some_is c.plain_line.result c.if-is_some.ensures in
    let fits = subst (λ o. IfSome o (λ p. LineFits p.0)) found.1 c.plain_line.ensures.fits in
    let parts = subst (λ o. IfSome o (λ p. c.in-Some.after.now ≡ journal_line c.args.decl.now.declaration p.0 ++ p.1.now)) found.1 c.plain_line.ensures.parts in
    let front = c.loop-after.invariant.front in
    behind_more c.args.decl.now.declaration c.args.text.now front.0 c.loop-after.rest.now c.in-Some.field-0-0.now c.in-Some.after.now found.0.0 found.0.1.now front.1 c.in-Some.ensures.some parts fits

pub loop-after-preserved : goal.loop-after-preserved
loop-after-preserved g c =
    let front = c.loop-after.invariant.front in
    record {
      front = (front.0 ++ (c.in-Some.field-0-0.now ++ 10 ∷ []), front.1 ∙ ap (λ x. front.0 ++ x) (c.in-Some.ensures.some ∙ sym (append_assoc c.in-Some.field-0-0.now (10 ∷ []) c.in-Some.after.now)) ∙ sym (append_assoc front.0 (c.in-Some.field-0-0.now ++ 10 ∷ []) c.in-Some.after.now));
      left = λ b. behind_next c.args.decl.now.declaration c.loop-after.rest.now c.in-Some.field-0-0.now c.in-Some.after.now c.in-Some.ensures.some c.in-Some.ensures.first (none_at c.plain_line.result _ c.if-is_some.ensures c.plain_line.ensures.none) (c.loop-after.invariant.left b);
    }

pub returns-clause-no : goal.returns-clause-no
returns-clause-no g c = λ b. behind_never c.args.decl.now.declaration c.loop-after.rest.now c.in_default.ensures.none (c.loop-after.invariant.left b)
