-- Where earlier paths with one tree stand alike, it is enough to compare with one of them.
use Rattle.std.proofs.Common.{Bool, true, false, refl, sym, ◌∙◌}
use Rattle.std.specs.Prelude.{IsTrue}
use Rattle.std.specs.Bool.{OnTrue, OnFalse}
use Rattle.path_standings.specs.Told.{rows_of, IsFirst}
use Rattle.path_standings.specs.declared.misfit.Misfit.TheVariants.{Unlike}
use Rattle.path_standings.specs.Misfits.{IsWrong}
use Rattle.path_standings.proofs.Writing.{alike, alone}
use Rattle.path_standings.proofs.misfit.is_alike.Goals as goal

on_true : (b : Bool) (P : Type 0) → (IsTrue b → P) → OnTrue b P
on_true true P f = f refl
on_true false P f = tt

on_false : (b : Bool) (P : Type 0) → ((IsTrue b → ⊥) → P) → OnFalse b P
on_false true P f = tt
on_false false P f = f (λ z. cc)

pub returns-in-Some-clause-yes : goal.returns-in-Some-clause-yes
returns-in-Some-clause-yes g c =
    let e = c.in-Some.ensures.some in
    on_true _ _ (λ t. alike c.args.decl.now.declaration c.args.in_progress.now (rows_of c.args.rows.now) c.args.number c.in-Some.earlier e.0 (e.1 ∙ c.tree_numbered.ensures)
    (sym c.row_numbered.ensures ∙ c.is_same_row.ensures.0 t ∙ c.row_numbered-in-Some.ensures) c.requires.before)

pub returns-in-Some-clause-no : goal.returns-in-Some-clause-no
returns-in-Some-clause-no g c =
    let e = c.in-Some.ensures.some in
    on_false c.is_same_row.result (IsWrong c.args.decl.now.declaration c.args.in_progress.now (rows_of c.args.rows.now) c.args.number Unlike)
    (λ f. (c.in-Some.earlier, e.0, e.1 ∙ c.tree_numbered.ensures, λ same. f (c.is_same_row.ensures.1 (c.row_numbered.ensures ∙ same ∙ sym c.row_numbered-in-Some.ensures))))

pub returns-in-None-clause-yes : goal.returns-in-None-clause-yes
returns-in-None-clause-yes g c =
    let first : IsFirst c.args.decl.now.declaration c.args.number = rw c.tree_numbered.ensures at c.in-None.ensures.none in
    alone c.args.decl.now.declaration (rows_of c.args.rows.now) c.args.number first
