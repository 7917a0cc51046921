use Rattle.std.proofs.Common.{ap, subst, sym, ◌∙◌, Some, map}
use Rattle.std.proofs.lemmas.List.{take_all}
use Rattle.path_model.specs.Trees.{shape, NoRepeats}
use Rattle.path_decl.specs.Table.{naming_from}
use Rattle.path_decl.proofs.Noted.{named_more}
use Rattle.path_decl.proofs.naming.naming_paths.Goals as goal

pub loop-number-preserved : goal.loop-number-preserved
loop-number-preserved g c =
    let i = c.loop-number.invariant in
    let x = c.index-paths-number.result in
    let once = c.requires.distinct c.loop-number.number x c.loop-number-test.true in
    record {
      len = c.in_ok-note.ensures.len ∙ i.len;
      named = λ a lt. named_more (λ p. shape p.tree) c.args.paths.now c.loop-number.number x _ _ _ c.loop-number-test.true c.index-paths-number.is (subst (λ y. NoRepeats (shape y.tree)) (sym c.index-paths-number.is) once) (i.named a lt) (c.in_ok-note.ensures.noted a);
    }

pub returns-clause-named : goal.returns-clause-named
returns-clause-named g c = λ a lt.
    c.loop-number.invariant.named a lt ∙ ap (λ ps. Some (naming_from 0 (map (λ p. shape p.tree) ps) (record { 0 = a }))) (take_all c.loop-number.number c.args.paths.now c.loop-number-test.false)
