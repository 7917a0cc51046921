use Rattle.std.proofs.Common.{◌<◌, length, map, sym, ap, subst, ◌∙◌, get_or, Some, arith}
use Rattle.path_model.specs.Trees.{NoRepeats, shape}
use Rattle.path_decl.specs.Table.{naming_from}
use Rattle.path_decl.proofs.Shown.{each_once, trees_shown}
use Rattle.path_decl.proofs.decl.Decl.new.Goals as goal

pub naming_paths-requires-clause-distinct : goal.naming_paths-requires-clause-distinct
naming_paths-requires-clause-distinct g c = λ k d lt.
    subst (λ ps. k < length ps → NoRepeats (shape (get_or ps k d).tree)) (sym c.deref.ensures.value) (each_once c.args.paths.items 0 c.requires.1.lawful.well_formed k d) lt

pub invariant_of-result-2 : goal.invariant_of-result-2
invariant_of-result-2 g c =
    record {
      declared = c.requires;
      named = c.in_ok-naming.ensures.len ∙ c.len.ensures.len;
      naming = λ a lt.
          let e = c.in_ok-naming.ensures.named a (omega (arith, lt, c.len.ensures.len)) in
          e ∙ ap (λ ts. Some (naming_from 0 ts (record { 0 = a }))) (ap (map (λ p. shape p.tree)) c.deref.ensures.value ∙ trees_shown c.args.paths.items);
    }

pub invariant_of-result : goal.invariant_of-result
invariant_of-result g c = (c.requires.1.lawful, tt)
