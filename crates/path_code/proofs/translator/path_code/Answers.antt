-- The walks over the tree give the code of the path.
use Rattle.std.proofs.Common.{◌≡◌, ◌+◌, ◌++◌, length, ap, sym, ◌∙◌, refl, arith}
use Rattle.std.proofs.lemmas.List.{with_items_is}
use Rattle.path_model.specs.Trees.{Tree, shape}
use Rattle.path_model.specs.Flat.{Sited, first_bound}
use Rattle.path_code.specs.declared.terms.Prologue.TheVariants.{P}
use Rattle.path_code.specs.PathCodes.{numbers_from}
use Rattle.path_code.specs.Inner.Walks.{starts_in, bounds_from}
use Rattle.path_code.proofs.NumberLists.{first_values}
use Rattle.path_code.proofs.Substituted.{flat, length_starts, semaphores_whole, ops_whole}
use Rattle.path_code.proofs.translator.path_code.Goals as goal

pub set_ends-requires-clause-flat : goal.set_ends-requires-clause-flat
set_ends-requires-clause-flat g c = flat (shape c.args.tree.now) c.requires.formed.not_nested

pub set_ends-requires-clause-within : goal.set_ends-requires-clause-within
set_ends-requires-clause-within g c =
    let s : Tree = shape c.args.tree.now in
    let all = ap length (c.deref_mut.ensures.value ∙ c.in_ok-add_starts.ensures.starts ∙ ap (λ xs. xs ++ starts_in s (c.args.own + 1) c.args.brace (c.args.own + 1 + c.count_parts.new.count.semicolon) (P c.args.own)) c.in_ok-ops.ensures.items) in
    let long = length_starts s (c.args.own + 1) c.args.brace (c.args.own + 1 + c.count_parts.new.count.semicolon) (P c.args.own) in
    let place = c.in_ok-add_starts.ensures.numbers.place in
    omega (arith, all, long, place)

pub returns-clause-code : goal.returns-clause-code
returns-clause-code g c =
    let s : Tree = shape c.args.tree.now in
    let x : Sited = record { tree = shape c.args.tree.now; own = c.args.own; first = c.args.brace } in
    let e = c.in_ok-add_starts.ensures in
    let r = c.set_ends.ensures in
    let semis = c.count_parts.ensures.semicolon in
    let first : c.args.own + 1 + c.count_parts.new.count.semicolon ≡ first_bound x = omega (arith, semis) in
    let pairs = e.numbers.brace in
    let started = c.deref_mut.ensures.value ∙ e.starts
    ∙ ap (λ xs. xs ++ starts_in s (c.args.own + 1) c.args.brace (c.args.own + 1 + c.count_parts.new.count.semicolon) (P c.args.own)) c.in_ok-ops.ensures.items
    ∙ ap (λ u. starts_in s (c.args.own + 1) c.args.brace u (P c.args.own)) first in
    record {
      tree = refl;
      semaphores = semaphores_whole x _ (e.bounds
          ∙ ap (λ xs. xs ++ bounds_from s (c.args.own + 1 + c.count_parts.new.count.semicolon)) c.in_ok-semaphores.ensures
          ∙ ap (λ u. first_values c.args.own u ++ bounds_from s u) first);
      braces = c.in_ok-braces.ensures ∙ ap (numbers_from c.args.brace) (omega (arith, pairs));
      ops = with_items_is c.add_starts.new.ops c.set_ends.new.ops (r.kept ∙ ap length c.deref_mut.ensures.value ∙ sym c.add_starts.new.ops.ok.0)
          ∙ ops_whole x c.requires.formed _ _ _ _ _ _
          (let a = r.numbers.place in let b = e.numbers.place in omega (arith, a, b))
          (let a = r.numbers.semicolon in let b = e.numbers.semicolon in omega (arith, a, b))
          (let a = r.numbers.brace in let b = e.numbers.brace in omega (arith, a, b))
          (let a = r.numbers.bound in let b = e.numbers.bound in omega (arith, a, b, first))
          started r.set;
    }
