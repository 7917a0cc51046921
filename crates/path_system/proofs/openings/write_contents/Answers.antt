-- One number more.
use Rattle.std.proofs.Common.{ap, sym, ◌∙◌, ◌++◌, ◌∷◌, [], arith}
use Rattle.path_shelf.specs.States.{state_at}
use Rattle.path_system.proofs.Rows.{one_more}
use Rattle.path_system.proofs.openings.write_contents.Goals as goal

pub loop-place-preserved : goal.loop-place-preserved
loop-place-preserved g c =
    let more = one_more (state_at c.args.shelf.now c.args.resource.0).contents c.loop-place.place c.in-Some.number (sym c.at.ensures ∙ c.in-Some.is) in
    record {
      numbers = c.push_reserved.ensures.items ∙ ap (λ xs. xs ++ c.in-Some.number ∷ []) c.loop-place.invariant.numbers ∙ sym more.1;
      within = (let k = more.0 in omega (arith, k));
      places = c.push_reserved.ensures.capacity ∙ c.loop-place.invariant.places;
    }
