-- One row more, with the places of its law.
use Rattle.std.proofs.Common.{◌≤◌, ap, sym, ◌∙◌, ◌∷◌, [], arith, inl, inr, length, vec_capacity}
use Rattle.std.proofs.lemmas.Bool.{cases_eq}
use Rattle.std.proofs.lemmas.List.{length-append}
use Rattle.path_model.specs.Declarations.{law_of}
use Rattle.path_system.specs.Inner.Openings.{places_of}
use Rattle.path_system.proofs.Rows.{law_found, law_none, row_pushed, row_before}
use Rattle.path_system.proofs.openings.Openings.with_places.Goals as goal
use Rattle.path_system.proofs.openings.Openings.with_places.Goals.{in-Some, in-None}

pub loop-resource-preserved : goal.loop-resource-preserved
loop-resource-preserved g c =
    let rows = c.loop-resource.rows.items in
    let d = c.args.decl.now.declaration in
    let resource = c.loop-resource.resource in
    let row = c.in_ok-with_capacity.field-0 in
    let so_far = c.loop-resource.invariant in
    let places : places_of (law_of d resource) ≤ c.match-law_of.places = elim c.match-law_of.branch [
      | in-Some w ↦
          let law = ap places_of (law_found d resource _ (sym c.law_of.ensures ∙ w.in-Some.is)) in
          omega (arith, law, w.places_for-places.ensures, w.places-is)
      | in-None w ↦ absurd (law_none d resource (omega (arith, c.loop-resource-test.true, c.counts-resource-end.ensures.resources)) (sym c.law_of.ensures ∙ w.in-None.is))
    ] in
    let enough : places_of (law_of d resource) ≤ vec_capacity row = omega (arith, places, c.in_ok-with_capacity.ensures.capacity) in
    record {
      count = omega (arith, ap length c.in_ok-push.ensures.items, length-append rows (row ∷ []), so_far.count);
      places = λ r low. rw c.in_ok-push.ensures.items (elim (cases_eq r resource) [
        | inl same ↦ rw (row_pushed (λ row. record { numbers = row.items; places = vec_capacity row }) rows row r (same ∙ sym so_far.count), same) enough
        | inr other ↦ rw (row_before (λ row. record { numbers = row.items; places = vec_capacity row }) rows row r (omega (arith, low, other, so_far.count)))
            (so_far.places r (omega (arith, low, other)))
      ]);
    }
