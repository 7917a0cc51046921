-- One more row is written, and at the end all are.
use Rattle.std.proofs.Common.{length, ap, ◌∙◌, arith}
use Rattle.std.specs.Prelude.{map}
use Rattle.std.proofs.lemmas.List.{length-set}
use Rattle.path_shelf.specs.States.{state_at}
use Rattle.path_system.specs.Inner.Openings.{Row}
use Rattle.path_system.proofs.Rows.{places_same, places_written, written_more, all_written}
use Rattle.path_system.proofs.openings.Openings.write_all.Goals as goal

pub write-requires-clause-places : goal.write-requires-clause-places
write-requires-clause-places g c =
    let k = c.requires.places c.loop-resource.resource (omega (arith, c.loop-resource-test.true, c.requires.devices)) in
    let same = places_same c.loop-resource.self c.args.self.now c.loop-resource.resource c.loop-resource.invariant.places in
    omega (arith, k, same)

pub loop-resource-preserved : goal.loop-resource-preserved
loop-resource-preserved g c =
    let states = c.args.shelf.now in
    let place = c.loop-resource.resource in
    record {
      count = ap length c.write.ensures ∙ length-set c.loop-resource.self place _ ∙ c.loop-resource.invariant.count;
      written = rw c.write.ensures
          (written_more c.loop-resource.self states place (omega (arith, c.loop-resource-test.true, c.loop-resource.invariant.count)) c.loop-resource.invariant.written);
      places = ap (map (λ (row : Row). row.places)) c.write.ensures ∙ places_written c.loop-resource.self place (state_at states place).contents ∙ c.loop-resource.invariant.places;
    }

pub returns-clause-numbers : goal.returns-clause-numbers
returns-clause-numbers g c =
    all_written c.loop-resource.self c.args.shelf.now (omega (arith, c.loop-resource.invariant.count, c.requires.devices))
    (λ r low. c.loop-resource.invariant.written r (omega (arith, low, c.loop-resource.invariant.count, c.loop-resource-test.false)))
