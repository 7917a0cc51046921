-- The resource at the index serves.
use Rattle.std.proofs.Common.{◌≡◌, length, ap, sym, arith}
use Rattle.std.specs.Prelude.{map}
use Rattle.std.proofs.lemmas.List.{length-map}
use Rattle.path_audit.specs.Inner.Replays.{Held}
use Rattle.path_audit.proofs.Lists.{served}
use Rattle.path_audit.proofs.resources.ResourcesDevices.act.Goals as goal

pub returns-clause-serves : goal.returns-clause-serves
returns-clause-serves g c =
    let xs = c.self.inside.contents.items in
    let same : c.args.self.now.contents ≡ map (λ held. held.items) xs = ap (λ (h : Held). h.contents) (sym c.self.view_is) in
    let within = ap (λ (h : Held). length h.contents) (sym c.self.view_is) in
    served (λ held. held.items) c.args.law c.args.resource.0 c.args.verb c.args.self.now.contents xs c.index_mut.result.now c.act_on.new.held c.self.inside.fails c.act_on.result same
    (omega (arith, c.requires.within, within, length-map xs (λ held. held.items))) c.index_mut.ensures.value c.act_on.ensures
