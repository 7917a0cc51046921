-- One more opening is copied.
use Rattle.std.proofs.Common.{◌∙◌, rules, ◌≡◌, ◌<◌, length}
use Rattle.std.specs.List.{each_same}
use Rattle.path_audit.proofs.Lists.{copied}
use Rattle.path_audit.proofs.resources.opened.Goals as goal

pub loop-opening-preserved : goal.loop-opening-preserved
loop-opening-preserved g c =
    let same : c.in_ok-clone.field-0.items ≡ c.opening-item.result.items = each_same c.opening-item.result.items c.in_ok-clone.field-0.items c.in_ok-clone.ensures.cases.0 in
    let within : c.loop-opening.opening-index < length c.args.openings.now = search rules in
    rw c.in_ok-push.ensures.items (copied (λ held. held.items) (λ opening. opening.items) c.loop-opening.contents.items c.args.openings.now c.loop-opening.opening-index c.from_vec.result c.opening-item.result
    c.loop-opening.invariant within c.opening-item.is (c.from_vec.ensures.items ∙ same))
