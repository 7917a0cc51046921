-- A path with another tree is one more of them, and at the end all have been seen.
use Rattle.std.proofs.Common.{take, subst, sym, ◌∙◌}
use Rattle.std.proofs.lemmas.List.{take_all}
use Rattle.std.proofs.lemmas.List.Elements.{All-more, All-same}
use Rattle.path_model.specs.Trees.{shape}
use Rattle.path_trim.specs.Inner.FirstEqual.{HasOther}
use Rattle.path_trim.proofs.equal.first_equal.Goals as goal

pub loop-place-preserved : goal.loop-place-preserved
loop-place-preserved g c =
    let s = shape c.args.tree.now in
    let other : HasOther s c.index-paths-place.result = sym c.is_same_tree.ensures.tested ∙ c.if-is_same_tree.false in
    All-more (HasOther s) c.args.paths.now c.loop-place.place c.index-paths-place.result c.loop-place-test.true c.loop-place.invariant (subst (HasOther s) c.index-paths-place.is other)

pub returns : goal.returns
returns g c = All-same (HasOther (shape c.args.tree.now)) c.args.paths.now (take c.loop-place.place c.args.paths.now) (sym (take_all c.loop-place.place c.args.paths.now c.loop-place-test.false)) c.loop-place.invariant
