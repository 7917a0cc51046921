-- Each path has its lines: by its fate, and by what is left of the lists.
use Rattle.std.proofs.Common.{◌≡◌, ◌≤◌, length, ap, ◌∙◌, arith}
use Rattle.path_trim.specs.Known.{KnownTrees}
use Rattle.path_trim.specs.Compared.{compared}
use Rattle.path_trim.specs.Rows.{fates_of}
use Rattle.path_trim.proofs.Listed.{inside, same_here, kept_here, few_fates, compared_few, same_some, same_listed, kept_enough, kept_some, kept_listed, listed_all}
use Rattle.path_trim.proofs.listing.lean_listing.Goals as goal
use Rattle.path_trim.proofs.listing.lean_listing.Goals.{in-SameAs+in_ok-put_same-in-SameAs, in-Stays+in_ok-put_kept-in-Stays}

pub overflow_cast-number : goal.overflow_cast-number
overflow_cast-number g c =
    let ss = c.args.lean.now.trees in
    let fates : c.deref-fate-items.result.now ≡ fates_of (compared ss) = c.deref-fate-items.ensures.value ∙ c.lean.invariant.fates ∙ ap (λ (v : KnownTrees). fates_of (compared v.trees)) c.lean.view_is in
    let few : length c.deref-fate-items.result.now ≤ 256 = few_fates ss _ fates c.args.lean.now.lawful.few_paths in
    let l = c.loop-number-test.true in
    omega (arith, few, l)

pub split_at-requires : goal.split_at-requires
split_at-requires g c =
    let ss = c.args.lean.now.trees in
    let fates : c.deref-fate-items.result.now ≡ fates_of (compared ss) = c.deref-fate-items.ensures.value ∙ c.lean.invariant.fates ∙ ap (λ (v : KnownTrees). fates_of (compared v.trees)) c.lean.view_is in
    let k = c.loop-number.number in
    let l = c.loop-number-test.true in
    same_some _ (compared ss) k (inside ss _ fates k l) _ _ _ _ c.loop-number.invariant _ (same_here ss _ fates k l c.in-SameAs.first _ c.in-SameAs.is)

pub split_at-requires-in-Stays : goal.split_at-requires-in-Stays
split_at-requires-in-Stays g c =
    let ss = c.args.lean.now.trees in
    let fates : c.deref-fate-items.result.now ≡ fates_of (compared ss) = c.deref-fate-items.ensures.value ∙ c.lean.invariant.fates ∙ ap (λ (v : KnownTrees). fates_of (compared v.trees)) c.lean.view_is in
    let k = c.loop-number.number in
    let l = c.loop-number-test.true in
    let stays = kept_here ss _ fates k l c.in-Stays.count _ c.in-Stays.is in
    kept_enough _ (compared ss) k (inside ss _ fates k l) _ _ _ _ c.loop-number.invariant stays.0 c.in-Stays.count stays.1

pub unwrap-requires : goal.unwrap-requires
unwrap-requires g c =
    let ss = c.args.lean.now.trees in
    let fates : c.deref-fate-items.result.now ≡ fates_of (compared ss) = c.deref-fate-items.ensures.value ∙ c.lean.invariant.fates ∙ ap (λ (v : KnownTrees). fates_of (compared v.trees)) c.lean.view_is in
    let k = c.loop-number.number in
    let l = c.loop-number-test.true in
    let stays = kept_here ss _ fates k l c.in-Stays.count _ c.in-Stays.is in
    c.split_first.ensures.variant.1 (kept_some _ (compared ss) k (inside ss _ fates k l) _ _ _ _ c.loop-number.invariant stays.0)

pub loop-number-preserved : goal.loop-number-preserved
loop-number-preserved g c =
    let ss = c.args.lean.now.trees in
    let fates : c.deref-fate-items.result.now ≡ fates_of (compared ss) = c.deref-fate-items.ensures.value ∙ c.lean.invariant.fates ∙ ap (λ (v : KnownTrees). fates_of (compared v.trees)) c.lean.view_is in
    let k = c.loop-number.number in
    let l = c.loop-number-test.true in
    elim c.match-fate.branch [
      | in-SameAs+in_ok-put_same-in-SameAs w ↦
          rw (w.out-is, w.kept-is, w.removed-is) (same_listed _ (compared ss) k (inside ss _ fates k l) _ _ _ _ c.loop-number.invariant _ (same_here ss _ fates k l w.in-SameAs.first _ w.in-SameAs.is)
          _ _ _ c.in_ok-put_header.ensures w.in_ok-put_same-in-SameAs.ensures w.split_at.ensures.back)
      | in-Stays+in_ok-put_kept-in-Stays w ↦
          let stays = kept_here ss _ fates k l w.in-Stays.count _ w.in-Stays.is in
          rw (w.out-is, w.kept-is, w.removed-is) (kept_listed _ (compared ss) k (inside ss _ fates k l) _ _ _ _ c.loop-number.invariant stays.0
          _ _ w.in-Stays.count _ _ _ _ c.in_ok-put_header.ensures stays.1 w.split_at-in-Stays.ensures.front w.split_at-in-Stays.ensures.back
          (rw w.unwrap.ensures at w.split_first.ensures.cases).0 w.in_ok-put_kept-in-Stays.ensures)
    ]

pub returns : goal.returns
returns g c =
    let ss = c.args.lean.now.trees in
    let fates : c.deref-fate-items.result.now ≡ fates_of (compared ss) = c.deref-fate-items.ensures.value ∙ c.lean.invariant.fates ∙ ap (λ (v : KnownTrees). fates_of (compared v.trees)) c.lean.view_is in
    let all : length (compared ss) ≤ c.loop-number.number = let n = compared_few ss _ fates in omega (arith, n, c.loop-number-test.false) in
    listed_all c.args.decl.now.declaration (compared ss) c.loop-number.number _ _ _ c.loop-number.invariant all
