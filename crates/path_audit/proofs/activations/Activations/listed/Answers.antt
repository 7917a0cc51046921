-- One more is listed if it is live.
use Rattle.std.proofs.Common.{◌≡◌, ◌+◌, ◌++◌, ◌∷◌, [], None, length, get_or, take, ap, sym, ◌∙◌, arith}
use Rattle.std.proofs.lemmas.List.{take_more, length-take-le}
use Rattle.path_audit.specs.Inner.Owners.{live_from}
use Rattle.path_audit.proofs.Places.{more, no_more, activation}
use Rattle.path_audit.proofs.activations.Activations.listed.Goals as goal
use Rattle.path_audit.proofs.activations.Activations.listed.Goals.{in-Some+in_ok-push, in_default}

pub loop-n-preserved : goal.loop-n-preserved
loop-n-preserved g c =
    let xs = c.deref-owner-items.result.now in
    let so_many : length (take c.loop-n.n xs) ≡ c.loop-n.n = length-take-le c.loop-n.n xs (omega (arith, c.loop-n-test.true)) in
    let one : take (c.loop-n.n + 1) xs ≡ take c.loop-n.n xs ++ get_or xs c.loop-n.n None ∷ [] = take_more xs c.loop-n.n None c.loop-n-test.true in
    elim c.match-owner.branch [
      | in-Some+in_ok-push w ↦
          ap (λ v. v.items) w.list-is ∙ w.in_ok-push.ensures.items ∙ ap (λ ys. ys ++ activation c.loop-n.n w.in-Some.owner ∷ []) c.loop-n.invariant
          ∙ sym (ap (live_from 0) (one ∙ ap (λ o. take c.loop-n.n xs ++ o ∷ []) w.in-Some.is) ∙ more 0 c.loop-n.n (take c.loop-n.n xs) w.in-Some.owner (omega (arith, so_many)))
      | in_default w ↦
          ap (λ v. v.items) w.list-is ∙ c.loop-n.invariant
          ∙ sym (ap (live_from 0) (one ∙ ap (λ o. take c.loop-n.n xs ++ o ∷ []) w.in_default.is) ∙ no_more 0 (take c.loop-n.n xs))
    ]
