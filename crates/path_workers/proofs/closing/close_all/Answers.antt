-- One closed pass more, and its own lines.
use Rattle.std.proofs.Common.{◌≡◌, ℕ, ◌+◌, List, [], ◌∷◌, ◌++◌, length, ap, sym, ◌∙◌, append_assoc, arith}
use Rattle.std.specs.Prelude.{vec_items}
use Rattle.std.proofs.lemmas.List.Sums.{sum_by_push}
use Rattle.path_workers.specs.Attempts.{Held}
use Rattle.path_workers.specs.Settled.{receipts_of}
use Rattle.path_workers.proofs.closing.close_all.Goals as goal

-- what is taken from the front of a list and put behind another leaves both together as they were
moved : {X : Type 0} (all old new rest left : List X) (x y : X) (count n : ℕ) → new ≡ old ++ y ∷ [] → y ≡ x → (rest ≡ x ∷ left) × (count + 1 ≡ n) → old ++ rest ≡ all → new ++ left ≡ all
moved {X} all old new rest left x y count n grown same step was =
    ap (λ (xs : List X). xs ++ left) grown ∙ append_assoc old (y ∷ []) left ∙ ap (λ (z : X). old ++ z ∷ left) same ∙ ap (λ (xs : List X). old ++ xs) (sym step.0) ∙ was

pub none-all-requires : goal.none-all-requires
none-all-requires g c κs = λ within. within

pub into_closed-closed_pass-requires : goal.into_closed-closed_pass-requires
into_closed-closed_pass-requires g c κs = λ within. within

pub merge-all-requires : goal.merge-all-requires
merge-all-requires g c κs = λ within. within

pub push_reserved-requires : goal.push_reserved-requires
push_reserved-requires g c = let step = c.in-Some.ensures.steps in omega (arith, c.loop-pass.invariant.0, c.loop-pass.invariant.1, step.1)

pub loop-pass-preserved : goal.loop-pass-preserved
loop-pass-preserved g c =
    let was = c.loop-pass.invariant in
    let step = c.in-Some.ensures.steps in
    let old : List Held = vec_items c.loop-pass.closed_passes in
    let closed_pass : Held = c.into_closed-closed_pass.result.0 in
    let pushed = c.push_reserved.ensures in (
      omega (arith, was.0, step.1, pushed.len),
      omega (arith, was.1, pushed.capacity),
      moved (vec_items c.args.passes) _ _ _ _ _ _ _ _ pushed.items c.into_closed-closed_pass.ensures.closed_pass step was.2,
      omega (
        arith,
        c.merge-all.ensures,
        was.3,
        c.into_closed-closed_pass.ensures.own_lines,
        ap receipts_of pushed.items,
        sum_by_push (λ (h : Held). length h.receipts) old closed_pass,
        ap (λ (h : Held). length h.receipts) c.into_closed-closed_pass.ensures.closed_pass,
      ),
    )
