use Rattle.std.proofs.Common.{◌≡◌, ℕ, ◌+◌, ◌≤◌, ◌<◌, vec_len, vec_capacity, get_or}
use Rattle.std.specs.Prelude.{vec_items}
use Rattle.std.specs.Vec.Iter.{into_iter_items, into_iter_len}
use Rattle.path_run.proofs.Hands.{Left}
use Rattle.path_run.proofs.running.passes_of.Given as goal

abbrev pub invariant-loop-one : goal.invariant-loop-one
invariant-loop-one g l =
    let done = vec_len l.passes in let rest = l.one-iterator in
    (done + into_iter_len rest ≡ vec_len l.fn.worked) × (vec_len l.fn.worked ≤ vec_capacity l.passes) × (vec_len l.fn.worked ≤ vec_capacity l.ends) × (vec_len l.ends ≡ done)
    × Left (vec_items l.fn.worked) done (into_iter_items rest) (into_iter_len rest)
    × ((k : ℕ) (h : _) (e : _) (w : _) → k < done → (get_or (vec_items l.passes) k h ≡ (get_or (vec_items l.fn.worked) k w).pass) × (get_or (vec_items l.ends) k e ≡ (get_or (vec_items l.fn.worked) k w).end))
