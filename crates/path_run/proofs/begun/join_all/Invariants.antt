use Rattle.std.proofs.Common.{◌≡◌, ℕ, ◌+◌, ◌≤◌, ◌<◌, vec_len, vec_capacity, get_or}
use Rattle.std.specs.Prelude.{vec_items}
use Rattle.std.specs.Vec.Iter.{into_iter_items, into_iter_len}
use Rattle.path_run.proofs.Hands.{Out, Left}
use Rattle.path_run.proofs.begun.join_all.Given as goal

abbrev pub invariant-loop-one : goal.invariant-loop-one
invariant-loop-one g l =
    let done = vec_len l.worked in let rest = l.one-iterator in
    (done + into_iter_len rest ≡ vec_len l.fn.begun) × (vec_len l.fn.begun ≤ vec_capacity l.worked)
    × Left (vec_items l.fn.begun) done (into_iter_items rest) (into_iter_len rest)
    × ((k : ℕ) (d : _) (e : _) → k < done → Out (get_or (vec_items l.fn.begun) k d) (get_or (vec_items l.worked) k e).pass (get_or (vec_items l.worked) k e).end)
