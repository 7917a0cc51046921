use Rattle.std.proofs.Common.{◌≡◌, ◌+◌, ◌≤◌, ◌++◌, vec_len, vec_capacity}
use Rattle.std.specs.Prelude.{vec_items}
use Rattle.std.specs.Vec.Iter.{into_iter_items, into_iter_len}
use Rattle.path_workers.specs.Settled.{receipts_of}
use Rattle.path_workers.proofs.closing.close_all.Given as goal

abbrev pub invariant-loop-pass : goal.invariant-loop-pass
invariant-loop-pass g l =
    (vec_len l.closed_passes + into_iter_len l.pass-iterator ≡ vec_len l.fn.passes) × (vec_len l.fn.passes ≤ vec_capacity l.closed_passes)
    × (vec_items l.closed_passes ++ into_iter_items l.pass-iterator ≡ vec_items l.fn.passes)
    × (l.all ≡ receipts_of (vec_items l.closed_passes))
