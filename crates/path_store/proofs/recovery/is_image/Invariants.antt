-- Each byte so far is there or zero.
use Rattle.std.proofs.Common.{◌≡◌, ◌⊎◌, ℕ, ◌<◌, get_or}
use Rattle.path_store.proofs.recovery.is_image.Given as goal

abbrev pub invariant-loop-at : goal.invariant-loop-at
invariant-loop-at l = (k : ℕ) → k < l.at → (get_or l.left k 0 ≡ get_or l.written k 0) ⊎ (get_or l.left k 0 ≡ 0)
