-- All so far come before it.
use Rattle.std.proofs.Common.{◌≡◌, ◌+◌, drop}
use Rattle.path_order.specs.Waiting.{place_for}
use Rattle.path_order.proofs.waiting.place_for.Given as goal

abbrev pub invariant-loop-place : goal.invariant-loop-place
invariant-loop-place l = l.place + place_for l.priority (drop l.place l.waiting) ≡ place_for l.priority l.waiting
