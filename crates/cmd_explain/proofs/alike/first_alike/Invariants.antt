-- No earlier path so far has the tree.
use Rattle.std.proofs.Common.{◌≡◌, ℕ, ◌<◌}
use Rattle.cmd_explain.specs.Standing.{tree_at}
use Rattle.cmd_explain.proofs.alike.first_alike.Given as goal

abbrev pub invariant-loop-number : goal.invariant-loop-number
invariant-loop-number g l = (k : ℕ) → k < l.number → tree_at l.decl.declaration (record { 0 = k }) ≡ tree_at l.decl.declaration l.path → ⊥
