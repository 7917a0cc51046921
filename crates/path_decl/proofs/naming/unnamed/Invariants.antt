use Rattle.std.proofs.Common.{◌≡◌, ◌<◌, ℕ, Some, [], length}
use Rattle.path_decl.specs.Table.{noted}
use Rattle.path_decl.proofs.naming.unnamed.Given as goal

abbrev pub invariant-loop-made : goal.invariant-loop-made
invariant-loop-made g l = record { len : length l.naming.items ≡ l._made; empty : (a : ℕ) → a < l._made → noted l.naming.items a ≡ Some [] }
