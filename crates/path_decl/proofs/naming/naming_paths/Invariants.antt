use Rattle.std.proofs.Common.{◌≡◌, ◌<◌, ℕ, Some, length, map, take}
use Rattle.path_model.specs.Trees.{shape}
use Rattle.path_decl.specs.Table.{noted, naming_from}
use Rattle.path_decl.proofs.naming.naming_paths.Given as goal

abbrev pub invariant-loop-number : goal.invariant-loop-number
invariant-loop-number g l = record {
  len : length l.naming.items ≡ l.operations;
  named : (a : ℕ) → a < l.operations → noted l.naming.items a ≡ Some (naming_from 0 (map (λ p. shape p.tree) (take l.number l.paths)) (record { 0 = a }));
}
