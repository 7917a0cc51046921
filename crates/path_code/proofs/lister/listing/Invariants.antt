-- The paths so far, and those that are left.
use Rattle.std.proofs.Common.{◌≡◌, ◌++◌, drop}
use Rattle.std.specs.String.{string_bytes}
use Rattle.path_code.proofs.Texts.{codes_text}
use Rattle.path_code.proofs.lister.listing.Given as goal

abbrev pub invariant-loop-path : goal.invariant-loop-path
invariant-loop-path g l = record {
  number : l.number ≡ l.path-index;
  text : string_bytes l.out ++ codes_text l.decl.declaration l.number (drop l.path-index l.path-items) ≡ codes_text l.decl.declaration 0 l.path-items;
}
