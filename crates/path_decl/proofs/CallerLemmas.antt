-- What callers may cite of declarations, besides the contracts.
use Rattle.std.proofs.Common.{◌≡◌, ℕ, ◌+◌, ◌<◌, ◌≤◌, [], All, length, get_or, Some, option_map, ap, arith}
use Rattle.std.specs.Prelude.{slice_get}
use Rattle.std.proofs.lemmas.Option.{slice_get-get_or}
use Rattle.path_model.specs.declared.resource.Law.TheVariants.{Cell}
use Rattle.path_model.specs.Trees.{Tree, op, seq, alt, burst}
use Rattle.path_model.specs.Machine.{semicolons}
use Rattle.path_model.specs.Declarations.{Declaration, law_of}
use Rattle.path_decl.specs.Lawful.{names_count, Lawful}
pub use Rattle.path_decl.proofs.Threads.{decl_send}
pub use Rattle.path_decl.proofs.TableLemmas.{is_named, has_name, lacks_name, later, is_place, names_of_operations, names_of_resources}

-- semicolons stand between names
semicolons_between : (t : Tree) → semicolons t + 1 ≤ names_count t
semicolons_between (op a) = omega arith
semicolons_between (seq s t) = omega (arith, semicolons_between s, semicolons_between t)
semicolons_between (alt s t) = omega (arith, semicolons_between s, semicolons_between t)
semicolons_between (burst b s) = semicolons_between s

-- a path has at most 63 semicolons
pub few_semicolons : (d : Declaration) → Lawful d → All (λ p. semicolons p.tree ≤ 63) d.paths
few_semicolons d law k p lt = let few = law.few_names k p lt in omega (arith, semicolons_between (get_or d.paths k p).tree)

-- a declared resource has a law
pub law_within : (d : Declaration) (r : ℕ) → r < length d.resources → option_map (λ x. x.law) (slice_get d.resources r) ≡ Some (law_of d r)
law_within d r within = ap (option_map (λ x. x.law)) (slice_get-get_or d.resources r (record { name = []; law = Cell }) within)
