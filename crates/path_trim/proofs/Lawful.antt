-- What holds of compiled paths holds of their trees, and of their codes.
use Rattle.std.proofs.Common.{◌≡◌, ◌<◌, ◌≤◌, List, length, map, ap, arith}
use Rattle.std.proofs.lemmas.List.{length-map}
use Rattle.std.proofs.lemmas.List.Elements.{All-map}
use Rattle.path_model.specs.declared.ids.OpId.{OpId}
use Rattle.path_model.specs.Trees.{Names}
use Rattle.path_model.specs.Declarations.{Path}
use Rattle.path_decl.specs.Lawful.{names_count}
use Rattle.path_code.specs.declared.code.PathCode.{PathCode}
use Rattle.path_code.specs.PathCodes.{path_shown, paths_shown}
use Rattle.path_code.specs.LawfulPaths.{LawfulPaths}
use Rattle.path_trim.specs.LawfulTrees.{LawfulTrees}

pub lawful_trees : (ps : List Path) → LawfulPaths ps → LawfulTrees (map (λ p. p.tree) ps)
lawful_trees ps l = record {
  well_formed = l.well_formed;
  few_at_once = l.few_at_once;
  few_names = All-map (λ s. names_count s ≤ 64) (λ (p : Path). p.tree) ps l.few_names;
  few_operations = All-map (λ s. (a : OpId) → Names s a → a.0 < 256) (λ (p : Path). p.tree) ps l.few_operations;
  few_paths = omega (arith, length-map ps (λ (p : Path). p.tree), l.few_paths);
}

pub few_codes : {Y : Type 0} (ps : List Path) (cs : List (PathCode Y)) → LawfulPaths ps → paths_shown cs ≡ ps → length cs ≤ 256
few_codes ps cs l shown =
    let all = length-map cs path_shown in
    let same = ap length shown in
    let few = l.few_paths in
    omega (arith, all, same, few)
