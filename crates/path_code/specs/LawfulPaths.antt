-- What always holds of compiled paths.
use Rattle.std.specs.Prelude.{◌<◌, ◌≤◌, List, length, All}
use Rattle.std.specs.Coded.{le_prop}
use Rattle.path_model.specs.declared.ids.OpId.{OpId}
use Rattle.path_model.specs.Trees.{Names, WellFormed, FewAtOnce}
use Rattle.path_model.specs.Legal.{Every}
use Rattle.path_model.specs.Declarations.{Path}
use Rattle.path_decl.specs.Lawful.{names_count}
use Rattle.path_decl.specs.LawfulOnce.{Every-prop, WellFormed-prop, FewAtOnce-prop}
use Rattle.path_code.specs.PathCodes.{numbered_trees}

-- Each tree is well formed, with bounds of at most 65,535 and at most 64 names, and names operations below 256. There are at most
-- 256 paths.
pub record LawfulPaths (ps : List Path) : Type 0 where
  pub well_formed : Every WellFormed (numbered_trees ps)
  pub few_at_once : Every FewAtOnce (numbered_trees ps)
  pub few_names : All (λ p. names_count p.tree ≤ 64) ps
  pub few_operations : All (λ p. (a : OpId) → Names p.tree a → a.0 < 256) ps
  pub few_paths : length ps ≤ 256

-- there is at most one proof of it
pub LawfulPaths-prop : (ps : List Path) → IsProp (LawfulPaths ps)
LawfulPaths-prop ps x y i = record {
  well_formed = Every-prop WellFormed WellFormed-prop _ x.well_formed y.well_formed i;
  few_at_once = Every-prop FewAtOnce FewAtOnce-prop _ x.few_at_once y.few_at_once i;
  few_names = λ k p lt. le_prop (x.few_names k p lt) (y.few_names k p lt) i;
  few_operations = λ k p lt a n. le_prop (x.few_operations k p lt a n) (y.few_operations k p lt a n) i;
  few_paths = le_prop x.few_paths y.few_paths i;
}
