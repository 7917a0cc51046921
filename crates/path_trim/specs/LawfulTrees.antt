-- What always holds of the trees that were trimmed.
use Rattle.std.specs.Prelude.{◌<◌, ◌≤◌, List, length, All}
use Rattle.std.specs.Coded.{le_prop}
use Rattle.path_model.specs.declared.ids.OpId.{OpId}
use Rattle.path_model.specs.Trees.{Tree, Names, WellFormed, FewAtOnce}
use Rattle.path_model.specs.Legal.{Every, numbered}
use Rattle.path_decl.specs.Lawful.{names_count}
use Rattle.path_decl.specs.LawfulOnce.{Every-prop, WellFormed-prop, FewAtOnce-prop}

-- Each tree is well formed, with bounds of at most 65,535 and at most 64 names, and names operations below 256. There are at most
-- 256 trees.
pub record LawfulTrees (ss : List Tree) : Type 0 where
  pub well_formed : Every WellFormed (numbered 0 ss)
  pub few_at_once : Every FewAtOnce (numbered 0 ss)
  pub few_names : All (λ s. names_count s ≤ 64) ss
  pub few_operations : All (λ s. (a : OpId) → Names s a → a.0 < 256) ss
  pub few_paths : length ss ≤ 256

-- there is at most one proof of it
pub LawfulTrees-prop : (ss : List Tree) → IsProp (LawfulTrees ss)
LawfulTrees-prop ss x y i = record {
  well_formed = Every-prop WellFormed WellFormed-prop _ x.well_formed y.well_formed i;
  few_at_once = Every-prop FewAtOnce FewAtOnce-prop _ x.few_at_once y.few_at_once i;
  few_names = λ k s lt. le_prop (x.few_names k s lt) (y.few_names k s lt) i;
  few_operations = λ k s lt a n. le_prop (x.few_operations k s lt a n) (y.few_operations k s lt a n) i;
  few_paths = le_prop x.few_paths y.few_paths i;
}
