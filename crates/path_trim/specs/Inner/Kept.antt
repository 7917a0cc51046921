-- What contracts see of trimmed paths, and what these keep besides.
use Rattle.std.specs.Prelude.{◌≡◌, List, map}
use Rattle.path_model.specs.Trees.{Tree}
use Rattle.path_model.specs.Declarations.{trees}
use Rattle.path_trim.specs.declared.lean.Lean.TheInside.{Inside}
use Rattle.path_trim.specs.Known.{KnownTrees}
use Rattle.path_trim.specs.Compared.{compared}
use Rattle.path_trim.specs.LeanTable.{lean_table}
use Rattle.path_trim.specs.RemovedList.{removed_list}
use Rattle.path_trim.specs.Rows.{row_of, fates_of}

abbrev pub trees_shown : {Y : Type 0} → Inside Y → List Tree
trees_shown l = trees l.decl.value.declaration

abbrev pub shown : {Y : Type 0} → Inside Y → KnownTrees
shown l = record { trees = trees_shown l; lawful = l.lawful }

-- they are the trimmed table of these trees, with the list of what was removed and the fate of each path
pub record IsKept {Y : Type 0} (l : Inside Y) : Type 0 where
  pub table : map row_of l.kept.items ≡ lean_table (trees_shown l)
  pub removed : l.removed.items ≡ removed_list (trees_shown l)
  pub fates : l.fates.items ≡ fates_of (compared (trees_shown l))
