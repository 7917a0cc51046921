-- The result for paths, one after the other.
use Rattle.std.specs.Prelude.{◌≡◌, List, [], ◌∷◌, ◌++◌, map}
use Rattle.path_trim.specs.declared.table.Removed.{Removed}
use Rattle.path_trim.specs.declared.table.Fate.{Fate}
use Rattle.path_trim.specs.declared.trimming.Parts.{Parts}
use Rattle.path_trim.specs.LeanTable.{LeanRow}
use Rattle.path_trim.specs.Rows.{row_of}

-- the parts have gained these rows, these removed things and this fate
pub record Adds {Y : Type 0} (old new : Parts Y) (rows : List LeanRow) (gone : List Removed) (fate : Fate) : Type 0 where
  pub table : map row_of new.kept.items ≡ map row_of old.kept.items ++ rows
  pub removed : new.removed.items ≡ old.removed.items ++ gone
  pub fates : new.fates.items ≡ old.fates.items ++ fate ∷ []
