-- What contracts see of a path that is kept, and what becomes of paths.
use Rattle.std.specs.Prelude.{ℕ, List, map, length, Option, Some, None}
use Rattle.path_model.specs.Flat.{Sited}
use Rattle.path_trim.specs.declared.table.LeanPath.{LeanPath}
use Rattle.path_trim.specs.declared.table.Fate.{Fate}
use Rattle.path_trim.specs.declared.table.Fate.TheVariants.{SameAs, Stays}
use Rattle.path_trim.specs.Compared.{Compared}
use Rattle.path_trim.specs.LeanTable.{LeanRow}
use Rattle.path_trim.specs.RemovedList.{values_removed}

-- a path that is kept, as a row of the trimmed table
abbrev pub row_of : {Y : Type 0} → LeanPath Y → LeanRow
row_of p = record { path = p.path; semaphores = p.semaphores.items; counters = p.counters.items; ops = p.ops.items }

-- what becomes of a path
abbrev pub fate_by : Sited → Option ℕ → Fate
fate_by x None = Stays (length (values_removed x))
fate_by x (Some q) = SameAs (record { 0 = q })

abbrev pub fates_of : List Compared → List Fate
fates_of xs = map (λ x. fate_by x.site x.same) xs
