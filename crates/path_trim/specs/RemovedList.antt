-- What is removed.
use Rattle.std.specs.Prelude.{ℕ, List, [], ◌∷◌, ◌++◌, map, flat_map, Option, Some, None, if◌then◌else◌}
use Rattle.path_model.specs.Trees.{Tree}
use Rattle.path_model.specs.Flat.{Sited}
use Rattle.path_model.specs.Trimmed.{is_burst}
use Rattle.path_code.specs.PathCodes.{braces_of}
use Rattle.path_trim.specs.declared.table.Removed.{Removed}
use Rattle.path_trim.specs.declared.table.Removed.TheVariants.{Semaphore, Counter, Mutex, SamePath}
use Rattle.path_trim.specs.Compared.{Compared, compared}

-- if one pair of braces is the whole path: its own semaphore and the braces' counter
abbrev pub whole_removed : Sited → List Removed
whole_removed x = if is_burst x.tree then Semaphore x.own ∷ Counter x.first ∷ [] else []

-- all that is removed of a path that is kept: those, and each mutex
abbrev pub values_removed : Sited → List Removed
values_removed x = whole_removed x ++ map (λ m. Mutex m) (braces_of x)

-- what is removed of a path: the path itself if an earlier one has its tree, else its values
abbrev pub lost : ℕ → Sited → Option ℕ → List Removed
lost p x None = values_removed x
lost p x (Some q) = SamePath (record { 0 = p }) (record { 0 = q }) ∷ []

abbrev pub all_lost : List Compared → List Removed
all_lost xs = flat_map (λ x. lost x.path x.site x.same) xs

-- what is removed of the paths with these trees
abbrev pub removed_list : List Tree → List Removed
removed_list ss = all_lost (compared ss)
