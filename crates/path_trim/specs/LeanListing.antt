-- The listing of trimmed paths.
use Rattle.std.specs.Prelude.{ℕ, List, [], ◌∷◌, ◌++◌, map, flat_map, slice_get, Option, Some, None, codes}
use Rattle.std.specs.Fmt.{decimal}
use Rattle.path_model.specs.Trees.{Tree}
use Rattle.path_model.specs.Flat.{Sited}
use Rattle.path_model.specs.Declarations.{Path, Declaration}
use Rattle.path_code.specs.declared.lister.Mutexes.TheVariants.{Trimmed}
use Rattle.path_code.specs.Listing.{operation_text, terms_text, header_line, semaphore_line, counter_line, lines_text}
use Rattle.path_trim.specs.declared.table.LeanOp.{LeanOp}
use Rattle.path_trim.specs.declared.table.Removed.{Removed}
use Rattle.path_trim.specs.declared.table.Removed.TheVariants.{Semaphore, Counter, Mutex, SamePath}
use Rattle.path_trim.specs.Compared.{Compared, compared}
use Rattle.path_trim.specs.LeanTable.{LeanRow, lean_row}
use Rattle.path_trim.specs.RemovedList.{values_removed}

-- the line of an operation
abbrev pub op_line : Declaration → LeanOp → List ℕ
op_line d o = operation_text d o.op.0 ++ (terms_text Trimmed o.prologue o.epilogue ++ 10 ∷ [])

-- a removed value after a space; a path that is removed has a line of its own
abbrev pub value_text : Removed → List ℕ
value_text (Semaphore s) = codes " s" ++ decimal s
value_text (Counter c) = codes " c" ++ decimal c
value_text (Mutex m) = codes " m" ++ decimal m
value_text (SamePath p q) = []

-- the line of the removed values, if there are any
abbrev pub removed_line : List Removed → List ℕ
removed_line [] = []
removed_line (r ∷ rs) = codes "removed" ++ (flat_map value_text (r ∷ rs) ++ 10 ∷ [])

-- the lines of what is kept of a path
abbrev pub row_lines : Declaration → LeanRow → List ℕ
row_lines d r =
    lines_text (map semaphore_line r.semaphores) ++ (lines_text (map counter_line r.counters) ++ flat_map (op_line d) r.ops)

-- the first words of a path's lines: with its resource, or with `#` and the path's number if the declaration doesn't have the path
abbrev pub header_of : Declaration → ℕ → Option Path → List ℕ
header_of d n (Some p) = header_line d n p.resource
header_of d n None = codes "path " ++ (decimal n ++ (codes " of #" ++ decimal n))

abbrev pub header : Declaration → ℕ → List ℕ
header d n = header_of d n (slice_get d.paths n)

-- the rest of the line of a path whose tree the earlier path number q has
abbrev pub same_rest : ℕ → List ℕ
same_rest q = codes " same as " ++ (decimal q ++ 10 ∷ [])

-- the lines of a path
abbrev pub path_lines : Declaration → ℕ → Sited → Option ℕ → List ℕ
path_lines d p x (Some q) = header d p ++ same_rest q
path_lines d p x None = header d p ++ 10 ∷ (removed_line (values_removed x) ++ row_lines d (lean_row (p, x)))

-- the lines of these paths
abbrev pub all_lines : Declaration → List Compared → List ℕ
all_lines d xs = flat_map (λ x. path_lines d x.path x.site x.same) xs

-- the listing of the paths with these trees
abbrev pub lean_text : Declaration → List Tree → List ℕ
lean_text d ss = all_lines d (compared ss)
