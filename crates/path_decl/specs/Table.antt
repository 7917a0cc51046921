-- What contracts see of the parts of a declaration.
use Rattle.std.specs.Prelude.{◌==◌, ◌+◌, ℕ, if◌then◌else◌, List, [], map, filter, slice_get, slice_index_or, option_map, Option, Vec}
use Rattle.std.specs.String.{string_bytes}
use Rattle.std.specs.declared.string.String.{String}
use Rattle.path_model.specs.declared.ids.OpId.{OpId}
use Rattle.path_model.specs.declared.ids.PathId.{PathId}
use Rattle.path_model.specs.declared.ids.ResId.{ResId}
use Rattle.path_model.specs.declared.resource.Law.{Law}
use Rattle.path_model.specs.Trees.{Tree, op, seq, alt, burst, has, shape}
use Rattle.path_model.specs.Legal.{numbered}
use Rattle.path_model.specs.Declarations.{Resource, Operation, Path, Declaration, paths_of}
use Rattle.path_decl.specs.declared.decl.PathEntry.{PathEntry}

-- the names of a table, in order
abbrev pub names_of : {Y V : Type 0} → List (String Y × V) → List (List ℕ)
names_of es = map (λ e. string_bytes e.0) es

-- the name at a number
abbrev pub name_at : List (List ℕ) → OpId → List ℕ
name_at ns a = slice_index_or ns a.0 []

abbrev pub resource_shown : {Y : Type 0} → String Y × Law → Resource
resource_shown e = record { name = string_bytes e.0; law = e.1 }

abbrev pub resources_of : {Y : Type 0} → List (String Y × Law) → List Resource
resources_of es = map resource_shown es

abbrev pub operation_shown : {Y : Type 0} → String Y × ResId → Operation
operation_shown e = record { name = string_bytes e.0; resource = e.1.0 }

abbrev pub operations_of : {Y : Type 0} → List (String Y × ResId) → List Operation
operations_of es = map operation_shown es

abbrev pub path_of : {Y : Type 0} → PathEntry Y → Path
path_of p = record { resource = p.resource.0; tree = shape p.tree }

-- the declaration that has these resources, operations and paths
abbrev pub declaration_of : {Y : Type 0} → List (String Y × Law) → List (String Y × ResId) → List (PathEntry Y) → Declaration
declaration_of rs os ps = record { resources = resources_of rs; operations = operations_of os; paths = map path_of ps }

-- the numbers of the trees that name the operation, in order; the first tree has the number n
abbrev pub naming_from : ℕ → List Tree → OpId → List PathId
naming_from n ts a = map (λ p. record { 0 = p.0 }) (filter (λ p. has p.1 a) (numbered n ts))

-- the numbers of the paths that name the operation, in order
abbrev pub naming : Declaration → OpId → List PathId
naming d a = map (λ p. record { 0 = p.0 }) (filter (λ p. has p.1 a) (paths_of d))

-- the list of paths of an operation
abbrev pub noted : {Y : Type 0} → List (Vec PathId Y) → ℕ → Option (List PathId)
noted vs a = option_map (λ v. v.items) (slice_get vs a)

-- how often a tree names an operation
abbrev pub times : Tree → OpId → ℕ
times (op b) a = if a.0 == b.0 then 1 else 0
times (seq s t) a = times s a + times t a
times (alt s t) a = times s a + times t a
times (burst bd s) a = times s a
