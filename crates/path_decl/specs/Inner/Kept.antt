-- What contracts see of a declaration, and what it keeps besides.
use Rattle.std.specs.Prelude.{◌≡◌, ℕ, ◌<◌, length, slice_get, Some, option_map}
use Rattle.path_model.specs.Declarations.{Declaration}
use Rattle.path_decl.specs.declared.decl.Decl.TheInside.{Inside}
use Rattle.path_decl.specs.Known.{KnownDeclaration}
use Rattle.path_decl.specs.Text.{IsDeclared}
use Rattle.path_decl.specs.Table.{declaration_of, naming}

abbrev pub declaration_shown : {Y : Type 0} → Inside Y → Declaration
declaration_shown d = declaration_of d.resources.entries d.operations.entries d.paths.items

abbrev pub shown : {Y : Type 0} → Inside Y → KnownDeclaration
shown d = record { declaration = declaration_shown d; lawful = d.lawful }

-- some text declares the declaration, and the list of each operation has the paths that name it
pub record IsKept {Y : Type 0} (d : Inside Y) : Type 0 where
  pub declared : IsDeclared (declaration_shown d)
  pub named : length d.naming.items ≡ length d.operations.entries
  pub naming : (a : ℕ) → a < length d.operations.entries
      → option_map (λ v. v.items) (slice_get d.naming.items a) ≡ Some (naming (declaration_shown d) (record { 0 = a }))
