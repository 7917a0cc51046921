-- Operations that more than one path names.
use Rattle.std.specs.Prelude.{◌<◌, length}
use Rattle.path_model.specs.declared.ids.OpId.{OpId}
use Rattle.path_model.specs.Declarations.{Declaration}
use Rattle.path_decl.specs.Table.{naming}

-- more than one path names the operation
abbrev pub IsShared : Declaration → OpId → Type 0
IsShared d a = 1 < length (naming d a)

-- more than one path names some operation of the declaration
pub record SharesOperations (d : Declaration) : Type 0 where
  pub operation : OpId
  pub declared : operation.0 < length d.operations
  pub shared : IsShared d operation
