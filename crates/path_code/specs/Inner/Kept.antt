-- What contracts see of a Code, and what it keeps besides.
use Rattle.std.specs.Prelude.{◌≡◌}
use Rattle.path_code.specs.declared.code.Code.TheInside.{Inside}
use Rattle.path_code.specs.Known.{KnownCode}
use Rattle.path_code.specs.PathCodes.{ArePathCodes, paths_shown, sites}

abbrev pub shown : {Y : Type 0} → Inside Y → KnownCode
shown c = record { paths = paths_shown c.paths.items; lawful = c.lawful }

-- each path of the declaration has its code, with numbers that count through all paths
pub record IsTranslated {Y : Type 0} (c : Inside Y) : Type 0 where
  pub declared : paths_shown c.paths.items ≡ c.decl.now.declaration.paths
  pub table : ArePathCodes (sites (paths_shown c.paths.items)) c.paths.items
