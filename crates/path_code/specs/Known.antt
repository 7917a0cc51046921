-- What a caller knows of compiled paths.
use Rattle.std.specs.Prelude.{refl, List}
use Rattle.std.specs.Coded.{Coded, code_by, coded_list}
use base.Stored.{coded_sub}
use Rattle.path_model.specs.Declarations.{Path}
use Rattle.path_decl.specs.Stored as stored
pub use Rattle.path_code.specs.LawfulPaths.{LawfulPaths, LawfulPaths-prop}

-- the paths, and what always holds of them
pub record KnownCode : Type 0 where
  pub paths : List Path
  pub lawful : LawfulPaths paths

-- they are stored as the paths
abbrev pub known_code : Coded KnownCode
known_code =
    code_by ((ps : List Path) × LawfulPaths ps) (coded_sub (coded_list stored.path_code) LawfulPaths LawfulPaths-prop)
    (λ k. (k.paths, k.lawful)) (λ p. record { paths = p.0; lawful = p.1 }) (λ _. refl)
