-- What a caller knows of a declaration that was read.
use Rattle.std.specs.Prelude.{refl}
use Rattle.std.specs.Coded.{Coded, code_by}
use base.Stored.{coded_sub}
use Rattle.path_model.specs.Declarations.{Declaration}
use Rattle.path_decl.specs.Lawful.{Lawful}
use Rattle.path_decl.specs.Stored.{declaration_code}
pub use Rattle.path_decl.specs.LawfulOnce.{Lawful-prop}

-- a declaration, and what always holds of it
pub record KnownDeclaration : Type 0 where
  pub declaration : Declaration
  pub lawful : Lawful declaration

-- it is stored as the declaration
abbrev pub known_code : Coded KnownDeclaration
known_code =
    code_by ((d : Declaration) × Lawful d) (coded_sub declaration_code Lawful Lawful-prop)
    (λ k. (k.declaration, k.lawful)) (λ p. record { declaration = p.0; lawful = p.1 }) (λ _. refl)
