-- What an error means for the text.
use Rattle.std.specs.Prelude.{ℕ, List}
use Rattle.path_lex.specs.declared.fault.DeclFault.{DeclFault}
use Rattle.path_lex.specs.declared.fault.DeclFault.TheVariants as faults
use Rattle.path_model.specs.Declarations.{Declaration}
use Rattle.path_decl.specs.Text.{IsDeclarationText}

-- any error but OutOfMemory: the text isn't a declaration
abbrev pub Refuses : List ℕ → DeclFault → Type 0
Refuses s faults.OutOfMemory = Unit {0}
Refuses s _ = (d : Declaration) → IsDeclarationText s d → ⊥
