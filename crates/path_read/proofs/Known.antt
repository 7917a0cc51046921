-- What is known of reading a text whose declaration is known.
use Rattle.std.proofs.Common.{◌≡◌, ℕ, List, Option, Some, None, IsSome, ap, ◌∙◌, refl}
use Rattle.path_lex.specs.declared.fault.DeclFault.{DeclFault}
use Rattle.path_lex.specs.declared.fault.DeclFault.TheVariants as faults
use Rattle.path_model.specs.Declarations.{Declaration}
use Rattle.path_decl.specs.Text.{IsDeclarationText}
use Rattle.path_read.specs.Refused.{Refuses}
use Rattle.path_read.specs.Computed.{declared_in}
use Rattle.path_read.proofs.Unique.{declares_once}
use Rattle.path_read.proofs.Computed.{is_text}

-- what refuses a text of a declaration is the want of memory
pub memory_alone : (s : List ℕ) (e : DeclFault) (d : Declaration) → IsDeclarationText s d → Refuses s e → e ≡ faults.OutOfMemory
memory_alone s faults.OutOfMemory d t h = refl
memory_alone s _ d t h = absurd (h d t)

some_declaration : (o : Option Declaration) → IsSome o → (d : Declaration) × (o ≡ Some d)
some_declaration None h = absurd (cc)
some_declaration (Some d) h = (d, refl)

-- what refuses a text whose declaration is computed is the want of memory
pub computed_refused : (s : List ℕ) (e : DeclFault) → IsSome (declared_in s) → Refuses s e → e ≡ faults.OutOfMemory
computed_refused s e some h = let x = some_declaration (declared_in s) some in memory_alone s e x.0 (is_text s x.0 x.1) h

-- what a text is read as is what is computed of it
pub read_as_computed : (s : List ℕ) (d : Declaration) → IsSome (declared_in s) → IsDeclarationText s d → declared_in s ≡ Some d
read_as_computed s d some t = let x = some_declaration (declared_in s) some in x.1 ∙ ap Some (declares_once s x.0 d (is_text s x.0 x.1) t)
