-- A text that is refused, but for want of memory, is no declaration.
use Rattle.std.proofs.Common.{◌≡◌, refl, ℕ, List}
use Rattle.path_model.specs.Declarations.{Declaration}
use Rattle.path_lex.specs.declared.fault.DeclFault.{DeclFault}
use Rattle.path_lex.specs.declared.fault.DeclFault.TheVariants as faults
use Rattle.path_decl.specs.Text.{IsDeclarationText}
use Rattle.path_c.specs.Answers.{declaration_answer}
use Rattle.path_read.specs.Refused.{Refuses}

module _ (text : List ℕ) (d : Declaration) where
  pub refused : (fault : DeclFault) → ((declaration_answer fault).code ≡ 22 → ⊥) → Refuses text fault → IsDeclarationText text d → ⊥
  refused faults.OutOfMemory other refuses declared = other refl
  refused faults.TooLong other refuses declared = refuses d declared
  refused (faults.BadByte at) other refuses declared = refuses d declared
  refused (faults.WordTooLong at) other refuses declared = refuses d declared
  refused (faults.NumberTooLong at) other refuses declared = refuses d declared
  refused (faults.Unexpected at) other refuses declared = refuses d declared
  refused (faults.TooDeep at) other refuses declared = refuses d declared
  refused (faults.DuplicateResource at) other refuses declared = refuses d declared
  refused (faults.DuplicateOperation at) other refuses declared = refuses d declared
  refused (faults.Undeclared at) other refuses declared = refuses d declared
  refused (faults.RepeatedName at) other refuses declared = refuses d declared
  refused (faults.NestedBraces at) other refuses declared = refuses d declared
  refused (faults.BadCapacity at) other refuses declared = refuses d declared
  refused (faults.BadCount at) other refuses declared = refuses d declared
  refused (faults.TooMany at) other refuses declared = refuses d declared
