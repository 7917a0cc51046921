-- Which text is which declaration.
use Rattle.std.specs.Prelude.{ℕ, List}
use Rattle.path_model.specs.Declarations.{Declaration}
use Rattle.path_lex.specs.Spelling.{Placed, pieces, AreTokensOf}
use Rattle.path_decl.specs.Forms.{ResourceForm}
use Rattle.path_decl.specs.Grammar.{IsFile}
use Rattle.path_decl.specs.Declares.{Declares}
use Rattle.path_decl.specs.Lawful.{Lawful}

-- The bytes are cut into tokens, the tokens are a file of the grammar, its resources, operations and paths are the declaration, and
-- this keeps the rules and the limits.
pub record IsDeclarationText (text : List ℕ) (d : Declaration) : Type 0 where
  pub tokens : List Placed
  pub cut : AreTokensOf text tokens
  pub forms : List ResourceForm
  pub file : IsFile (pieces tokens) forms
  pub declares : Declares forms d
  pub lawful : Lawful d

-- some text is the declaration
abbrev pub IsDeclared : Declaration → Type 0
IsDeclared d = (text : List ℕ) × IsDeclarationText text d
