-- A text is the text of at most one declaration.
use Rattle.std.specs.Prelude.{◌≡◌, ℕ, List}
use Rattle.path_model.specs.Declarations.{Declaration}
use Rattle.path_decl.specs.Text.{IsDeclarationText}

abbrev pub EachTextDeclaresOnce : Type 0
EachTextDeclaresOnce = (text : List ℕ) (d e : Declaration) → IsDeclarationText text d → IsDeclarationText text e → d ≡ e
