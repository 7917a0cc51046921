-- What is printed of a declaration is a text of it.
use Rattle.std.proofs.Common.{◌≡◌, ℕ, ◌≤◌, false, List, [], ◌∷◌, ◌++◌, length, sym, ap, ◌∙◌, subst}
use Rattle.path_model.specs.Declarations.{Declaration}
use Rattle.path_decl.specs.Grammar.{IsFile}
use Rattle.path_decl.specs.Text.{IsDeclarationText, IsDeclared}
use Rattle.path_print.specs.Printed.{laid, declaration_pieces, printed}
use Rattle.path_print.specs.Inner.PrintedSteps.{joined}
use Rattle.path_print.proofs.PrintedForms.{resource_forms}
use Rattle.path_print.proofs.PrintedAgain.{file_again}
use Rattle.path_print.proofs.PrintedGroups.{walked-declared, declaration_pieces-walked}
use Rattle.path_print.proofs.PrintedLaid.{laid_out}
use Rattle.path_print.proofs.PrintedLoop.{left_of, laid-joined}
use Rattle.path_print.proofs.PrintedNames.{declared_named}

-- what the walk prints is the text
pub printed_walk : (d : Declaration) (out : List ℕ) → IsDeclared d → out ≡ joined false (left_of d 0 0 0) → out ++ 10 ∷ [] ≡ printed d
unfolding printed
printed_walk d out is e =
    ap (λ s. s ++ 10 ∷ []) e ∙ laid-joined (left_of d 0 0 0) ∙ ap laid (sym (declaration_pieces-walked d is.1.forms is.1.declares))

again : (d : Declaration) (text : List ℕ) → IsDeclarationText text d → length (printed d) ≤ 65536 → IsDeclarationText (printed d) d
unfolding printed
again d text is short =
    let e : declaration_pieces d ≡ resource_forms is.forms = declaration_pieces-walked d is.forms is.declares ∙ walked-declared d is.forms is.declares in
    let short' : length (laid (resource_forms is.forms)) ≤ 65536 = subst (λ ps. length (laid ps) ≤ 65536) e short in
    let cut = laid_out (resource_forms is.forms) (declared_named d is.forms is.lawful is.declares) short' in
    let text' : IsDeclarationText (laid (resource_forms is.forms)) d = record {
      tokens = cut.0;
      cut = cut.1;
      forms = is.forms;
      file = subst (λ ps. IsFile ps is.forms) (sym cut.2) (file_again is.file);
      declares = is.declares;
      lawful = is.lawful;
    } in
    subst (λ ps. IsDeclarationText (laid ps) d) (sym e) text'

pub printed_again : (d : Declaration) (out : List ℕ) → IsDeclared d → out ≡ printed d → length out ≤ 65536 → IsDeclarationText out d
printed_again d out is e short = subst (λ s. IsDeclarationText s d) (sym e) (again d is.0 is.1 (subst (λ s. length s ≤ 65536) e short))
