-- What the controller of a service tells is told of all lines of the service, before which none came.
use Rattle.std.specs.Prelude.{IfSome, MatchOption, option_copied, slice_get}
use Rattle.std.proofs.Common.{◌≡◌, ◌∙◌, ◌<◌, ◌≤◌, ℕ, List, [], Bor, Option, Some, None, length, get_or, refl, ap, subst}
use Rattle.std.proofs.lemmas.Option.{slice_get_past, slice_get_read}
use Rattle.path_model.specs.declared.journal.Line.{Line}
use Rattle.path_system.specs.Accounts.{Account, IsSystem}
use Rattle.path_system.specs.Before.{BehindEach}
use Rattle.path_system.proofs.CallerLemmas.{of_system}

pub told_behind : (controller account seen : Account) → controller ≡ account → account ≡ seen → IsSystem account
    → (P : Account → List (List ℕ) → List Line → Type 0) → BehindEach controller (P controller) → P seen seen.openings []
told_behind controller account seen is same system P each =
    subst (λ (a : Account). P a a.openings []) (is ∙ same) (of_system controller (ap (λ (a : Account). a.opened) is ∙ system.first) (P controller) each)

-- what stands at a place of a list, where it was looked up
pub looked_up : {A : Type 0} (P : Bor A → Type 0) (xs : List A) (n : ℕ) (found : Option (Bor A))
    → MatchOption found (length xs ≤ n) (λ x. (n < length xs) × P x) → IfSome found (λ x. x.now ≡ get_or xs n x.now) → slice_get xs n ≡ option_copied found
looked_up P xs n None past same = slice_get_past xs n past
looked_up P xs n (Some x) within same = slice_get_read xs (length xs) n x.now refl within.0 same
