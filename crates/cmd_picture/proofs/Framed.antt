-- A text that was written piece by piece.
use Rattle.std.proofs.Common.{◌≡◌, ℕ, List, [], ◌++◌, ap, ◌∙◌, append_assoc}

pub joined : (none one two three begins inside ends : List ℕ) → none ≡ [] → one ≡ none ++ begins → two ≡ one ++ inside → three ≡ two ++ ends
    → three ≡ begins ++ (inside ++ ends)
joined none one two three begins inside ends empty first second third =
    third ∙ ap (λ x. x ++ ends) (second ∙ ap (λ x. x ++ inside) (first ∙ ap (λ x. x ++ begins) empty)) ∙ append_assoc begins inside ends
