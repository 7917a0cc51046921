-- Legal histories, and the paths that forbid a start.
use Rattle.std.specs.Prelude.{◌≡◌, ◌+◌, ℕ, List, [], ◌∷◌, ◌++◌, ◌⊎◌}
use Rattle.path_model.specs.declared.ids.OpId.{OpId}
use Rattle.path_model.specs.declared.history.Event.{Event}
use Rattle.path_model.specs.declared.history.Event.TheVariants.{Began}
use Rattle.path_model.specs.Trees.{Tree, Names}
use Rattle.path_model.specs.Projection.{LegalOn}

-- the paths with their numbers, from n on
abbrev pub numbered : ℕ → List Tree → List (ℕ × Tree)
numbered n [] = []
numbered n (s ∷ ss) = (n, s) ∷ numbered (n + 1) ss

abbrev pub Every : {A : Type 0} → (A → Type 0) → List (ℕ × A) → Type 0
Every P [] = Unit {0}
Every P (x ∷ xs) = P x.1 × Every P xs

-- p is the number of the first one that meets P
abbrev pub First : {A : Type 0} → (A → Type 0) → List (ℕ × A) → ℕ → Type 0
First P [] p = ⊥
First P (x ∷ xs) p = (P x.1 × (p ≡ x.0)) ⊎ ((P x.1 → ⊥) × First P xs p)

abbrev pub NoneOf : {A : Type 0} → (A → Type 0) → List (ℕ × A) → Type 0
NoneOf P xs = Every (λ x. P x → ⊥) xs

-- the history is legal on every path
abbrev pub Legal : List (ℕ × Tree) → List Event → Type 0
Legal xs h = Every (λ s. LegalOn s h) xs

-- the path names the operation, and a start of it after the history leaves the path's behaviour
abbrev pub Forbids : List Event → OpId → Tree → Type 0
Forbids h a s = Names s a × (LegalOn s (h ++ Began a ∷ []) → ⊥)
