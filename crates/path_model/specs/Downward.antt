-- The substitution from the root of a tree downwards.
use Rattle.std.specs.Prelude.{◌≡◌, ◌+◌, ℕ, List, [], ◌∷◌, ◌++◌}
use Rattle.path_model.specs.declared.ids.OpId.{OpId}
use Rattle.path_model.specs.Trees.{Bound, Tree, op, seq, alt, burst, WellFormed}
use Rattle.path_model.specs.Machine.{semicolons, braces, Term, Plain, Braced, Counted, through, prologue, epilogue}

-- PP or VV around a P or a V
abbrev pub within : Bound → ℕ → Term → Term
within b m (Plain q) = through b m q
within b m (Braced c q) = Braced c q
within b m (Counted c q) = Counted c q

-- L S R, by the forms of S: what comes before and after each name of S; n and m number its first semicolon and its first braces
abbrev pub substituted : Tree → ℕ → ℕ → Term → Term → List (OpId × Term × Term)
substituted (op b) n m L R = (b, L, R) ∷ []
substituted (seq s t) n m L R =
    substituted s n m L (Plain (n + semicolons s)) ++ substituted t (n + semicolons s + 1) (m + braces s) (Plain (n + semicolons s)) R
substituted (alt s t) n m L R = substituted s n m L R ++ substituted t (n + semicolons s) (m + braces s) L R
substituted (burst bd s) n m L R = substituted s n (m + 1) (within bd m L) (within bd m R)

abbrev pub EachRow : (OpId × Term × Term → Type 0) → List (OpId × Term × Term) → Type 0
EachRow P [] = Unit {0}
EachRow P (x ∷ xs) = P x × EachRow P xs

-- what the substitution puts before and after a name is what is read upwards from it
abbrev pub SubstitutionReadsUpwards : Type 0
SubstitutionReadsUpwards =
    (s : Tree) → WellFormed s → EachRow (λ x. (x.1 ≡ prologue s x.0) × (x.2 ≡ epilogue s x.0)) (substituted s 1 0 (Plain 0) (Plain 0))
