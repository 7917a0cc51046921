-- What a walk over a tree finds where its path stands so; the first `;` of the tree has this place in the path.
use Rattle.std.specs.Prelude.{◌+◌, ◌-◌, ◌&&◌, nat_le, ℕ, Bool, true, List, [], ◌∷◌, ◌++◌}
use Rattle.path_model.specs.declared.ids.OpId.{OpId}
use Rattle.path_model.specs.Trees.{any, most, Tree, op, seq, alt, burst}
use Rattle.path_model.specs.Machine.{semicolons}
use Rattle.path_state.specs.Pasts.{underway}

-- whether no braces have more executions underway than their bound
abbrev pub bounds_fit : Tree → ℕ → (OpId → ℕ) → List ℕ → Bool
bounds_fit (op a) place progress stands = true
bounds_fit (seq l r) place progress stands =
    bounds_fit l place progress stands && bounds_fit r (place + semicolons l + 1) progress stands
bounds_fit (alt l r) place progress stands = bounds_fit l place progress stands && bounds_fit r (place + semicolons l) progress stands
bounds_fit (burst any t) place progress stands = bounds_fit t place progress stands
bounds_fit (burst (most n) t) place progress stands = bounds_fit t place progress stands && nat_le (underway t place progress stands) n

-- what is left of each bound, in the order of the text
abbrev pub spares : Tree → ℕ → (OpId → ℕ) → List ℕ → List ℕ
spares (op a) place progress stands = []
spares (seq l r) place progress stands = spares l place progress stands ++ spares r (place + semicolons l + 1) progress stands
spares (alt l r) place progress stands = spares l place progress stands ++ spares r (place + semicolons l) progress stands
spares (burst any t) place progress stands = spares t place progress stands
spares (burst (most n) t) place progress stands = (n - underway t place progress stands) ∷ spares t place progress stands

-- how many executions are underway in each pair of braces, in the order of the text
abbrev pub tallies : Tree → ℕ → (OpId → ℕ) → List ℕ → List ℕ
tallies (op a) place progress stands = []
tallies (seq l r) place progress stands = tallies l place progress stands ++ tallies r (place + semicolons l + 1) progress stands
tallies (alt l r) place progress stands = tallies l place progress stands ++ tallies r (place + semicolons l) progress stands
tallies (burst bd t) place progress stands = underway t place progress stands ∷ tallies t place progress stands
