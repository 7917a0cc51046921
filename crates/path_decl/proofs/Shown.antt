-- What contracts see of the paths of a declaration.
use Rattle.std.proofs.Common.{◌≡◌, ℕ, zero, suc, ◌+◌, ◌<◌, List, [], ◌∷◌, length, get_or, map, refl, ap, arith}
use Rattle.path_model.specs.Trees.{NoRepeats, WellFormed, shape}
use Rattle.path_model.specs.Legal.{numbered, Every}
use Rattle.path_decl.specs.declared.decl.PathEntry.{PathEntry}
use Rattle.path_decl.specs.Table.{path_of}

-- no path of a lawful declaration repeats a name
pub each_once : {Y : Type 0} (ps : List (PathEntry Y)) (n : ℕ) → Every WellFormed (numbered n (map (λ p. p.tree) (map path_of ps))) → (k : ℕ) (d : PathEntry Y) → k < length ps → NoRepeats (shape (get_or ps k d).tree)
each_once [] n h k d lt = absurd (omega arith)
each_once (p ∷ ps) n h zero d lt = h.0.names_once
each_once (p ∷ ps) n h (suc k) d lt = each_once ps (n + 1) h.1 k d (omega arith)

pub trees_shown : {Y : Type 0} (ps : List (PathEntry Y)) → map (λ p. shape p.tree) ps ≡ map (λ p. p.tree) (map path_of ps)
trees_shown [] = refl
trees_shown (p ∷ ps) = ap (λ x. shape p.tree ∷ x) (trees_shown ps)
