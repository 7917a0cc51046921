-- Which paths have the tree of an earlier one.
use Rattle.std.specs.Prelude.{ℕ, List, [], ◌∷◌, ◌++◌, flat_map, Option, Some, None, if◌then◌else◌}
use Rattle.path_model.specs.Trees.{Tree}
use Rattle.path_model.specs.Legal.{numbered}
use Rattle.path_model.specs.Flat.{Sited, sited}
use Rattle.path_model.specs.Trimmed.{same_tree}

-- the number of the first of these paths that has the tree
abbrev pub first_with : Tree → List (ℕ × Sited) → Option ℕ
first_with s [] = None
first_with s (x ∷ xs) = if same_tree s x.1.tree then Some x.0 else first_with s xs

-- a path with its number, and the first earlier path that has its tree
pub record Compared : Type 0 where
  pub path : ℕ
  pub site : Sited
  pub same : Option ℕ

-- a path compared with those before it
abbrev pub beside : List (ℕ × Sited) → ℕ × Sited → Compared
beside earlier x = record { path = x.0; site = x.1; same = first_with x.1.tree earlier }

-- each path compared with those before it
abbrev pub compared_after : List (ℕ × Sited) → List (ℕ × Sited) → List Compared
compared_after earlier [] = []
compared_after earlier (x ∷ xs) = beside earlier x ∷ compared_after (earlier ++ x ∷ []) xs

-- the paths of a file with these trees
abbrev pub compared : List Tree → List Compared
compared ss = compared_after [] (sited 0 0 (numbered 0 ss))

-- a path is kept if no earlier one has its tree
abbrev pub site_left : ℕ → Sited → Option ℕ → List (ℕ × Sited)
site_left p x None = (p, x) ∷ []
site_left p x (Some q) = []

abbrev pub sites_left : List Compared → List (ℕ × Sited)
sites_left xs = flat_map (λ x. site_left x.path x.site x.same) xs

-- the paths that are kept
abbrev pub kept_sites : List Tree → List (ℕ × Sited)
kept_sites ss = sites_left (compared ss)
