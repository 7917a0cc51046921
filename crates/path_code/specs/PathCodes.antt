-- The code of a path: its semaphores, its braces, and the prologue and epilogue of each of its operations.
use Rattle.std.specs.Prelude.{◌≡◌, ◌+◌, ℕ, zero, suc, List, [], ◌∷◌, ◌++◌, map, replicate}
use Rattle.path_model.specs.declared.ids.OpId.{OpId}
use Rattle.path_model.specs.Trees.{any, most, Tree, op, seq, alt, burst, shape}
use Rattle.path_model.specs.Legal.{numbered}
use Rattle.path_model.specs.Machine.{semicolons, braces, prologue, epilogue}
use Rattle.path_model.specs.Flat.{semaphores_in, Sited, sited, in_table}
use Rattle.path_model.specs.Declarations.{Path}
use Rattle.path_code.specs.declared.terms.OpCode.{OpCode}
use Rattle.path_code.specs.declared.code.PathCode.{PathCode}
use Rattle.path_code.specs.Names.{names_in}
use Rattle.path_code.specs.Terms.{prologue_at, epilogue_at}

-- the bounds of a tree's braces, in the order of their opening braces
abbrev pub bounds_in : Tree → List ℕ
bounds_in (op a) = []
bounds_in (seq s t) = bounds_in s ++ bounds_in t
bounds_in (alt s t) = bounds_in s ++ bounds_in t
bounds_in (burst any s) = bounds_in s
bounds_in (burst (most n) s) = n ∷ bounds_in s

-- these values, each with its number; the first number is n
abbrev pub numbered_values : ℕ → List ℕ → List (ℕ × ℕ)
numbered_values n [] = []
numbered_values n (v ∷ vs) = (n, v) ∷ numbered_values (n + 1) vs

-- k numbers from n on
abbrev pub numbers_from : ℕ → ℕ → List ℕ
numbers_from n zero = []
numbers_from n (suc k) = n ∷ numbers_from (n + 1) k

-- the opening values of a path's semaphores: its own, one for each semicolon, one for each bound
abbrev pub opening_values : Tree → List ℕ
opening_values s = 1 ∷ (replicate (semicolons s) 0 ++ bounds_in s)

-- the semaphores of a path, with their numbers in the file
abbrev pub semaphores_of : Sited → List (ℕ × ℕ)
semaphores_of x = numbered_values x.own (opening_values x.tree)

-- the numbers of its pairs of braces
abbrev pub braces_of : Sited → List ℕ
braces_of x = numbers_from x.first (braces x.tree)

-- the code of one operation of the path: its terms in the semaphore machine, with the numbers of the file
abbrev pub op_of_path : Sited → OpId → OpCode
op_of_path x a = record {
  op = a;
  prologue = prologue_at (in_table x (prologue x.tree a));
  epilogue = epilogue_at (in_table x (epilogue x.tree a));
}

-- the code of all its operations, in the order of their names
abbrev pub ops_of : Sited → List OpCode
ops_of x = map (op_of_path x) (names_in x.tree)

-- the code is that of the path with these numbers
pub record IsPathCode {Y : Type 0} (x : Sited) (p : PathCode Y) : Type 0 where
  pub tree : shape p.tree.now ≡ x.tree
  pub semaphores : p.semaphores.items ≡ semaphores_of x
  pub braces : p.braces.items ≡ braces_of x
  pub ops : p.ops.items ≡ ops_of x

-- the same for several paths, one by one
abbrev pub ArePathCodes : {Y : Type 0} → List (ℕ × Sited) → List (PathCode Y) → Type 0
ArePathCodes [] [] = Unit {0}
ArePathCodes [] (p ∷ ps) = ⊥
ArePathCodes (x ∷ xs) [] = ⊥
ArePathCodes (x ∷ xs) (p ∷ ps) = IsPathCode x.1 p × ArePathCodes xs ps

-- the path that was compiled
abbrev pub path_shown : {Y : Type 0} → PathCode Y → Path
path_shown p = record { resource = p.resource.0; tree = shape p.tree.now }

abbrev pub paths_shown : {Y : Type 0} → List (PathCode Y) → List Path
paths_shown ps = map path_shown ps

-- the trees of paths with their numbers, and with the numbers of their first semaphores and braces, which count through all paths
abbrev pub numbered_trees : List Path → List (ℕ × Tree)
numbered_trees ps = numbered 0 (map (λ p. p.tree) ps)

abbrev pub sites : List Path → List (ℕ × Sited)
sites ps = sited 0 0 (numbered_trees ps)

-- how many semaphores and how many pairs of braces the paths have together
abbrev pub total_semaphores : List (ℕ × Tree) → ℕ
total_semaphores [] = 0
total_semaphores (x ∷ xs) = semaphores_in x.1 + total_semaphores xs

abbrev pub total_braces : List (ℕ × Tree) → ℕ
total_braces [] = 0
total_braces (x ∷ xs) = braces x.1 + total_braces xs
