-- How compiling walks over a tree: the numbers that its parts get, and what each walk writes.
use Rattle.std.specs.Prelude.{◌≡◌, ◌<◌, ◌≤◌, ◌+◌, ◌^◌, ℕ, List, [], ◌∷◌, ◌++◌, slice_set, slice_index_or, Option, Some, None}
use Rattle.path_model.specs.Trees.{any, most, Tree, op, seq, alt, burst}
use Rattle.path_model.specs.Machine.{semicolons, braces}
use Rattle.path_model.specs.Flat.{counted_braces}
use Rattle.path_decl.specs.Lawful.{names_count}
use Rattle.path_code.specs.declared.terms.Prologue.{Prologue}
use Rattle.path_code.specs.declared.terms.Prologue.TheVariants.{P, PP, PPN}
use Rattle.path_code.specs.declared.terms.Epilogue.{Epilogue}
use Rattle.path_code.specs.declared.terms.Epilogue.TheVariants.{V, VV, VVN}
use Rattle.path_code.specs.declared.terms.OpCode.{OpCode}
use Rattle.path_code.specs.declared.substitution.Numbers.{Numbers}

-- how many parts a tree has that get numbers
abbrev pub parts : Tree → ℕ
parts s = names_count s + semicolons s + braces s + counted_braces s

-- if the parts are numbered from n on, their numbers and those after them have 16 bits
pub record FitsFrom (s : Tree) (n : Numbers) : Type 0 where
  pub place : names_count s + n.place < 2 ^ 16
  pub semicolon : semicolons s + n.semicolon < 2 ^ 16
  pub brace : braces s + n.brace < 2 ^ 16
  pub bound : counted_braces s + n.bound < 2 ^ 16

-- if the parts are numbered from n on, m are the numbers after them
pub record NumbersAfter (s : Tree) (n m : Numbers) : Type 0 where
  pub place : m.place ≡ n.place + names_count s
  pub semicolon : m.semicolon ≡ n.semicolon + semicolons s
  pub brace : m.brace ≡ n.brace + braces s
  pub bound : m.bound ≡ n.bound + counted_braces s

-- there are this many numbers below n for its parts
pub record FitsBelow (s : Tree) (n : Numbers) : Type 0 where
  pub place : names_count s ≤ n.place
  pub semicolon : semicolons s ≤ n.semicolon
  pub brace : braces s ≤ n.brace
  pub bound : counted_braces s ≤ n.bound

-- PP around a P, with a bound's semaphore if there is one
abbrev pub start_within : ℕ → Option ℕ → Prologue → Prologue
start_within c None (P q) = PP c q
start_within c (Some u) (P q) = PPN c q u
start_within c b (PP d q) = PP d q
start_within c b (PPN d q u) = PPN d q u

-- VV around a V
abbrev pub end_within : ℕ → Option ℕ → Epilogue → Epilogue
end_within c None (V q) = VV c q
end_within c (Some u) (V q) = VVN c q u
end_within c b (VV d q) = VV d q
end_within c b (VVN d q u) = VVN d q u

-- the names of a tree with their prologues; n, m and u are the numbers of its first semicolon, its first braces and the
-- semaphore of its first bound
abbrev pub starts_in : Tree → ℕ → ℕ → ℕ → Prologue → List OpCode
starts_in (op a) n m u L = record { op = a; prologue = L; epilogue = V 0 } ∷ []
starts_in (seq s t) n m u L =
    starts_in s n m u L ++ starts_in t (n + semicolons s + 1) (m + braces s) (u + counted_braces s) (P (n + semicolons s))
starts_in (alt s t) n m u L = starts_in s n m u L ++ starts_in t (n + semicolons s) (m + braces s) (u + counted_braces s) L
starts_in (burst any s) n m u L = starts_in s n (m + 1) u (start_within m None L)
starts_in (burst (most k) s) n m u L = starts_in s n (m + 1) (u + 1) (start_within m (Some u) L)

-- the semaphores of a tree's bounds, each with its bound
abbrev pub bounds_from : Tree → ℕ → List (ℕ × ℕ)
bounds_from (op a) u = []
bounds_from (seq s t) u = bounds_from s u ++ bounds_from t (u + counted_braces s)
bounds_from (alt s t) u = bounds_from s u ++ bounds_from t (u + counted_braces s)
bounds_from (burst any s) u = bounds_from s u
bounds_from (burst (most k) s) u = (u, k) ∷ bounds_from s (u + 1)

-- no braces are inside braces
abbrev pub IsFlat : Tree → Type 0
IsFlat (op a) = Unit {0}
IsFlat (seq s t) = IsFlat s × IsFlat t
IsFlat (alt s t) = IsFlat s × IsFlat t
IsFlat (burst bd s) = IsFlat s × (braces s ≡ 0) × (counted_braces s ≡ 0)

abbrev pub unnamed : OpCode
unnamed = record { op = record { 0 = 0 }; prologue = P 0; epilogue = V 0 }

-- the epilogue of the name at place p becomes R
abbrev pub ended_at : ℕ → Epilogue → List OpCode → List OpCode
ended_at p R xs = slice_set xs p (record (slice_index_or xs p unnamed) { epilogue = R })

-- the epilogue of each name of a tree is set, from the last name on; the first name has the place p
abbrev pub ended : Tree → ℕ → ℕ → ℕ → ℕ → Epilogue → List OpCode → List OpCode
ended (op a) p n m u R xs = ended_at p R xs
ended (seq s t) p n m u R xs =
    ended s p n m u (V (n + semicolons s))
    (ended t (p + names_count s) (n + semicolons s + 1) (m + braces s) (u + counted_braces s) R xs)
ended (alt s t) p n m u R xs = ended s p n m u R (ended t (p + names_count s) (n + semicolons s) (m + braces s) (u + counted_braces s) R xs)
ended (burst any s) p n m u R xs = ended s p n (m + 1) u (end_within m None R) xs
ended (burst (most k) s) p n m u R xs = ended s p n (m + 1) (u + 1) (end_within m (Some u) R) xs
