-- What trimming leaves of some paths, by hand.
use Rattle.std.proofs.Common.{◌≡◌, ℕ, List, [], ◌∷◌, map, refl, codes}
use Rattle.path_model.specs.declared.ids.PathId.{PathId}
use Rattle.path_model.specs.Trees.{any, most, Tree, op, seq, alt, burst}
use Rattle.path_code.specs.Listing.{lines_text}
use Rattle.path_code.proofs.CallerLemmas.{digit0, digit1, digit2, a, b, declares, path_of}
use Rattle.path_trim.specs.declared.table.Removed.TheVariants.{Semaphore, Counter, Mutex, SamePath}
use Rattle.path_trim.specs.RemovedList.{removed_list}
use Rattle.path_trim.specs.LeanListing.{lean_text}

abbrev c : Tree
c = op (record { 0 = 2 })

abbrev shows : List Tree → List (List ℕ) → Type 0
shows ss ls = lean_text (declares (map path_of ss)) ss ≡ lines_text ls

abbrev path : ℕ → PathId
path n = record { 0 = n }

-- { a } , b
readers_and_writers : shows (alt (burst any a) b ∷ []) (
    codes "path 0 of r" ∷ codes "removed m0" ∷ codes "s0 = 1" ∷ codes "c0 = 0"
    ∷ codes "a: PP(c0,P(s0)) | VV(c0,V(s0))" ∷ codes "b: P(s0) | V(s0)" ∷ []
    )
readers_and_writers = rw (digit0, digit1) refl

-- { a }
lone_burst : shows (burst any a ∷ []) (codes "path 0 of r" ∷ codes "removed s0 c0 m0" ∷ codes "a: - | -" ∷ [])
lone_burst = rw digit0 refl

-- { a ; b }
crossing : shows (burst any (seq a b) ∷ []) (
    codes "path 0 of r" ∷ codes "removed s0 c0 m0" ∷ codes "s1 = 0" ∷ codes "a: - | V(s1)" ∷ codes "b: P(s1) | -" ∷ []
    )
crossing = rw (digit0, digit1) refl

-- { a : 2 } , b
pool : shows (alt (burst (most 2) a) b ∷ []) (
    codes "path 0 of r" ∷ codes "removed m0" ∷ codes "s0 = 1" ∷ codes "s1 = 2" ∷ codes "c0 = 0"
    ∷ codes "a: P(s1); PP(c0,P(s0)) | VV(c0,V(s0)); V(s1)" ∷ codes "b: P(s0) | V(s0)" ∷ []
    )
pool = rw (digit0, digit1, digit2) refl

-- { a ; b : 2 }
pipe : shows (burst (most 2) (seq a b) ∷ []) (
    codes "path 0 of r" ∷ codes "removed s0 c0 m0" ∷ codes "s1 = 0" ∷ codes "s2 = 2"
    ∷ codes "a: P(s2) | V(s1)" ∷ codes "b: P(s1) | V(s2)" ∷ []
    )
pipe = rw (digit0, digit1, digit2) refl

-- a ; b, twice
equal_paths : shows (seq a b ∷ seq a b ∷ []) (
    codes "path 0 of r" ∷ codes "s0 = 1" ∷ codes "s1 = 0" ∷ codes "a: P(s0) | V(s1)" ∷ codes "b: P(s1) | V(s0)"
    ∷ codes "path 1 of r same as 0" ∷ []
    )
equal_paths = rw (digit0, digit1) refl

-- without its path a declaration has no resource to name
unknown_path : lean_text (declares []) (a ∷ []) ≡ lines_text (codes "path 0 of #0" ∷ codes "s0 = 1" ∷ codes "a: P(s0) | V(s0)" ∷ [])
unknown_path = rw (digit0, digit1) refl

equal_paths_removed : removed_list (seq a b ∷ seq a b ∷ []) ≡ SamePath (path 1) (path 0) ∷ []
equal_paths_removed = refl

-- the first path with the tree, and not the last one before it
first_of_three : removed_list (a ∷ b ∷ a ∷ a ∷ []) ≡ SamePath (path 2) (path 0) ∷ SamePath (path 3) (path 0) ∷ []
first_of_three = refl

-- other trees
other_trees : removed_list (seq (seq a b) c ∷ seq a (seq b c) ∷ []) ≡ []
other_trees = refl

-- braces with a bound
equal_bounds : removed_list (burst (most 2) a ∷ burst (most 2) a ∷ []) ≡ Semaphore 0 ∷ Counter 0 ∷ Mutex 0 ∷ SamePath (path 1) (path 0) ∷ []
equal_bounds = refl

other_bounds : removed_list (burst (most 2) a ∷ burst (most 3) a ∷ []) ≡ Semaphore 0 ∷ Counter 0 ∷ Mutex 0 ∷ Semaphore 2 ∷ Counter 1 ∷ Mutex 1 ∷ []
other_bounds = refl

no_bound : removed_list (burst (most 2) a ∷ burst any a ∷ []) ≡ Semaphore 0 ∷ Counter 0 ∷ Mutex 0 ∷ Semaphore 2 ∷ Counter 1 ∷ Mutex 1 ∷ []
no_bound = refl

-- each mutex, but no counter that the braces share with other names
each_mutex : removed_list (seq (burst any a) (burst any b) ∷ []) ≡ Mutex 0 ∷ Mutex 1 ∷ []
each_mutex = refl
