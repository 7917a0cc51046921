-- How many parts a path has.
use Rattle.std.proofs.Common.{◌≡◌, ◌+◌, ◌*◌, ◌≤◌, ℕ, zero, suc, List, [], ◌∷◌, length, map, replicate, arith, refl, ◌∙◌, All}
use Rattle.std.proofs.lemmas.List.{length-append, length-map, length-replicate}
use Rattle.std.proofs.lemmas.List.Elements.{All-head, All-tail}
use Rattle.path_model.specs.Trees.{any, most, Tree, op, seq, alt, burst, NoNesting, WellFormed}
use Rattle.path_model.specs.Legal.{Every, numbered}
use Rattle.path_model.specs.Machine.{semicolons, braces}
use Rattle.path_model.specs.Flat.{counted_braces, semaphores_in, Sited}
use Rattle.path_model.specs.Declarations.{Path, Declaration}
use Rattle.path_decl.specs.Lawful.{names_count, Lawful}
use Rattle.path_code.specs.PathCodes.{bounds_in, numbered_values, numbers_from, opening_values, semaphores_of, braces_of, numbered_trees, total_semaphores, total_braces}
use Rattle.path_code.specs.LawfulPaths.{LawfulPaths}
use Rattle.path_code.proofs.Substituted.{no_braces, length_bounds}

-- semicolons stand between names, and names within braces
pub semicolons_between : (s : Tree) → semicolons s + 1 ≤ names_count s
semicolons_between (op a) = omega arith
semicolons_between (seq s t) = omega (arith, semicolons_between s, semicolons_between t)
semicolons_between (alt s t) = omega (arith, semicolons_between s, semicolons_between t)
semicolons_between (burst b s) = semicolons_between s

pub braces_few : (s : Tree) → NoNesting s → braces s ≤ names_count s
braces_few (op a) n = omega arith
braces_few (seq s t) n = omega (arith, braces_few s n.0, braces_few t n.1)
braces_few (alt s t) n = omega (arith, braces_few s n.0, braces_few t n.1)
braces_few (burst b s) n = let z = no_braces s n.0 in let m = semicolons_between s in omega (arith, z, m)

pub bounds_few : (s : Tree) → counted_braces s ≤ braces s
bounds_few (op a) = omega arith
bounds_few (seq s t) = omega (arith, bounds_few s, bounds_few t)
bounds_few (alt s t) = omega (arith, bounds_few s, bounds_few t)
bounds_few (burst any s) = omega (arith, bounds_few s)
bounds_few (burst (most n) s) = omega (arith, bounds_few s)

-- so a path has at most 128 semaphores and 64 pairs of braces
pub record IsSmall (s : Tree) : Type 0 where
  pub names : names_count s ≤ 64
  pub semicolons : semicolons s ≤ 63
  pub braces : braces s ≤ 64
  pub bounds : counted_braces s ≤ 64
  pub semaphores : semaphores_in s ≤ 128

pub small : (s : Tree) → WellFormed s → names_count s ≤ 64 → IsSmall s
small s wf few =
    let m = semicolons_between s in
    let b = braces_few s wf.not_nested in
    let u = bounds_few s in
    record {
      names = few;
      semicolons = omega (arith, few, m);
      braces = omega (arith, few, b);
      bounds = omega (arith, few, b, u);
      semaphores = omega (arith, few, m, b, u);
    }

each_small : (ps : List Path) (k : ℕ) → Every WellFormed (numbered k (map (λ p. p.tree) ps)) → All (λ p. names_count p.tree ≤ 64) ps → Every IsSmall (numbered k (map (λ p. p.tree) ps))
each_small [] k wf few = tt
each_small (p ∷ ps) k wf few =
    (small p.tree wf.0 (All-head (λ (q : Path). names_count q.tree ≤ 64) p ps few), each_small ps (k + 1) wf.1 (All-tail (λ (q : Path). names_count q.tree ≤ 64) p ps few))

pub each_path_small : (ps : List Path) → LawfulPaths ps → Every IsSmall (numbered_trees ps)
each_path_small ps L = each_small ps 0 L.well_formed L.few_names

pub few_semaphores : (xs : List (ℕ × Tree)) → Every IsSmall xs → total_semaphores xs ≤ 128 * length xs
few_semaphores [] e = omega arith
few_semaphores (x ∷ xs) e = let s = e.0.semaphores in let r = few_semaphores xs e.1 in omega (arith, s, r)

pub few_braces : (xs : List (ℕ × Tree)) → Every IsSmall xs → total_braces xs ≤ 64 * length xs
few_braces [] e = omega arith
few_braces (x ∷ xs) e = let s = e.0.braces in let r = few_braces xs e.1 in omega (arith, s, r)

length_numbered : (k : ℕ) (ss : List Tree) → length (numbered k ss) ≡ length ss
length_numbered k [] = refl
length_numbered k (s ∷ ss) = let r = length_numbered (k + 1) ss in omega (arith, r)

pub length_trees : (ps : List Path) → length (numbered_trees ps) ≡ length ps
length_trees ps = length_numbered 0 (map (λ p. p.tree) ps) ∙ length-map ps (λ p. p.tree)

-- the lengths of a path's lists
pub length_values : (n : ℕ) (vs : List ℕ) → length (numbered_values n vs) ≡ length vs
length_values n [] = refl
length_values n (v ∷ vs) = let r = length_values (n + 1) vs in omega (arith, r)

pub length_openings : (s : Tree) → length (opening_values s) ≡ semaphores_in s
length_openings s =
    let a = length-append (replicate {A = ℕ} (semicolons s) 0) (bounds_in s) in
    let z : length (replicate {A = ℕ} (semicolons s) 0) ≡ semicolons s = length-replicate (semicolons s) 0 in
    let b = length_bounds s in
    omega (arith, a, z, b)

pub length_semaphores : (x : Sited) → length (semaphores_of x) ≡ semaphores_in x.tree
length_semaphores x = length_values x.own (opening_values x.tree) ∙ length_openings x.tree

pub length_numbers : (n k : ℕ) → length (numbers_from n k) ≡ k
length_numbers n zero = refl
length_numbers n (suc k) = let r = length_numbers (n + 1) k in omega (arith, r)

pub length_braces : (x : Sited) → length (braces_of x) ≡ braces x.tree
length_braces x = length_numbers x.first (braces x.tree)

-- the paths of a declaration are lawful
pub lawful_paths : (d : Declaration) → Lawful d → LawfulPaths d.paths
lawful_paths d L = record {
  well_formed = L.well_formed;
  few_at_once = L.bounded;
  few_names = L.few_names;
  few_operations = λ k p lt a n. let x = (L.named k p lt a n).0 in let f = L.few_operations in omega (arith, x, f);
  few_paths = L.few_paths;
}
