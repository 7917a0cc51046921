-- A lawful declaration has few parts.
use Rattle.std.proofs.Common.{◌≡◌, ◌+◌, ◌<◌, ◌≤◌, ℕ, zero, suc, List, [], ◌∷◌, length, get_or, take, arith, All}
use Rattle.std.specs.List.{sum_by}
use Rattle.std.proofs.lemmas.List.{length-map, get_or-map}
use Rattle.std.proofs.lemmas.List.Elements.{All-get_or, All-from_get_or}
use Rattle.std.proofs.lemmas.List.Sums.{sum_by-le, sum_by-take-le}
use Rattle.path_model.specs.Trees.{Tree, op, seq, alt, burst, any, most, NoBraces, NoNesting, WellFormed}
use Rattle.path_model.specs.Machine.{semicolons, braces}
use Rattle.path_model.specs.Flat.{counted_braces, semaphores_in}
use Rattle.path_model.specs.Legal as legal
use Rattle.path_model.specs.Declarations.{Declaration, Path, trees}
use Rattle.path_decl.specs.Lawful.{Lawful, names_count}
use Rattle.path_standings.specs.Told.{tree_at}

few_semicolons : (s : Tree) → semicolons s + 1 ≤ names_count s
few_semicolons (op a) = omega arith
few_semicolons (seq l r) = omega (arith, few_semicolons l, few_semicolons r)
few_semicolons (alt l r) = omega (arith, few_semicolons l, few_semicolons r)
few_semicolons (burst bd s) = few_semicolons s

no_bounds : (s : Tree) → NoBraces s → counted_braces s ≡ 0
no_bounds (op a) n = omega arith
no_bounds (seq l r) n = omega (arith, no_bounds l n.0, no_bounds r n.1)
no_bounds (alt l r) n = omega (arith, no_bounds l n.0, no_bounds r n.1)
no_bounds (burst bd s) n = absurd n

few_bounds : (s : Tree) → NoNesting s → counted_braces s ≤ names_count s
few_bounds (op a) n = omega arith
few_bounds (seq l r) n = omega (arith, few_bounds l n.0, few_bounds r n.1)
few_bounds (alt l r) n = omega (arith, few_bounds l n.0, few_bounds r n.1)
few_bounds (burst any s) n = omega (arith, no_bounds s n.0)
few_bounds (burst (most k) s) n = omega (arith, no_bounds s n.0, few_semicolons s)

no_pairs : (s : Tree) → NoBraces s → braces s ≡ 0
no_pairs (op a) n = omega arith
no_pairs (seq l r) n = omega (arith, no_pairs l n.0, no_pairs r n.1)
no_pairs (alt l r) n = omega (arith, no_pairs l n.0, no_pairs r n.1)
no_pairs (burst bd s) n = absurd n

few_pairs : (s : Tree) → NoNesting s → braces s ≤ names_count s
few_pairs (op a) n = omega arith
few_pairs (seq l r) n = omega (arith, few_pairs l n.0, few_pairs r n.1)
few_pairs (alt l r) n = omega (arith, few_pairs l n.0, few_pairs r n.1)
few_pairs (burst bd s) n = omega (arith, no_pairs s n.0, few_semicolons s)

pub every_at : (P : Tree → Type 0) (ss : List Tree) (n i : ℕ) (d : Tree) → i < length ss → legal.Every P (legal.numbered n ss) → P (get_or ss i d)
every_at P [] n i d l e = absurd (omega (arith, l))
every_at P (s ∷ ss) n zero d l e = e.0
every_at P (s ∷ ss) n (suc i) d l e = every_at P ss (n + 1) i d (omega (arith, l)) e.1

module _ (d : Declaration) (lawful : Lawful d) where
  pub many : length (trees d) ≡ length d.paths
  many = length-map d.paths (λ (p : Path). p.tree)

  pub formed_at : (i : ℕ) → i < length d.paths → WellFormed (tree_at d i)
  formed_at i l = every_at WellFormed (trees d) 0 i (op (record { 0 = 0 })) (omega (arith, l, many)) lawful.well_formed

  pub few_names_at : (i : ℕ) → i < length d.paths → names_count (tree_at d i) ≤ 64
  few_names_at i l = All-get_or (λ s. names_count s ≤ 64) (trees d) i (op (record { 0 = 0 })) (omega (arith, l, many)) named
    where
      named : All (λ s. names_count s ≤ 64) (trees d)
      named = All-from_get_or (λ s. names_count s ≤ 64) (trees d) (op (record { 0 = 0 })) (λ k m. at k (omega (arith, m, many)))
        where
          at : (k : ℕ) → k < length d.paths → names_count (get_or (trees d) k (op (record { 0 = 0 }))) ≤ 64
          at k m =
              let p : Path = get_or d.paths k (record { resource = 0; tree = op (record { 0 = 0 }) }) in
              let few : names_count p.tree ≤ 64 = All-get_or (λ (q : Path). names_count q.tree ≤ 64) d.paths k (record { resource = 0; tree = op (record { 0 = 0 }) }) m lawful.few_names in
              rw (get_or-map (λ (q : Path). q.tree) d.paths k (record { resource = 0; tree = op (record { 0 = 0 }) }) (op (record { 0 = 0 })) m) few

  pub few_at : (i : ℕ) → i < length d.paths → (semicolons (tree_at d i) + counted_braces (tree_at d i) ≤ 128) × (braces (tree_at d i) ≤ 64)
  few_at i l = (
    omega (arith, few_semicolons (tree_at d i), few_bounds (tree_at d i) (formed_at i l).not_nested, few_names_at i l),
    omega (arith, few_pairs (tree_at d i) (formed_at i l).not_nested, few_names_at i l),
  )

  pub few_before : (i : ℕ) → sum_by semaphores_in (take i (trees d)) ≤ 33024
  few_before i =
      let each : All (λ s. semaphores_in s ≤ 129) (trees d) = All-from_get_or (λ s. semaphores_in s ≤ 129) (trees d) (op (record { 0 = 0 })) (λ k m. omega (arith, (few_at k (omega (arith, m, many))).0)) in
      omega (arith, sum_by-take-le semaphores_in (trees d) i, sum_by-le semaphores_in 129 (trees d) each, many, lawful.few_paths)

  pub few_pairs_before : (i : ℕ) → sum_by braces (take i (trees d)) ≤ 16384
  few_pairs_before i =
      let each : All (λ s. braces s ≤ 64) (trees d) = All-from_get_or (λ s. braces s ≤ 64) (trees d) (op (record { 0 = 0 })) (λ k m. (few_at k (omega (arith, m, many))).1) in
      omega (arith, sum_by-take-le braces (trees d) i, sum_by-le braces 64 (trees d) each, many, lawful.few_paths)
