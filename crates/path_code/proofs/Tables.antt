-- The code of several paths, one after the other.
use Rattle.std.proofs.Common.{◌≡◌, ◌+◌, ◌*◌, ◌<◌, ◌≤◌, ℕ, zero, suc, List, [], ◌∷◌, ◌++◌, length, map, take, get_or, arith, refl, sym, ap, ◌∙◌, subst, Some, None, Option}
use Rattle.std.specs.Prelude.{slice_get, option_map, IsSome}
use Rattle.path_model.specs.declared.ids.ResId.{ResId}
use Rattle.std.proofs.lemmas.List.{take_more}
use Rattle.std.proofs.lemmas.Option.{slice_get-get_or}
use Rattle.path_model.specs.Trees.{Tree, op, FewAtOnce, WellFormed, shape}
use Rattle.path_model.specs.Legal.{Every, numbered}
use Rattle.path_model.specs.Machine.{braces}
use Rattle.path_model.specs.Flat.{semaphores_in, Sited, sited}
use Rattle.path_model.specs.Declarations.{Path}
use Rattle.path_code.specs.declared.code.PathCode.{PathCode}
use Rattle.path_code.specs.PathCodes.{IsPathCode, ArePathCodes, paths_shown, numbered_trees, sites, total_semaphores, total_braces}
use Rattle.path_code.specs.LawfulPaths.{LawfulPaths}
use Rattle.path_code.proofs.Counts.{IsSmall, each_path_small, few_semaphores, few_braces, length_trees, length_semaphores, length_braces}

-- one path more
sited_more : (k c : ℕ) (ys : List (ℕ × Tree)) (y : ℕ × Tree) → sited k c (ys ++ y ∷ []) ≡ sited k c ys ++ (y.0, record { tree = y.1; own = k + total_semaphores ys; first = c + total_braces ys }) ∷ []
sited_more k c [] y =
    ap (λ i. (y.0, record { tree = y.1; own = i; first = c }) ∷ []) (let z : k ≡ k + 0 = omega arith in z)
    ∙ ap (λ i. (y.0, record { tree = y.1; own = k + 0; first = i }) ∷ []) (let z : c ≡ c + 0 = omega arith in z)
sited_more k c (x ∷ ys) y =
    let rest : List (ℕ × Sited) = sited (k + semaphores_in x.1) (c + braces x.1) ys in
    ap (λ zs. (x.0, record { tree = x.1; own = k; first = c }) ∷ zs) (
    sited_more (k + semaphores_in x.1) (c + braces x.1) ys y
    ∙ ap (λ i. rest ++ (y.0, record { tree = y.1; own = i; first = c + braces x.1 + total_braces ys }) ∷ []) (let z : k + semaphores_in x.1 + total_semaphores ys ≡ k + total_semaphores (x ∷ ys) = omega arith in z)
    ∙ ap (λ i. rest ++ (y.0, record { tree = y.1; own = k + total_semaphores (x ∷ ys); first = i }) ∷ []) (let z : c + braces x.1 + total_braces ys ≡ c + total_braces (x ∷ ys) = omega arith in z)
    )

numbered_more : (k : ℕ) (ps : List Path) (p : Path) → numbered k (map (λ q. q.tree) (ps ++ p ∷ [])) ≡ numbered k (map (λ q. q.tree) ps) ++ (k + length ps, p.tree) ∷ []
numbered_more k [] p = ap (λ i. (i, p.tree) ∷ []) (let z : k ≡ k + 0 = omega arith in z)
numbered_more k (q ∷ ps) p = ap (λ zs. (k, q.tree) ∷ zs) (numbered_more (k + 1) ps p ∙ ap (λ i. numbered (k + 1) (map (λ q. q.tree) ps) ++ (i, p.tree) ∷ []) (let z : k + 1 + length ps ≡ k + length (q ∷ ps) = omega arith in z))

trees_more : (ps : List Path) (p : Path) → numbered_trees (ps ++ p ∷ []) ≡ numbered_trees ps ++ (0 + length ps, p.tree) ∷ []
trees_more ps p = numbered_more 0 ps p

-- the numbers that come after these paths
abbrev pub site_after : List Path → Tree → Sited
site_after ps s = record { tree = s; own = total_semaphores (numbered_trees ps); first = total_braces (numbered_trees ps) }

codes_after : {Y : Type 0} (xs : List (ℕ × Sited)) (x : ℕ × Sited) (cs : List (PathCode Y)) (c : PathCode Y) → ArePathCodes xs cs → IsPathCode x.1 c → ArePathCodes (xs ++ x ∷ []) (cs ++ c ∷ [])
codes_after [] x [] c a i = (i, tt)
codes_after [] x (d ∷ cs) c a i = absurd a
codes_after (y ∷ xs) x [] c a i = absurd a
codes_after (y ∷ xs) x (d ∷ cs) c a i = (a.0, codes_after xs x cs c a.1 i)

from_zero : (ps : List Path) (s : Tree) → record { tree = s; own = 0 + total_semaphores (numbered_trees ps); first = 0 + total_braces (numbered_trees ps) } ≡ site_after ps s
from_zero ps s =
    ap (λ (i : ℕ). record { tree = s; own = i; first = 0 + total_braces (numbered_trees ps) }) (let z : 0 + total_semaphores (numbered_trees ps) ≡ total_semaphores (numbered_trees ps) = omega arith in z)
    ∙ ap (λ (i : ℕ). record { tree = s; own = total_semaphores (numbered_trees ps); first = i }) (let z : 0 + total_braces (numbered_trees ps) ≡ total_braces (numbered_trees ps) = omega arith in z)

pub codes_more : {Y : Type 0} (ps : List Path) (p : Path) (cs : List (PathCode Y)) (c : PathCode Y) → ArePathCodes (sites ps) cs → IsPathCode (site_after ps p.tree) c → ArePathCodes (sites (ps ++ p ∷ [])) (cs ++ c ∷ [])
codes_more {Y} ps p cs c a i =
    subst (λ ys. ArePathCodes (sited 0 0 ys) (cs ++ c ∷ [])) (sym (trees_more ps p))
    (subst (λ xs. ArePathCodes xs (cs ++ c ∷ [])) (sym (sited_more 0 0 (numbered_trees ps) (0 + length ps, p.tree)))
    (codes_after (sites ps) (0 + length ps, record { tree = p.tree; own = 0 + total_semaphores (numbered_trees ps); first = 0 + total_braces (numbered_trees ps) }) cs c a (subst (λ (x : Sited). IsPathCode x c) (sym (from_zero ps p.tree)) i)))

total_more : (ys : List (ℕ × Tree)) (y : ℕ × Tree) → (total_semaphores (ys ++ y ∷ []) ≡ total_semaphores ys + semaphores_in y.1) × (total_braces (ys ++ y ∷ []) ≡ total_braces ys + braces y.1)
total_more [] y = (omega arith, omega arith)
total_more (x ∷ ys) y = let r = total_more ys y in (omega (arith, r.0), omega (arith, r.1))

pub totals_more : (ps : List Path) (p : Path) → (total_semaphores (numbered_trees (ps ++ p ∷ [])) ≡ total_semaphores (numbered_trees ps) + semaphores_in p.tree) × (total_braces (numbered_trees (ps ++ p ∷ [])) ≡ total_braces (numbered_trees ps) + braces p.tree)
totals_more ps p = let t = total_more (numbered_trees ps) (0 + length ps, p.tree) in (ap total_semaphores (trees_more ps p) ∙ t.0, ap total_braces (trees_more ps p) ∙ t.1)

-- the next path
same_some : {A : Type 0} (x y : A) → ◌≡◌ {A = Option A} (Some x) (Some y) → x ≡ y
same_some x y e = cc

same_path : (p : Path) (r : ℕ) (s : Tree) → r ≡ p.resource → s ≡ p.tree → p ≡ record { resource = r; tree = s }
same_path p r s e f = ap (λ (i : ℕ). record p { resource = i }) (sym e) ∙ ap (λ (t : Tree). record { resource = r; tree = t }) (sym f)

module _ (ps : List Path) (n r : ℕ) (s : Tree) (l : n < length ps) (is_resource : Some r ≡ option_map (λ p. p.resource) (slice_get ps n)) (is_tree : Some s ≡ option_map (λ p. p.tree) (slice_get ps n)) where
  abbrev pub this : Path
  this = record { resource = r; tree = s }

  found : get_or ps n this ≡ this
  found =
      let at = slice_get-get_or ps n this l in
      same_path (get_or ps n this) r s (same_some r _ (is_resource ∙ ap (λ o. option_map (λ p. p.resource) o) at)) (same_some s _ (is_tree ∙ ap (λ o. option_map (λ p. p.tree) o) at))

  pub next_taken : take (n + 1) ps ≡ take n ps ++ this ∷ []
  next_taken = take_more ps n this l ∙ ap (λ p. take n ps ++ p ∷ []) found

every_at : (P : Tree → Type 0) (ps : List Path) (k n : ℕ) (s : Tree) → Every P (numbered k (map (λ p. p.tree) ps)) → Some s ≡ option_map (λ p. p.tree) (slice_get ps n) → P s
every_at P [] k n s all is = cc
every_at P (p ∷ ps) k zero s all is = subst P (sym (same_some s p.tree is)) all.0
every_at P (p ∷ ps) k (suc n) s all is = every_at P ps (k + 1) n s all.1 is

every_taken : (P : Tree → Type 0) (ps : List Path) (k n : ℕ) → Every P (numbered k (map (λ p. p.tree) ps)) → Every P (numbered k (map (λ p. p.tree) (take n ps)))
every_taken P ps k zero all = tt
every_taken P [] k (suc n) all = tt
every_taken P (p ∷ ps) k (suc n) all = (all.0, every_taken P ps (k + 1) n all.1)

length_taken : (ps : List Path) (n : ℕ) → length (take n ps) ≤ n
length_taken ps zero = omega arith
length_taken [] (suc n) = omega arith
length_taken (p ∷ ps) (suc n) = let r = length_taken ps n in omega (arith, r)

module _ (ps : List Path) (L : LawfulPaths ps) (n : ℕ) where
  pub path_formed : (s : Tree) → Some s ≡ option_map (λ p. p.tree) (slice_get ps n) → WellFormed s
  path_formed s is = every_at WellFormed ps 0 n s L.well_formed is

  pub path_bounded : (s : Tree) → Some s ≡ option_map (λ p. p.tree) (slice_get ps n) → FewAtOnce s
  path_bounded s is = every_at FewAtOnce ps 0 n s L.few_at_once is

  pub path_small : (s : Tree) → Some s ≡ option_map (λ p. p.tree) (slice_get ps n) → IsSmall s
  path_small s is = every_at IsSmall ps 0 n s (each_path_small ps L) is

  pub taken_semaphores : total_semaphores (numbered_trees (take n ps)) ≤ 128 * n
  taken_semaphores =
      let e = few_semaphores (numbered_trees (take n ps)) (every_taken IsSmall ps 0 n (each_path_small ps L)) in
      let l = length_trees (take n ps) in
      let k = length_taken ps n in
      omega (arith, e, l, k)

  pub taken_braces : total_braces (numbered_trees (take n ps)) ≤ 64 * n
  taken_braces =
      let e = few_braces (numbered_trees (take n ps)) (every_taken IsSmall ps 0 n (each_path_small ps L)) in
      let l = length_trees (take n ps) in
      let k = length_taken ps n in
      omega (arith, e, l, k)

-- a part of a path is found where a path is
no_some : {B : Type 0} (r : B) → ◌≡◌ {A = Option B} None (Some r) → ⊥
no_some r e = cc

pub has_part : {A B : Type 0} (f : A → B) (part : Path → B) (ps : List Path) (n : ℕ) (o : Option A) → n < length ps → option_map f o ≡ option_map part (slice_get ps n) → IsSome o
has_part f part ps n None l is = let none : Path = record { resource = 0; tree = op (record { 0 = 0 }) } in let at = slice_get-get_or ps n none l in absurd (no_some _ (is ∙ ap (λ o. option_map part o) at))
has_part f part ps n (Some r) l is = refl

-- how many semaphores and pairs of braces the code of a path has
module _ {Y : Type 0} (x : Sited) (c : PathCode Y) (is : IsPathCode x c) where
  pub code_semaphores : (n : ℕ) → n ≡ c.semaphores.len → n ≡ semaphores_in x.tree
  code_semaphores n e = e ∙ c.semaphores.ok.0 ∙ ap length is.semaphores ∙ length_semaphores x

  pub code_braces : (n : ℕ) → n ≡ c.braces.len → n ≡ braces x.tree
  code_braces n e = e ∙ c.braces.ok.0 ∙ ap length is.braces ∙ length_braces x

pub one_shown : {Y : Type 0} (x : Sited) (c : PathCode Y) (r : ResId) → IsPathCode x c → c.resource ≡ r → paths_shown (c ∷ []) ≡ record { resource = r.0; tree = x.tree } ∷ []
one_shown x c r is e = ap (λ (k : ResId). record { resource = k.0; tree = shape c.tree.now } ∷ []) e ∙ ap (λ (t : Tree). record { resource = r.0; tree = t } ∷ []) is.tree
