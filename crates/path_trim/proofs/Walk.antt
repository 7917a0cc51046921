-- Compiled paths, one after the other, with their trees and numbers.
use Rattle.std.proofs.Common.{◌≡◌, ◌+◌, ◌<◌, ℕ, zero, suc, true, false, List, [], ◌∷◌, ◌++◌, length, map, take, get_or, All, Option, Some, None, refl, sym, ap, ◌∙◌, subst, append_assoc, arith}
use Rattle.std.proofs.lemmas.Bool.{cond-true, cond-false}
use Rattle.std.proofs.lemmas.List.{append-nil, map-append, take_more}
use Rattle.std.proofs.lemmas.List.Elements.{All-head, All-tail}
use Rattle.std.proofs.lemmas.Grind.{flat_map-append}
use Rattle.path_model.specs.Trees.{Tree, op, shape}
use Rattle.path_model.specs.Legal.{numbered}
use Rattle.path_model.specs.Machine.{braces}
use Rattle.path_model.specs.Flat.{Sited, semaphores_in, sited}
use Rattle.path_model.specs.Trimmed.{same_tree}
use Rattle.path_code.specs.declared.code.PathCode.{PathCode}
use Rattle.path_code.specs.PathCodes.{IsPathCode, ArePathCodes}
use Rattle.path_trim.specs.declared.table.Removed.TheVariants.{SamePath}
use Rattle.path_trim.specs.declared.table.Fate.TheVariants.{SameAs, Stays}
use Rattle.path_trim.specs.declared.trimming.Parts.{Parts}
use Rattle.path_trim.specs.Compared.{first_with, Compared, beside, compared_after, site_left, sites_left}
use Rattle.path_trim.specs.LeanTable.{lean_row}
use Rattle.path_trim.specs.RemovedList.{values_removed, lost, all_lost}
use Rattle.path_trim.specs.Rows.{row_of, fate_by, fates_of}
use Rattle.path_trim.specs.Inner.FirstEqual.{HasOther, IsFirstEqual}
use Rattle.path_trim.specs.Inner.Parts.{Adds}

-- the paths have the numbers from n on
abbrev pub Numbered : ℕ → List (ℕ × Sited) → Type 0
Numbered n [] = Unit {0}
Numbered n (x ∷ xs) = (x.0 ≡ n) × Numbered (n + 1) xs

pub sites_numbered : (ss : List Tree) (p k c : ℕ) → Numbered p (sited k c (numbered p ss))
sites_numbered [] p k c = tt
sites_numbered (s ∷ ss) p k c = (refl, sites_numbered ss (p + 1) (k + semaphores_in s) (c + braces s))

number_at : (xs : List (ℕ × Sited)) (n k : ℕ) (d : ℕ × Sited) → Numbered n xs → k < length xs → (get_or xs k d).0 ≡ n + k
number_at [] n k d h l = absurd (omega arith)
number_at (x ∷ xs) n zero d h l = omega (arith, h.0)
number_at (x ∷ xs) n (suc k) d h l = omega (arith, number_at xs (n + 1) k d h.1 (omega (arith, l)))

numbered_take : (xs : List (ℕ × Sited)) (n k : ℕ) → Numbered n xs → Numbered n (take k xs)
numbered_take xs n zero h = tt
numbered_take [] n (suc k) h = tt
numbered_take (x ∷ xs) n (suc k) h = (h.0, numbered_take xs (n + 1) k h.1)

module _ {Y : Type 0} where
  codes_take : (xs : List (ℕ × Sited)) (ps : List (PathCode Y)) (k : ℕ) → ArePathCodes xs ps → ArePathCodes (take k xs) (take k ps)
  codes_take xs ps zero h = tt
  codes_take [] [] (suc k) h = tt
  codes_take [] (p ∷ ps) (suc k) h = absurd h
  codes_take (x ∷ xs) [] (suc k) h = absurd h
  codes_take (x ∷ xs) (p ∷ ps) (suc k) h = (h.0, codes_take xs ps k h.1)

  pub codes_length : (xs : List (ℕ × Sited)) (ps : List (PathCode Y)) → ArePathCodes xs ps → length xs ≡ length ps
  codes_length [] [] h = refl
  codes_length [] (p ∷ ps) h = absurd h
  codes_length (x ∷ xs) [] h = absurd h
  codes_length (x ∷ xs) (p ∷ ps) h = ap suc (codes_length xs ps h.1)

  -- the code at a place is that of the path there
  pub code_at : (xs : List (ℕ × Sited)) (ps : List (PathCode Y)) (k : ℕ) (d : ℕ × Sited) (e : PathCode Y) → ArePathCodes xs ps → k < length ps → IsPathCode (get_or xs k d).1 (get_or ps k e)
  code_at [] [] k d e h l = absurd (omega arith)
  code_at [] (p ∷ ps) k d e h l = absurd h
  code_at (x ∷ xs) [] k d e h l = absurd h
  code_at (x ∷ xs) (p ∷ ps) zero d e h l = h.0
  code_at (x ∷ xs) (p ∷ ps) (suc k) d e h l = code_at xs ps k d e h.1 (omega (arith, l))

  first_none : (s : Tree) (xs : List (ℕ × Sited)) (ps : List (PathCode Y)) → ArePathCodes xs ps → All (HasOther s) ps → first_with s xs ≡ None
  first_none s [] ps h a = refl
  first_none s (x ∷ xs) [] h a = absurd h
  first_none s (x ∷ xs) (p ∷ ps) h a =
      let other : same_tree s x.1.tree ≡ false = subst (λ t. same_tree s t ≡ false) h.0.tree (All-head (HasOther s) p ps a) in
      cond-false (same_tree s x.1.tree) (Some x.0) (first_with s xs) other ∙ first_none s xs ps h.1 (All-tail (HasOther s) p ps a)

  first_some : (s : Tree) (n : ℕ) (xs : List (ℕ × Sited)) (ps : List (PathCode Y)) (i : ℕ) → ArePathCodes xs ps → Numbered n xs → IsFirstEqual s ps i → first_with s xs ≡ Some (n + i)
  first_some s n [] [] i h m f = absurd (let l = f.within in omega arith)
  first_some s n [] (p ∷ ps) i h m f = absurd h
  first_some s n (x ∷ xs) [] i h m f = absurd h
  first_some s n (x ∷ xs) (p ∷ ps) zero h m f =
      let same : same_tree s x.1.tree ≡ true = subst (λ t. same_tree s t ≡ true) h.0.tree (f.equal p) in
      let number : x.0 ≡ n + 0 = omega (arith, m.0) in
      cond-true (same_tree s x.1.tree) (Some x.0) (first_with s xs) same ∙ ap (λ k. Some k) number
  first_some s n (x ∷ xs) (p ∷ ps) (suc i) h m f =
      let other : same_tree s x.1.tree ≡ false = subst (λ t. same_tree s t ≡ false) h.0.tree (All-head (HasOther s) p (take i ps) f.before) in
      let later : IsFirstEqual s ps i = record { within = let l = f.within in omega arith; before = All-tail (HasOther s) p (take i ps) f.before; equal = f.equal } in
      let number : (n + 1) + i ≡ n + suc i = omega arith in
      cond-false (same_tree s x.1.tree) (Some x.0) (first_with s xs) other ∙ first_some s (n + 1) xs ps i h.1 m.1 later ∙ ap (λ k. Some k) number

-- one path more
compared_more : (earlier xs : List (ℕ × Sited)) (x : ℕ × Sited) → compared_after earlier (xs ++ x ∷ []) ≡ compared_after earlier xs ++ beside (earlier ++ xs) x ∷ []
compared_more earlier [] x = ap (λ e. beside e x ∷ []) (sym (append-nil earlier))
compared_more earlier (y ∷ xs) x = ap (λ l. beside earlier y ∷ l) (compared_more (earlier ++ y ∷ []) xs x ∙ ap (λ e. compared_after (earlier ++ y ∷ []) xs ++ beside e x ∷ []) (append_assoc earlier (y ∷ []) xs))

-- what was made of these paths
pub record Made {Y : Type 0} (p : Parts Y) (xs : List (ℕ × Sited)) : Type 0 where
  pub table : map row_of p.kept.items ≡ map lean_row (sites_left (compared_after [] xs))
  pub removed : p.removed.items ≡ all_lost (compared_after [] xs)
  pub fates : p.fates.items ≡ fates_of (compared_after [] xs)

made_step : {Y : Type 0} (old new : Parts Y) (xs : List (ℕ × Sited)) (k : ℕ) (d : ℕ × Sited) (o : Option ℕ) → k < length xs → first_with (get_or xs k d).1.tree (take k xs) ≡ o → Made old (take k xs)
    → Adds old new (map lean_row (site_left (get_or xs k d).0 (get_or xs k d).1 o)) (lost (get_or xs k d).0 (get_or xs k d).1 o) (fate_by (get_or xs k d).1 o) → Made new (take (k + 1) xs)
made_step old new xs k d o l first was added =
    let y = get_or xs k d in
    let front = compared_after [] (take k xs) in
    let next : compared_after [] (take (k + 1) xs) ≡ front ++ record { path = y.0; site = y.1; same = o } ∷ [] =
    ap (compared_after []) (take_more xs k d l) ∙ compared_more [] (take k xs) y ∙ ap (λ z. front ++ record { path = y.0; site = y.1; same = z } ∷ []) first in
    record {
      table =
          added.table
          ∙ ap (λ r. r ++ map lean_row (site_left y.0 y.1 o)) was.table
          ∙ sym (map-append lean_row (sites_left front) (site_left y.0 y.1 o))
          ∙ ap (λ r. map lean_row (sites_left front ++ r)) (sym (append-nil (site_left y.0 y.1 o)))
          ∙ ap (map lean_row) (sym (flat_map-append (λ (x : Compared). site_left x.path x.site x.same) front (record { path = y.0; site = y.1; same = o } ∷ [])))
          ∙ ap (λ z. map lean_row (sites_left z)) (sym next);
      removed =
          added.removed
          ∙ ap (λ r. r ++ lost y.0 y.1 o) was.removed
          ∙ ap (λ r. all_lost front ++ r) (sym (append-nil (lost y.0 y.1 o)))
          ∙ sym (flat_map-append (λ (x : Compared). lost x.path x.site x.same) front (record { path = y.0; site = y.1; same = o } ∷ []))
          ∙ ap all_lost (sym next);
      fates =
          added.fates
          ∙ ap (λ r. r ++ fate_by y.1 o ∷ []) was.fates
          ∙ sym (map-append (λ (x : Compared). fate_by x.site x.same) front (record { path = y.0; site = y.1; same = o } ∷ []))
          ∙ ap fates_of (sym next);
    }

-- no path
abbrev pub nowhere : ℕ × Sited
nowhere = (0, record { tree = op (record { 0 = 0 }); own = 0; first = 0 })

module _ {Y : Type 0} (ss : List Tree) (ps : List (PathCode Y)) (h : ArePathCodes (sited 0 0 (numbered 0 ss)) ps) (k : ℕ) (l : k < length ps) (e : PathCode Y) (is : e ≡ get_or ps k e) where
  pub here : IsPathCode (get_or (sited 0 0 (numbered 0 ss)) k nowhere).1 e
  here = subst (IsPathCode (get_or (sited 0 0 (numbered 0 ss)) k nowhere).1) (sym is) (code_at (sited 0 0 (numbered 0 ss)) ps k nowhere e h l)

  within : k < length (sited 0 0 (numbered 0 ss))
  within = let n = codes_length (sited 0 0 (numbered 0 ss)) ps h in omega (arith, l)

  number : (get_or (sited 0 0 (numbered 0 ss)) k nowhere).0 ≡ k
  number = let n = number_at (sited 0 0 (numbered 0 ss)) 0 k nowhere (sites_numbered ss 0 0 0) within in omega arith

  -- a path whose tree an earlier one has
  pub same_step : (old new : Parts Y) (i : ℕ) → IsFirstEqual (shape e.tree.now) (take k ps) i → Made old (take k (sited 0 0 (numbered 0 ss)))
      → Adds old new [] (SamePath (record { 0 = k }) (record { 0 = i }) ∷ []) (SameAs (record { 0 = i })) → Made new (take (k + 1) (sited 0 0 (numbered 0 ss)))
  same_step old new i f was added =
      let xs = sited 0 0 (numbered 0 ss) in
      let zero_add : 0 + i ≡ i = omega arith in
      let first : first_with (get_or xs k nowhere).1.tree (take k xs) ≡ Some i =
      subst (λ t. first_with t (take k xs) ≡ Some i) here.tree
      (first_some (shape e.tree.now) 0 (take k xs) (take k ps) i (codes_take xs ps k h) (numbered_take xs 0 k (sites_numbered ss 0 0 0)) f ∙ ap (λ n. Some n) zero_add) in
      made_step old new xs k nowhere (Some i) within first was
      (subst (λ n. Adds old new [] (SamePath (record { 0 = n }) (record { 0 = i }) ∷ []) (SameAs (record { 0 = i }))) (sym number) added)

  -- a path that is kept
  pub kept_step : (old new : Parts Y) → All (HasOther (shape e.tree.now)) (take k ps) → Made old (take k (sited 0 0 (numbered 0 ss)))
      → ((x : Sited) → IsPathCode x e → Adds old new (lean_row (k, x) ∷ []) (values_removed x) (Stays (length (values_removed x)))) → Made new (take (k + 1) (sited 0 0 (numbered 0 ss)))
  kept_step old new f was added =
      let xs = sited 0 0 (numbered 0 ss) in
      let y = (get_or xs k nowhere).1 in
      let first : first_with (get_or xs k nowhere).1.tree (take k xs) ≡ None =
      subst (λ t. first_with t (take k xs) ≡ None) here.tree (first_none (shape e.tree.now) (take k xs) (take k ps) (codes_take xs ps k h) f) in
      made_step old new xs k nowhere None within first was
      (subst (λ n. Adds old new (lean_row (n, y) ∷ []) (values_removed y) (Stays (length (values_removed y)))) (sym number) (added y here))
