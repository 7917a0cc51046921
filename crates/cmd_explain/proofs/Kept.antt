-- The gate keeps the first path with a tree, and so it tells of that tree.
use Rattle.std.proofs.Common.{◌≡◌, ◌≢◌, ◌||◌, ℕ, zero, suc, ◌+◌, ◌<◌, Bool, true, false, cond, List, [], ◌∷◌, length, arith, refl, sym, ap, ◌∙◌, subst}
use Rattle.std.specs.Prelude.{map, slice_index_or}
use Rattle.path_model.specs.declared.ids.PathId.{PathId}
use Rattle.path_model.specs.Trees.{Tree, op}
use Rattle.path_model.specs.Legal as legal
use Rattle.path_model.specs.Trimmed.{same_tree, stands_in, kept}
use Rattle.path_model.specs.Declarations.{Declaration, Path, paths_of}
use Rattle.path_model.proofs.CallerLemmas.{same_tree_same}
use Rattle.path_gate.specs.Standings.{AtNumber}
use Rattle.cmd_explain.specs.Standing.{tree_at, IsFirstAlike}

true_false : true ≡ false → ⊥
true_false z = cc

abbrev tree_here : List Path → ℕ → Tree
tree_here ps k = (slice_index_or ps k (record { resource = 0; tree = op (record { 0 = 0 }) })).tree

module _ (P : Tree → Type 0) (t : Tree) where
  unseen : (s : Tree) (seen : List Tree) → s ≢ t → stands_in t seen ≡ false → (b : Bool) → same_tree t s ≡ b → b || stands_in t seen ≡ false
  unseen s seen other none true e = absurd (other (sym (same_tree_same t s e)))
  unseen s seen other none false e = none

  first_here : (s : Tree) (xs : List (ℕ × Tree)) (n : ℕ) (seen : List Tree) → s ≡ t → stands_in t seen ≡ false → (b : Bool) → stands_in s seen ≡ b
      → AtNumber P (n + 0) (cond b (kept seen xs) ((n, s) ∷ kept (s ∷ seen) xs)) → P t
  first_here s xs n seen same none true e k = absurd (true_false (sym e ∙ ap (λ x. stands_in x seen) same ∙ none))
  first_here s xs n seen same none false e k = subst P same (k.0 (omega arith))

  first_later : (s : Tree) (xs : List (ℕ × Tree)) (n j : ℕ) (seen : List Tree) → s ≢ t → stands_in t seen ≡ false
      → ((others : List Tree) → stands_in t others ≡ false → AtNumber P j (kept others xs) → P t)
      → (b : Bool) → AtNumber P j (cond b (kept seen xs) ((n, s) ∷ kept (s ∷ seen) xs)) → P t
  first_later s xs n j seen other none rest true k = rest seen none k
  first_later s xs n j seen other none rest false k = rest (s ∷ seen) (unseen s seen other none (same_tree t s) refl) k.1

  first_is_kept : (ps : List Path) (n q : ℕ) (seen : List Tree) → q < length ps → tree_here ps q ≡ t → ((k : ℕ) → k < q → tree_here ps k ≢ t) → stands_in t seen ≡ false
      → AtNumber P (n + q) (kept seen (legal.numbered n (map (λ p. p.tree) ps))) → P t
  first_is_kept [] n q seen l same first none k = absurd (omega (arith, l))
  first_is_kept (p ∷ ps) n zero seen l same first none k = first_here p.tree (legal.numbered (n + 1) (map (λ p. p.tree) ps)) n seen same none (stands_in p.tree seen) refl k
  first_is_kept (p ∷ ps) n (suc q) seen l same first none k =
      first_later p.tree (legal.numbered (n + 1) (map (λ p. p.tree) ps)) n (n + suc q) seen (first zero (omega arith)) none
      (λ others e m. (let next : n + suc q ≡ (n + 1) + q = omega arith in
      first_is_kept ps (n + 1) q others (omega (arith, l)) same (λ j below. first (suc j) (omega (arith, below))) e (subst (λ j. AtNumber P j (kept others (legal.numbered (n + 1) (map (λ p. p.tree) ps)))) next m)))
      (stands_in p.tree seen) k

-- what holds of the kept path with the number of the first alike holds of the path
pub told_at : (d : Declaration) (p q : PathId) → IsFirstAlike d p q → (P : Tree → Type 0) → AtNumber P q.0 (kept [] (paths_of d)) → P (tree_at d p)
told_at d p q first P k =
    first_is_kept P (tree_at d p) d.paths 0 q.0 [] first.within first.same (λ j below. first.first j below) refl
    (subst (λ j. AtNumber P j (kept [] (paths_of d))) (let same : q.0 ≡ 0 + q.0 = omega arith in same) k)
