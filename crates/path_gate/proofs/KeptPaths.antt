-- The paths that are kept: their numbers rise, and what holds of all paths holds of them.
use Rattle.std.proofs.Common.{◌≡◌, ◌+◌, ◌≤◌, ℕ, cond, Bool, true, false, List, [], ◌∷◌, arith, refl, sym, ap, ◌∙◌, subst}
use Rattle.path_model.specs.declared.ids.OpId.{OpId}
use Rattle.path_model.specs.Trees.{Tree, Names, has}
use Rattle.path_model.specs.Legal as legal
use Rattle.path_model.specs.Machine.{braces}
use Rattle.path_model.specs.Flat.{semaphores_in, Sited, sited}
use Rattle.path_model.specs.Trimmed.{stands_in, kept}
use Rattle.path_model.proofs.CallerLemmas.{has_names, names_has, kept_none}
use Rattle.path_gate.specs.Sites.{unlike, kept_paths}
use Rattle.path_gate.specs.Inner.Terms.{term_at, terms_at}
use Rattle.path_gate.proofs.Passes.{Rising, trees_of}

true_false : true ≡ false → ⊥
true_false z = cc

rising_unlike : (xs : List (ℕ × Tree)) (k c i j : ℕ) (seen : List Tree) → k ≤ i → c ≤ j → Rising k c (unlike seen (sited i j xs))
rising_unlike [] k c i j seen a b = tt
rising_unlike (x ∷ xs) k c i j seen a b =
    elim (stands_in x.1 seen) as (λ d. Rising k c (cond d (unlike seen (sited (i + semaphores_in x.1) (j + braces x.1) xs)) ((x.0, record { tree = x.1; own = i; first = j }) ∷ unlike (x.1 ∷ seen) (sited (i + semaphores_in x.1) (j + braces x.1) xs)))) [
      | true ↦ rising_unlike xs k c (i + semaphores_in x.1) (j + braces x.1) seen (omega (arith, a)) (omega (arith, b))
      | false ↦ (a, b, rising_unlike xs (i + semaphores_in x.1) (j + braces x.1) (i + semaphores_in x.1) (j + braces x.1) (x.1 ∷ seen) (omega arith) (omega arith))
    ]

pub rising_kept : (xs : List (ℕ × Tree)) → Rising 0 0 (kept_paths xs)
rising_kept xs = rising_unlike xs 0 0 0 0 [] (omega arith) (omega arith)

every_unlike : (P : Tree → Type 0) (xs : List (ℕ × Tree)) (i j : ℕ) (seen : List Tree) → legal.Every P xs → legal.Every (λ x. P x.tree) (unlike seen (sited i j xs))
every_unlike P [] i j seen e = tt
every_unlike P (x ∷ xs) i j seen e =
    elim (stands_in x.1 seen) as (λ d. legal.Every (λ y. P y.tree) (cond d (unlike seen (sited (i + semaphores_in x.1) (j + braces x.1) xs)) ((x.0, record { tree = x.1; own = i; first = j }) ∷ unlike (x.1 ∷ seen) (sited (i + semaphores_in x.1) (j + braces x.1) xs)))) [
      | true ↦ every_unlike P xs (i + semaphores_in x.1) (j + braces x.1) seen e.1
      | false ↦ (e.0, every_unlike P xs (i + semaphores_in x.1) (j + braces x.1) (x.1 ∷ seen) e.1)
    ]

pub every_kept : (P : Tree → Type 0) (xs : List (ℕ × Tree)) → legal.Every P xs → legal.Every (λ x. P x.tree) (kept_paths xs)
every_kept P xs e = every_unlike P xs 0 0 [] e

trees_unlike : (xs : List (ℕ × Tree)) (i j : ℕ) (seen : List Tree) → trees_of (unlike seen (sited i j xs)) ≡ kept seen xs
trees_unlike [] i j seen = refl
trees_unlike (x ∷ xs) i j seen =
    elim (stands_in x.1 seen) as (λ d. trees_of (cond d (unlike seen (sited (i + semaphores_in x.1) (j + braces x.1) xs)) ((x.0, record { tree = x.1; own = i; first = j }) ∷ unlike (x.1 ∷ seen) (sited (i + semaphores_in x.1) (j + braces x.1) xs))) ≡ cond d (kept seen xs) (x ∷ kept (x.1 ∷ seen) xs)) [
      | true ↦ trees_unlike xs (i + semaphores_in x.1) (j + braces x.1) seen
      | false ↦ ap (λ ys. x ∷ ys) (trees_unlike xs (i + semaphores_in x.1) (j + braces x.1) (x.1 ∷ seen))
    ]

pub trees_kept : (xs : List (ℕ × Tree)) → trees_of (kept_paths xs) ≡ kept [] xs
trees_kept xs = trees_unlike xs 0 0 []

-- an operation that no path names has no terms
no_terms : (a : OpId) (ys : List (ℕ × Sited)) → legal.Every (λ x. Names x.tree a → ⊥) ys → terms_at ys a ≡ []
no_terms a [] n = refl
no_terms a (y ∷ ys) n = go (has y.1.tree a) refl (no_terms a ys n.1)
  where
    go : (b : Bool) → has y.1.tree a ≡ b → terms_at ys a ≡ [] → cond b (term_at y a ∷ terms_at ys a) (terms_at ys a) ≡ []
    go true h r = absurd (n.0 (names_has y.1.tree a h))
    go false h r = r

pub terms_none : (a : OpId) (xs : List (ℕ × Tree)) → legal.NoneOf (λ s. Names s a) xs → terms_at (kept_paths xs) a ≡ []
terms_none a xs n = no_terms a (kept_paths xs) (every_kept (λ s. Names s a → ⊥) xs n)

-- and no other has none
none_named : (a : OpId) (ys : List (ℕ × Sited)) → terms_at ys a ≡ [] → legal.NoneOf (λ s. Names s a) (trees_of ys)
none_named a [] e = tt
none_named a (y ∷ ys) e = go (has y.1.tree a) refl e (none_named a ys)
  where
    go : (b : Bool) → has y.1.tree a ≡ b → cond b (term_at y a ∷ terms_at ys a) (terms_at ys a) ≡ [] → (terms_at ys a ≡ [] → legal.NoneOf (λ s. Names s a) (trees_of ys)) → legal.NoneOf (λ s. Names s a) ((y.0, y.1.tree) ∷ trees_of ys)
    go true h d r = cc
    go false h d r = (λ k. true_false (sym (has_names y.1.tree a k) ∙ h), r d)

pub none_terms : (a : OpId) (xs : List (ℕ × Tree)) → terms_at (kept_paths xs) a ≡ [] → legal.NoneOf (λ s. Names s a) xs
none_terms a xs e =
    (kept_none (λ s. Names s a) xs [] (λ t s k. true_false (sym s))).0
    (subst (λ ys. legal.NoneOf (λ s. Names s a) ys) (trees_kept xs) (none_named a (kept_paths xs) e))
