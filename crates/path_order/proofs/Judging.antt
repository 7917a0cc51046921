-- What gates of the same paths tell of starts.
use Rattle.std.proofs.Common.{◌≡◌, ℕ, Bool, true, false, List, [], ◌∷◌, ◌++◌, refl, sym, subst, ◌∙◌, inl, inr, Result, Ok, Err}
use Rattle.std.specs.Prelude.{IsTrue, ◌↔◌}
use Rattle.path_model.specs.declared.ids.OpId.{OpId}
use Rattle.path_model.specs.declared.ids.PathId.{PathId}
use Rattle.path_model.specs.declared.history.Event.{Event}
use Rattle.path_model.specs.declared.history.Event.TheVariants.{Began}
use Rattle.path_model.specs.Trees.{Tree}
use Rattle.path_model.specs.Legal as legal
use Rattle.path_model.specs.Trimmed.{kept}
use Rattle.path_gate.specs.Standings.{Standing, IsAt, Judges, Tells, AtNumber}

true_false : true ≡ false → ⊥
true_false e = cc

-- where a path forbids a start, the start isn't legal
pub not_legal : (xs : List (ℕ × Tree)) (h : List Event) (a : OpId) (p : ℕ) → legal.First (legal.Forbids h a) xs p → legal.Legal xs (h ++ Began a ∷ []) → ⊥
not_legal [] h a p f l = f
not_legal (x ∷ xs) h a p (inl here) l = here.0.1 l.0
not_legal (x ∷ xs) h a p (inr later) l = not_legal xs h a p later.1 l.1

-- a gate that is of the same paths
module _ (g k : Standing) (same : k.paths ≡ g.paths) (y : OpId) (h : List Event) (is : legal.Legal g.paths h) (at : IsAt k h) where
  pub admits : (r : Result (Unit {0}) PathId) (u : Unit {0}) → r ≡ Ok u → Judges k y r → legal.Legal g.paths (h ++ Began y ∷ [])
  admits r u e judges = subst (λ xs. legal.Legal xs (h ++ Began y ∷ [])) same (subst (λ q. Judges k y q) e judges h (subst (λ xs. legal.Legal xs h) (sym same) is) at)

  pub first_that_forbids : (r : Result (Unit {0}) PathId) (p : PathId) → r ≡ Err p → Judges k y r → legal.First (legal.Forbids h y) g.paths p.0
  first_that_forbids r p e judges = subst (λ xs. legal.First (legal.Forbids h y) xs p.0) same (subst (λ q. Judges k y q) e judges h (subst (λ xs. legal.Legal xs h) (sym same) is) at)

  pub refuses : (r : Result (Unit {0}) PathId) (p : PathId) → r ≡ Err p → Judges k y r → legal.Legal g.paths (h ++ Began y ∷ []) → ⊥
  refuses r p e judges = not_legal g.paths h y p.0 (first_that_forbids r p e judges)

-- two facts about what has a number
pub at_both : {A : Type 0} (P Q R : A → Type 0) → ((a : A) → P a → Q a → R a) → (p : ℕ) (xs : List (ℕ × A)) → AtNumber P p xs → AtNumber Q p xs → AtNumber R p xs
at_both P Q R so p [] x y = tt
at_both P Q R so p (a ∷ xs) x y = (λ e. so a.1 (x.0 e) (y.0 e), at_both P Q R so p xs x.1 y.1)

not_so : (F G : Type 0) (now then : Bool) → (then ≡ true → now ≡ false → ⊥) → (IsTrue now → F) → (G → IsTrue then) → G → (F → ⊥) → ⊥
not_so F G true then not a b f free = free (a refl)
not_so F G false true not a b f free = not refl refl
not_so F G false false not a b f free = true_false (sym (b f))

-- what two gates tell of a path, the second of them behind a start of x
module _ (g k : Standing) (same : k.paths ≡ g.paths) (y : OpId) (p : ℕ) (now then : Bool) (told : Tells g p y now) (later : Tells k p y then) (h : List Event) (x : OpId)
    (is : legal.Legal g.paths h) (at : IsAt g h) (starts : legal.Legal g.paths (h ++ Began x ∷ [])) (behind : IsAt k (h ++ Began x ∷ [])) where
  told_now : AtNumber (λ s. IsTrue now ↔ legal.Forbids h y s) p (kept [] g.paths)
  told_now = told h is at

  told_then : AtNumber (λ s. IsTrue then ↔ legal.Forbids (h ++ Began x ∷ []) y s) p (kept [] g.paths)
  told_then = subst (λ xs. AtNumber (λ s. IsTrue then ↔ legal.Forbids (h ++ Began x ∷ []) y s) p (kept [] xs)) same
      (later (h ++ Began x ∷ []) (subst (λ xs. legal.Legal xs (h ++ Began x ∷ [])) (sym same) starts) behind)

  pub takes_here : now ≡ false → then ≡ true → AtNumber (λ s. (legal.Forbids h y s → ⊥) × legal.Forbids (h ++ Began x ∷ []) y s) p (kept [] g.paths)
  takes_here free taken = at_both (λ s. IsTrue now ↔ legal.Forbids h y s) (λ s. IsTrue then ↔ legal.Forbids (h ++ Began x ∷ []) y s) (λ s. (legal.Forbids h y s → ⊥) × legal.Forbids (h ++ Began x ∷ []) y s)
      (λ s a b. ((λ f. true_false (sym (a.1 f) ∙ free)), b.0 taken)) p (kept [] g.paths) told_now told_then

  pub nothing_here : (then ≡ true → now ≡ false → ⊥) → AtNumber (λ s. legal.Forbids (h ++ Began x ∷ []) y s → (legal.Forbids h y s → ⊥) → ⊥) p (kept [] g.paths)
  nothing_here not = at_both (λ s. IsTrue now ↔ legal.Forbids h y s) (λ s. IsTrue then ↔ legal.Forbids (h ++ Began x ∷ []) y s) (λ s. legal.Forbids (h ++ Began x ∷ []) y s → (legal.Forbids h y s → ⊥) → ⊥)
      (λ s a b f free. not_so _ _ now then not a.0 b.1 f free) p (kept [] g.paths) told_now told_then
