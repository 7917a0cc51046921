-- Whether one path forbids a start: the numbers of the paths rise, so that a path's own term alone counts.
use Rattle.std.proofs.Common.{◌≡◌, ◌==◌, ◌&&◌, ◌||◌, not, ◌+◌, ◌<◌, ◌≤◌, ℕ, cond, Bool, true, false, List, [], ◌∷◌, length, arith, refl, sym, ap, ◌∙◌, subst, get_or, inl, inr}
use Rattle.std.specs.Prelude.{◌↔◌, IsTrue}
use Rattle.std.proofs.lemmas.Bool.{cases_eq, eq-eqb, ne_eqb}
use Rattle.path_model.specs.declared.ids.OpId.{OpId}
use Rattle.path_model.specs.declared.history.Event.{Event}
use Rattle.path_model.specs.Trees.{Tree, WellFormed, has}
use Rattle.path_model.specs.Legal as legal
use Rattle.path_model.specs.Machine.{braces, Values}
use Rattle.path_model.specs.Flat.{semaphores_in, Sited, sited}
use Rattle.path_model.specs.Trimmed.{stands_in, kept, lean_prologue, LeanBlocks}
use Rattle.path_model.proofs.CallerLemmas.{has_names, names_has, every_to, on_tree, lean_now, lean_after_placed, trimmed_admits_the_words, trimmed_terms_touch_the_kept}
use Rattle.path_trim.specs.LeanTable.{prologue_left}
use Rattle.path_gate.specs.declared.gate.Term.{Term}
use Rattle.path_gate.specs.Levels.{Levels, can_pass}
use Rattle.path_gate.specs.Sites.{unlike, kept_paths, Shows, HasPlaces}
use Rattle.path_gate.specs.Inner.Terms.{term_at, terms_at, is_blocked_at}
use Rattle.path_gate.specs.Inner.Soundness.{IsSound}
use Rattle.path_gate.specs.Standings.{Standing, IsAt, AtNumber, Tells}
use Rattle.path_gate.proofs.OnePath.{passes_to, passes_from}
use Rattle.path_gate.proofs.Passes.{trees_of}
use Rattle.path_gate.proofs.KeptPaths.{every_kept, trees_kept}

true_false : true ≡ false → ⊥
true_false z = cc

-- the numbers rise from k on
abbrev RiseFrom : ℕ → List (ℕ × Sited) → Type 0
RiseFrom k [] = Unit {0}
RiseFrom k (x ∷ xs) = (k ≤ x.0) × RiseFrom (x.0 + 1) xs

from_less : (j k : ℕ) (xs : List (ℕ × Sited)) → j ≤ k → RiseFrom k xs → RiseFrom j xs
from_less j k [] l r = tt
from_less j k (x ∷ xs) l r = ((let r0 = r.0 in omega (arith, l, r0)), r.1)

rising : (ts : List Tree) (n i j : ℕ) (seen : List Tree) → RiseFrom n (unlike seen (sited i j (legal.numbered n ts)))
rising [] n i j seen = tt
rising (t ∷ ts) n i j seen = go (stands_in t seen) (rising ts (n + 1) (i + semaphores_in t) (j + braces t))
  where
    go : (b : Bool) → ((others : List Tree) → RiseFrom (n + 1) (unlike others (sited (i + semaphores_in t) (j + braces t) (legal.numbered (n + 1) ts))))
        → RiseFrom n (cond b (unlike seen (sited (i + semaphores_in t) (j + braces t) (legal.numbered (n + 1) ts))) ((n, record { tree = t; own = i; first = j }) ∷ unlike (t ∷ seen) (sited (i + semaphores_in t) (j + braces t) (legal.numbered (n + 1) ts))))
    go true rest = from_less n (n + 1) _ (omega arith) (rest seen)
    go false rest = (omega arith, rest (t ∷ seen))

-- below the numbers nothing blocks
none_below : (a : OpId) (p k : ℕ) (ys : List (ℕ × Sited)) (v : Levels) → p < k → RiseFrom k ys → is_blocked_at p (terms_at ys a) v ≡ false
none_below a p k [] v l r = refl
none_below a p k (y ∷ ys) v l r = go (has y.1.tree a) (none_below a p (y.0 + 1) ys v (let r0 = r.0 in omega (arith, l, r0)) r.1)
  where
    go : (b : Bool) → is_blocked_at p (terms_at ys a) v ≡ false → is_blocked_at p (cond b (term_at y a ∷ terms_at ys a) (terms_at ys a)) v ≡ false
    go true rest = (let other : (y.0 == p) ≡ false = ne_eqb y.0 p (λ e. (let r0 = r.0 in omega (arith, l, r0, e))) in ap (λ b. (b && not (can_pass (prologue_left y.1 (lean_prologue y.1.tree a)) v)) || is_blocked_at p (terms_at ys a) v) other ∙ rest)
    go false rest = rest

-- a fact on what has this number, where nothing has it
none_at : (P : Tree → Type 0) (p k : ℕ) (ys : List (ℕ × Sited)) → p < k → RiseFrom k ys → AtNumber P p (trees_of ys)
none_at P p k [] l r = tt
none_at P p k (y ∷ ys) l r = (λ e. absurd (let r0 = r.0 in omega (arith, l, r0, e)), none_at P p (y.0 + 1) ys (let r0 = r.0 in omega (arith, l, r0)) r.1)

-- one path, whose number is asked or not
module _ (a : OpId) (f : Tree → Values) (p : ℕ) (y : ℕ × Sited) (ys : List (ℕ × Sited)) (r : RiseFrom (y.0 + 1) ys) (wf : WellFormed y.1.tree) (v : Levels) (S : Shows v (f y.1.tree) y.1) (P : HasPlaces (length v.semaphores) (length v.counters) y.1) (b : Bool) where
  none_later : y.0 ≡ p → is_blocked_at p (terms_at ys a) v ≡ false
  none_later here = none_below a p (y.0 + 1) ys v (omega (arith, here)) r

  passing : y.0 ≡ p → has y.1.tree a ≡ true → (d : Bool) → can_pass (prologue_left y.1 (lean_prologue y.1.tree a)) v ≡ d → ((y.0 == p) && not d) || is_blocked_at p (terms_at ys a) v ≡ b
      → IsTrue b ↔ LeanBlocks a (on_tree f y.1.tree)
  passing here h true c s =
      let free : b ≡ false = sym s ∙ ap (λ t. (t && false) || is_blocked_at p (terms_at ys a) v) (eq-eqb y.0 p here) ∙ none_later here in (
        λ t. absurd (true_false (sym t ∙ free)),
        λ l. absurd (l.1 (passes_to y.1 v (f y.1.tree) S P (lean_prologue y.1.tree a) (trimmed_terms_touch_the_kept y.1.tree wf a (names_has y.1.tree a h)).0 c)),
      )
  passing here h false c s =
      let held : b ≡ true = sym s ∙ ap (λ t. (t && true) || is_blocked_at p (terms_at ys a) v) (eq-eqb y.0 p here) in (
        λ t. (names_has y.1.tree a h, λ q. true_false (sym (passes_from y.1 v (f y.1.tree) S P (lean_prologue y.1.tree a) (trimmed_terms_touch_the_kept y.1.tree wf a (names_has y.1.tree a h)).0 q) ∙ c)),
        λ l. held,
      )

  asked : y.0 ≡ p → (n : Bool) → has y.1.tree a ≡ n → is_blocked_at p (cond n (term_at y a ∷ terms_at ys a) (terms_at ys a)) v ≡ b → IsTrue b ↔ LeanBlocks a (on_tree f y.1.tree)
  asked here true h s = passing here h (can_pass (prologue_left y.1 (lean_prologue y.1.tree a)) v) refl s
  asked here false h s = (
    λ t. absurd (true_false (sym t ∙ sym s ∙ none_later here)),
    λ l. absurd (true_false (sym (has_names y.1.tree a l.0) ∙ h)),
  )

  unasked : (y.0 ≡ p → ⊥) → (n : Bool) → is_blocked_at p (cond n (term_at y a ∷ terms_at ys a) (terms_at ys a)) v ≡ b → is_blocked_at p (terms_at ys a) v ≡ b
  unasked other true s = sym (ap (λ t. (t && not (can_pass (prologue_left y.1 (lean_prologue y.1.tree a)) v)) || is_blocked_at p (terms_at ys a) v) (ne_eqb y.0 p other)) ∙ s
  unasked other false s = s

-- the answer is that of the path with the number
blocked_at : (a : OpId) (f : Tree → Values) (p k : ℕ) (ys : List (ℕ × Sited)) → RiseFrom k ys → legal.Every (λ x. WellFormed x.tree) ys → (v : Levels) → legal.Every (λ x. Shows v (f x.tree) x) ys
    → legal.Every (λ x. HasPlaces (length v.semaphores) (length v.counters) x) ys → (b : Bool) → is_blocked_at p (terms_at ys a) v ≡ b
    → AtNumber (λ s. IsTrue b ↔ LeanBlocks a (on_tree f s)) p (trees_of ys)
blocked_at a f p k [] r wf v S P b e = tt
blocked_at a f p k (y ∷ ys) r wf v S P b e = elim (cases_eq y.0 p) [
  | inl here ↦ (λ _. asked a f p y ys r.1 wf.0 v S.0 P.0 b here (has y.1.tree a) refl e, none_at (λ s. IsTrue b ↔ LeanBlocks a (on_tree f s)) p (y.0 + 1) ys (omega (arith, here)) r.1)
  | inr other ↦ (λ here. absurd (other here), blocked_at a f p (y.0 + 1) ys r.1 wf.1 v S.1 P.1 b (unasked a f p y ys r.1 wf.0 v S.0 P.0 b other (has y.1.tree a) e))
]

-- a fact on what has a number in other words
in_words : (b : Bool) (P Q : Tree → Type 0) (p : ℕ) (xs : List (ℕ × Tree)) → legal.Every (λ s. P s ↔ Q s) xs → AtNumber (λ s. IsTrue b ↔ P s) p xs → AtNumber (λ s. IsTrue b ↔ Q s) p xs
in_words b P Q p [] e k = tt
in_words b P Q p (x ∷ xs) e k = (λ here. (λ t. e.0.0 ((k.0 here).0 t), λ q. (k.0 here).1 (e.0.1 q)), in_words b P Q p xs e.1 k.1)

module _ (g : Standing) (by_op : List (List Term)) (S : IsSound g by_op) (a : OpId) (terms : List Term) (run : terms ≡ get_or by_op a.0 []) (ts : List Tree) (same : g.paths ≡ legal.numbered 0 ts) where
  by_semaphores : (h : List Event) → IsAt g h → (p : ℕ) (told : Bool) → told ≡ is_blocked_at p terms g.levels → AtNumber (λ s. IsTrue told ↔ LeanBlocks a (on_tree (lean_now h) s)) p (kept [] g.paths)
  by_semaphores h now p told e =
      subst (λ xs. AtNumber (λ s. IsTrue told ↔ LeanBlocks a (on_tree (lean_now h) s)) p xs) (trees_kept g.paths)
      (blocked_at a (lean_now h) p 0 (kept_paths g.paths) (subst (λ xs. RiseFrom 0 (kept_paths xs)) (sym same) (rising ts 0 0 0 [])) (every_kept WellFormed g.paths S.well_formed) g.levels now.values S.places told
      (sym (e ∙ ap (λ t. is_blocked_at p t g.levels) (run ∙ S.terms a))))

  pub tells : (p : ℕ) (told : Bool) → told ≡ is_blocked_at p terms g.levels → Tells g p a told
  tells p told e h l now =
      in_words told (λ s. LeanBlocks a (on_tree (lean_now h) s)) (legal.Forbids h a) p (kept [] g.paths)
      (every_to (λ r. LeanBlocks a r ↔ legal.Forbids h a r.tree) (lean_now h) (kept [] g.paths) (subst (λ m. legal.Every (λ r. LeanBlocks a r ↔ legal.Forbids h a r.tree) m) (lean_after_placed g.paths h) (trimmed_admits_the_words g.paths S.well_formed h l a).each))
      (by_semaphores h now p told e)
