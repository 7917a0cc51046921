-- A gate that was just opened is at the empty history.
use Rattle.std.proofs.Common.{◌≡◌, ◌⊎◌, ◌==◌, ◌||◌, ◌+◌, ◌<◌, ℕ, cond, Bool, true, false, List, [], ◌∷◌, ◌++◌, length, map, get_or, replicate, arith, refl, sym, ap, ◌∙◌, subst, inl, inr, All, Some, None}
use Rattle.std.proofs.lemmas.List.{length-replicate}
use Rattle.std.proofs.lemmas.List.Elements.{All-nil, All-cons, All-head, All-tail}
use Rattle.std.proofs.lemmas.Bool.{cases_Bool, cond-true, cond-false, eq-eqb, ne_eqb}
use Rattle.path_model.specs.declared.ids.OpId.{OpId}
use Rattle.path_model.specs.declared.ids.PathId.{PathId}
use Rattle.path_model.specs.Trees.{Tree, op, seq, alt, burst, Names, NoRepeats, WellFormed, has}
use Rattle.path_model.specs.Legal as legal
use Rattle.path_model.specs.Flat.{Sited, sited}
use Rattle.path_model.specs.Trimmed.{same_tree, stands_in}
use Rattle.path_model.proofs.CallerLemmas.{has_names, names_has, every_both, same_tree_same}
use Rattle.path_code.specs.Names.{names_in}
use Rattle.path_trim.specs.Compared.{first_with, compared_after, site_left, sites_left, kept_sites}
use Rattle.path_trim.specs.LawfulTrees.{LawfulTrees}
use Rattle.path_trim.specs.LeanTable.{LeanRow, op_left, lean_row, lean_table}
use Rattle.path_gate.specs.declared.gate.Term.{Term}
use Rattle.path_gate.specs.Levels.{levels}
use Rattle.path_gate.specs.Sites.{unlike, kept_paths}
use Rattle.path_gate.specs.Standings.{Standing, IsAt}
use Rattle.path_gate.specs.Inner.Terms.{term_at, terms_at}
use Rattle.path_gate.specs.Inner.Soundness.{IsSound}
use Rattle.path_gate.specs.Inner.Initial.{ops_terms, rows_terms, semaphores_put, counters_put, IsBelow}
use Rattle.path_gate.proofs.KeptPaths.{rising_kept, every_kept}
use Rattle.path_gate.proofs.Pasts.{one_history}
use Rattle.path_gate.proofs.OpeningValues.{zeros, SemaphoresOpen, CountersOpen, semaphores_opened, counters_opened, shows_opened, places_opened}
use Rattle.path_gate.proofs.UnkeptOpen.{semaphores_zero, counters_zero}

true_false : true ≡ false → ⊥
true_false z = cc

-- both ways of leaving out equal trees agree
abbrev IsNew : List (ℕ × Sited) → List Tree → Type 0
IsNew earlier seen = (s : Tree) → ((first_with s earlier ≡ None) × (stands_in s seen ≡ false)) ⊎ ((q : ℕ) × (first_with s earlier ≡ Some q) × (stands_in s seen ≡ true))

found_later : (s : Tree) (earlier : List (ℕ × Sited)) (x : ℕ × Sited) (q : ℕ) → first_with s earlier ≡ Some q → first_with s (earlier ++ x ∷ []) ≡ Some q
found_later s [] x q e = absurd (cc)
found_later s (y ∷ ys) x q e = go (same_tree s y.1.tree) e (found_later s ys x q)
  where
    go : (b : Bool) → cond b (Some y.0) (first_with s ys) ≡ Some q → (first_with s ys ≡ Some q → first_with s (ys ++ x ∷ []) ≡ Some q) → cond b (Some y.0) (first_with s (ys ++ x ∷ [])) ≡ Some q
    go true e r = e
    go false e r = r e

found_last : (s : Tree) (earlier : List (ℕ × Sited)) (x : ℕ × Sited) → first_with s earlier ≡ None → first_with s (earlier ++ x ∷ []) ≡ cond (same_tree s x.1.tree) (Some x.0) None
found_last s [] x e = refl
found_last s (y ∷ ys) x e = go (same_tree s y.1.tree) e (found_last s ys x)
  where
    go : (b : Bool) → cond b (Some y.0) (first_with s ys) ≡ None → (first_with s ys ≡ None → first_with s (ys ++ x ∷ []) ≡ cond (same_tree s x.1.tree) (Some x.0) None)
        → cond b (Some y.0) (first_with s (ys ++ x ∷ [])) ≡ cond (same_tree s x.1.tree) (Some x.0) None
    go true e r = absurd (cc)
    go false e r = r e

-- a path that is kept is seen from then on
new_seen : (earlier : List (ℕ × Sited)) (seen : List Tree) (x : ℕ × Sited) → IsNew earlier seen → IsNew (earlier ++ x ∷ []) (x.1.tree ∷ seen)
new_seen earlier seen x n s = go (n s) (same_tree s x.1.tree) refl
  where
    go : ((first_with s earlier ≡ None) × (stands_in s seen ≡ false)) ⊎ ((q : ℕ) × (first_with s earlier ≡ Some q) × (stands_in s seen ≡ true)) → (b : Bool) → same_tree s x.1.tree ≡ b
        → ((first_with s (earlier ++ x ∷ []) ≡ None) × (stands_in s (x.1.tree ∷ seen) ≡ false)) ⊎ ((q : ℕ) × (first_with s (earlier ++ x ∷ []) ≡ Some q) × (stands_in s (x.1.tree ∷ seen) ≡ true))
    go (inl k) true e = inr (x.0, found_last s earlier x k.0 ∙ cond-true (same_tree s x.1.tree) (Some x.0) None e, ap (λ b. b || stands_in s seen) e)
    go (inl k) false e = inl (found_last s earlier x k.0 ∙ cond-false (same_tree s x.1.tree) (Some x.0) None e, ap (λ b. b || stands_in s seen) e ∙ k.1)
    go (inr k) true e = inr (k.0, found_later s earlier x k.0 k.1, ap (λ b. b || stands_in s seen) e)
    go (inr k) false e = inr (k.0, found_later s earlier x k.0 k.1, ap (λ b. b || stands_in s seen) e ∙ k.2)

-- one that isn't has been seen
new_same : (earlier : List (ℕ × Sited)) (seen : List Tree) (x : ℕ × Sited) → stands_in x.1.tree seen ≡ true → IsNew earlier seen → IsNew (earlier ++ x ∷ []) seen
new_same earlier seen x h n s = go (n s) (same_tree s x.1.tree) refl
  where
    go : ((first_with s earlier ≡ None) × (stands_in s seen ≡ false)) ⊎ ((q : ℕ) × (first_with s earlier ≡ Some q) × (stands_in s seen ≡ true)) → (b : Bool) → same_tree s x.1.tree ≡ b
        → ((first_with s (earlier ++ x ∷ []) ≡ None) × (stands_in s seen ≡ false)) ⊎ ((q : ℕ) × (first_with s (earlier ++ x ∷ []) ≡ Some q) × (stands_in s seen ≡ true))
    go (inl k) true e = absurd (true_false (sym h ∙ ap (λ t. stands_in t seen) (sym (same_tree_same s x.1.tree e)) ∙ k.1))
    go (inl k) false e = inl (found_last s earlier x k.0 ∙ cond-false (same_tree s x.1.tree) (Some x.0) None e, k.1)
    go (inr k) b e = inr (k.0, found_later s earlier x k.0 k.1, k.2)

sites_unlike : (earlier xs : List (ℕ × Sited)) (seen : List Tree) → IsNew earlier seen → sites_left (compared_after earlier xs) ≡ unlike seen xs
sites_unlike earlier [] seen n = refl
sites_unlike earlier (x ∷ xs) seen n = go (n x.1.tree) (λ m. sites_unlike (earlier ++ x ∷ []) xs seen m) (λ m. sites_unlike (earlier ++ x ∷ []) xs (x.1.tree ∷ seen) m)
  where
    go : ((first_with x.1.tree earlier ≡ None) × (stands_in x.1.tree seen ≡ false)) ⊎ ((q : ℕ) × (first_with x.1.tree earlier ≡ Some q) × (stands_in x.1.tree seen ≡ true))
        → (IsNew (earlier ++ x ∷ []) seen → sites_left (compared_after (earlier ++ x ∷ []) xs) ≡ unlike seen xs)
        → (IsNew (earlier ++ x ∷ []) (x.1.tree ∷ seen) → sites_left (compared_after (earlier ++ x ∷ []) xs) ≡ unlike (x.1.tree ∷ seen) xs)
        → site_left x.0 x.1 (first_with x.1.tree earlier) ++ sites_left (compared_after (earlier ++ x ∷ []) xs) ≡ cond (stands_in x.1.tree seen) (unlike seen xs) (x ∷ unlike (x.1.tree ∷ seen) xs)
    go (inl k) f g =
        ap (λ o. site_left x.0 x.1 o ++ sites_left (compared_after (earlier ++ x ∷ []) xs)) k.0
        ∙ ap (λ ys. x ∷ ys) (g (new_seen earlier seen x n)) ∙ sym (cond-false (stands_in x.1.tree seen) (unlike seen xs) (x ∷ unlike (x.1.tree ∷ seen) xs) k.1)
    go (inr k) f g =
        ap (λ o. site_left x.0 x.1 o ++ sites_left (compared_after (earlier ++ x ∷ []) xs)) k.1
        ∙ f (new_same earlier seen x k.2 n) ∙ sym (cond-true (stands_in x.1.tree seen) (unlike seen xs) (x ∷ unlike (x.1.tree ∷ seen) xs) k.2)

pub sites_same : (ss : List Tree) → kept_sites ss ≡ kept_paths (legal.numbered 0 ss)
sites_same ss = sites_unlike [] (sited 0 0 (legal.numbered 0 ss)) [] (λ s. inl (refl, refl))

-- the terms that a path gives an operation: one where it names it
module _ (x : ℕ × Sited) (a : OpId) where
  abbrev path_id : PathId
  path_id = record { 0 = x.0 }

  abbrev given_by : List OpId → List Term
  given_by names = ops_terms path_id (map (op_left x.1) names) a

  given_append : (bs cs : List OpId) → given_by (bs ++ cs) ≡ given_by bs ++ given_by cs
  given_append [] cs = refl
  given_append (b ∷ bs) cs = elim (a.0 == b.0) as (λ d. cond d (term_at x b ∷ given_by (bs ++ cs)) (given_by (bs ++ cs)) ≡ cond d (term_at x b ∷ given_by bs) (given_by bs) ++ given_by cs) [
    | true ↦ ap (λ ts. term_at x b ∷ ts) (given_append bs cs)
    | false ↦ given_append bs cs
  ]

  given_none : (s : Tree) → (Names s a → ⊥) → given_by (names_in s) ≡ []
  given_none (op b) n = cond-false (a.0 == b.0) (term_at x b ∷ []) [] (ne_eqb a.0 b.0 (λ e. n (ap (λ k. record { 0 = k }) e)))
  given_none (seq s t) n = given_append (names_in s) (names_in t) ∙ rw (given_none s (λ k. n (inl k)), given_none t (λ k. n (inr k))) refl
  given_none (alt s t) n = given_append (names_in s) (names_in t) ∙ rw (given_none s (λ k. n (inl k)), given_none t (λ k. n (inr k))) refl
  given_none (burst bd s) n = given_none s n

  given_one : (s : Tree) → NoRepeats s → Names s a → given_by (names_in s) ≡ term_at x a ∷ []
  given_one (op b) nr k = cond-true (a.0 == b.0) (term_at x b ∷ []) [] (eq-eqb a.0 b.0 (ap (λ (o : OpId). o.0) k)) ∙ ap (λ o. term_at x o ∷ []) (sym k)
  given_one (seq s t) nr (inl k) = given_append (names_in s) (names_in t) ∙ rw (given_one s nr.0 k, given_none t (nr.2 a k)) refl
  given_one (seq s t) nr (inr k) = given_append (names_in s) (names_in t) ∙ rw (given_none s (λ z. nr.2 a z k), given_one t nr.1 k) refl
  given_one (alt s t) nr (inl k) = given_append (names_in s) (names_in t) ∙ rw (given_one s nr.0 k, given_none t (nr.2 a k)) refl
  given_one (alt s t) nr (inr k) = given_append (names_in s) (names_in t) ∙ rw (given_none s (λ z. nr.2 a z k), given_one t nr.1 k) refl
  given_one (burst bd s) nr k = given_one s nr k

  given_path : WellFormed x.1.tree → given_by (names_in x.1.tree) ≡ cond (has x.1.tree a) (term_at x a ∷ []) []
  given_path wf = elim (cases_Bool (has x.1.tree a)) [
    | inl h ↦ given_one x.1.tree wf.names_once (names_has x.1.tree a h) ∙ sym (cond-true (has x.1.tree a) (term_at x a ∷ []) [] h)
    | inr h ↦ given_none x.1.tree (λ k. true_false (sym (has_names x.1.tree a k) ∙ h)) ∙ sym (cond-false (has x.1.tree a) (term_at x a ∷ []) [] h)
  ]

cond_front : (b : Bool) (t : Term) (ts : List Term) → cond b (t ∷ []) [] ++ ts ≡ cond b (t ∷ ts) ts
cond_front true t ts = refl
cond_front false t ts = refl

rows_all : (a : OpId) (ys : List (ℕ × Sited)) → legal.Every (λ x. WellFormed x.tree) ys → rows_terms (map lean_row ys) a ≡ terms_at ys a
rows_all a [] wf = refl
rows_all a (y ∷ ys) wf =
    ap (λ ts. ts ++ rows_terms (map lean_row ys) a) (given_path y a wf.0)
    ∙ ap (λ ts. cond (has y.1.tree a) (term_at y a ∷ []) [] ++ ts) (rows_all a ys wf.1)
    ∙ cond_front (has y.1.tree a) (term_at y a) (terms_at ys a)

-- all operations have numbers below 256
abbrev Low : Tree → Type 0
Low s = (a : OpId) → Names s a → a.0 < 256

low_both : (x : Sited) (bs cs : List OpId) → All (IsBelow 256) (map (op_left x) bs) → All (IsBelow 256) (map (op_left x) cs) → All (IsBelow 256) (map (op_left x) (bs ++ cs))
low_both x [] cs p q = q
low_both x (b ∷ bs) cs p q =
    All-cons (IsBelow 256) (op_left x b) (map (op_left x) (bs ++ cs)) (All-head (IsBelow 256) (op_left x b) (map (op_left x) bs) p)
    (low_both x bs cs (All-tail (IsBelow 256) (op_left x b) (map (op_left x) bs) p) q)

low_ops : (x : Sited) (s : Tree) → Low s → All (IsBelow 256) (map (op_left x) (names_in s))
low_ops x (op b) l = All-cons (IsBelow 256) (op_left x b) [] (l b refl) (All-nil (IsBelow 256))
low_ops x (seq s t) l = low_both x (names_in s) (names_in t) (low_ops x s (λ a k. l a (inl k))) (low_ops x t (λ a k. l a (inr k)))
low_ops x (alt s t) l = low_both x (names_in s) (names_in t) (low_ops x s (λ a k. l a (inl k))) (low_ops x t (λ a k. l a (inr k)))
low_ops x (burst bd s) l = low_ops x s l

low_rows : (ys : List (ℕ × Sited)) → legal.Every (λ x. Low x.tree) ys → All (λ r. All (IsBelow 256) r.ops) (map lean_row ys)
low_rows [] e = All-nil (λ (r : LeanRow). All (IsBelow 256) r.ops)
low_rows (y ∷ ys) e = All-cons (λ (r : LeanRow). All (IsBelow 256) r.ops) (lean_row y) (map lean_row ys) (low_ops y.1 y.1.tree e.0) (low_rows ys e.1)

all_every : (P : Tree → Type 0) (n : ℕ) (ss : List Tree) → All P ss → legal.Every P (legal.numbered n ss)
all_every P n [] e = tt
all_every P n (s ∷ ss) e = (All-head P s ss e, all_every P (n + 1) ss (All-tail P s ss e))

-- the table of lawful trees
module _ (ss : List Tree) (L : LawfulTrees ss) where
  abbrev paths : List (ℕ × Tree)
  paths = legal.numbered 0 ss

  formed : legal.Every (λ x. WellFormed x.tree) (kept_paths paths)
  formed = every_kept WellFormed paths L.well_formed

  table_is : lean_table ss ≡ map lean_row (kept_paths paths)
  table_is = ap (map lean_row) (sites_same ss)

  pub table_low : All (λ r. All (IsBelow 256) r.ops) (lean_table ss)
  table_low = subst (All (λ (r : LeanRow). All (IsBelow 256) r.ops)) (sym table_is) (low_rows (kept_paths paths) (every_kept Low paths (all_every Low 0 ss L.few_operations)))

  -- the standing of a gate that was just opened
  abbrev pub opened : Standing
  opened =
      record {
        paths = paths;
        levels = levels (semaphores_put (lean_table ss) []) (counters_put (lean_table ss) []);
        in_progress = replicate 256 0;
        admitted = 0;
      }

  semaphores_open : legal.Every (SemaphoresOpen (semaphores_put (lean_table ss) [])) (kept_paths paths)
  semaphores_open = subst (λ rs. legal.Every (SemaphoresOpen (semaphores_put rs [])) (kept_paths paths)) (sym table_is) (semaphores_opened (kept_paths paths) 0 0 (rising_kept paths) []).0

  counters_open : legal.Every (CountersOpen (counters_put (lean_table ss) [])) (kept_paths paths)
  counters_open = subst (λ rs. legal.Every (CountersOpen (counters_put rs [])) (kept_paths paths)) (sym table_is) (counters_opened (kept_paths paths) 0 0 (rising_kept paths) []).0

  pub opened_at : IsAt opened []
  opened_at = record {
    values = every_both (λ x s c. shows_opened (semaphores_put (lean_table ss) []) (counters_put (lean_table ss) []) x s c) (kept_paths paths) semaphores_open counters_open;
    unkept_semaphores = λ i free. ap (λ rs. get_or (semaphores_put rs []) i 0) table_is ∙ semaphores_zero i (kept_paths paths) [] free;
    unkept_counters = λ i free. counters_zero i (lean_table ss) [] refl;
    progress = λ a n. let z = zeros 256 a.0 in omega arith;
  }

  legal_empty : (xs : List (ℕ × Tree)) → legal.Legal xs []
  legal_empty [] = tt
  legal_empty (x ∷ xs) = (([], ([], refl)), legal_empty xs)

  pub opened_sound : (runs : List (List Term)) → length runs ≡ 256 → ((a : OpId) → get_or runs a.0 [] ≡ rows_terms (lean_table ss) a) → IsSound opened runs
  opened_sound runs rows terms = record {
    well_formed = L.well_formed;
    few_at_once = L.few_at_once;
    terms = λ a. terms a ∙ ap (λ rs. rows_terms rs a) table_is ∙ rows_all a (kept_paths paths) formed;
    counts = length-replicate {A = ℕ} 256 0 ∙ sym rows;
    places = every_both (λ x s c. places_opened (semaphores_put (lean_table ss) []) (counters_put (lean_table ss) []) x s c) (kept_paths paths) semaphores_open counters_open;
    idle = λ a n. zeros 256 a.0;
    pasts = one_history opened [] (legal_empty paths) opened_at refl;
  }
