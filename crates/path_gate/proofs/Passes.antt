-- Passes over paths whose numbers rise: each term moves its own path, and the first that can't pass is that of the first path that blocks.
use Rattle.std.proofs.Common.{◌≡◌, ◌+◌, ◌<◌, ◌≤◌, ℕ, cond, Bool, true, false, List, [], ◌∷◌, length, get_or, arith, refl, sym, ◌∙◌, subst, Option, Some, None, All, inl, inr}
use Rattle.std.specs.Prelude.{MatchOption}
use Rattle.std.proofs.lemmas.List.Elements.{All-nil, All-cons}
use Rattle.path_model.specs.declared.ids.OpId.{OpId}
use Rattle.path_model.specs.declared.ids.PathId.{PathId}
use Rattle.path_model.specs.declared.history.Event.{Event}
use Rattle.path_model.specs.declared.history.Event.TheVariants.{Began, Ended}
use Rattle.path_model.specs.Trees.{Tree, Names, WellFormed, has}
use Rattle.path_model.specs.Histories.{op_of}
use Rattle.path_model.specs.Legal as legal
use Rattle.path_model.specs.Machine.{braces, Values}
use Rattle.path_model.specs.Flat.{semaphores_in, Sited, bound_number}
use Rattle.path_model.specs.Trimmed.{lean_prologue, lean_epilogue, LeanPasses, lean_changed, LeanBlocks}
use Rattle.path_model.specs.KeptTerms.{TouchesKept}
use Rattle.path_model.proofs.CallerLemmas.{has_names, names_has, on_tree, rank_low, trimmed_terms_touch_the_kept}
use Rattle.path_trim.specs.LeanTable.{prologue_left, epilogue_left}
use Rattle.path_gate.specs.Levels.{Levels, can_pass, started, finished}
use Rattle.path_gate.specs.Sites.{Shows, HasPlaces}
use Rattle.path_gate.specs.Inner.Terms.{term_at, terms_at, blocking, all_started, all_finished, CanStartAll, CanFinishAll, IsWithin}
use Rattle.path_gate.proofs.OnePath.{StartFits, FinishFits, passes_to, passes_from, shows_started, can_start, shows_finished, can_finish, prologue_within, epilogue_within, Off, off_started, off_finished}

true_false : true ≡ false → ⊥
true_false z = cc

-- the values of a path after one more event
abbrev pub next : Event → (Tree → Values) → Tree → Values
next e f s = cond (has s (op_of e)) (lean_changed s e (f s)) (f s)

-- the numbers of the paths rise from k and c on
abbrev pub Rising : ℕ → ℕ → List (ℕ × Sited) → Type 0
Rising k c [] = Unit {0}
Rising k c (x ∷ xs) = (k ≤ x.1.own) × (c ≤ x.1.first) × Rising (x.1.own + semaphores_in x.1.tree) (x.1.first + braces x.1.tree) xs

-- the trees of paths, with the numbers of the paths
abbrev pub trees_of : List (ℕ × Sited) → List (ℕ × Tree)
trees_of [] = []
trees_of (x ∷ xs) = (x.0, x.1.tree) ∷ trees_of xs

-- below k and c the values agree, and there are as many
pub record Low (k c : ℕ) (v w : Levels) : Type 0 where
  pub semaphores : (i : ℕ) → i < k → get_or v.semaphores i 0 ≡ get_or w.semaphores i 0
  pub counters : (i : ℕ) → i < c → get_or v.counters i 0 ≡ get_or w.counters i 0
  pub places : (length v.semaphores ≡ length w.semaphores) × (length v.counters ≡ length w.counters)

low_refl : (k c : ℕ) (v : Levels) → Low k c v v
low_refl k c v = record { semaphores = λ i l. refl; counters = λ i l. refl; places = (refl, refl) }

shows_low : (x : Sited) (u v : Levels) (w : Values) → Low (x.own + semaphores_in x.tree) (x.first + braces x.tree) u v → Shows v w x → Shows u w x
shows_low x u v w L S = record {
  semaphores = λ q l m. L.semaphores (x.own + q) (omega (arith, l)) ∙ S.semaphores q l m;
  counters = λ d l m. L.counters (x.first + d) (omega (arith, l)) ∙ S.counters d l m;
  limits = λ d h. (let l = rank_low x.tree 0 d h in L.semaphores (bound_number x d) (omega (arith, l))) ∙ S.limits d h;
}

low_less : (k c : ℕ) (x : Sited) (u v : Levels) → k ≤ x.own → c ≤ x.first → Low (x.own + semaphores_in x.tree) (x.first + braces x.tree) u v → Low k c u v
low_less k c x u v a b L = record { semaphores = λ i l. L.semaphores i (omega (arith, l, a)); counters = λ i l. L.counters i (omega (arith, l, b)); places = L.places }

low_off : (k c : ℕ) (x : Sited) (t u v : Levels) → k ≤ x.own → c ≤ x.first → Low (x.own + semaphores_in x.tree) (x.first + braces x.tree) t u → Off x u v → Low k c t v
low_off k c x t u v a b L o = record {
  semaphores = λ i l. L.semaphores i (omega (arith, l, a)) ∙ o.semaphores i (inl (omega (arith, l, a)));
  counters = λ i l. L.counters i (omega (arith, l, b)) ∙ o.counters i (inl (omega (arith, l, b)));
  places = (L.places.0 ∙ o.places.0, L.places.1 ∙ o.places.1);
}

-- what later paths show doesn't change with what is below
shows_above : (f : Tree → Values) (xs : List (ℕ × Sited)) (x : Sited) (k c : ℕ) → x.own + semaphores_in x.tree ≤ k → x.first + braces x.tree ≤ c → Rising k c xs
    → (u v : Levels) → Off x u v → legal.Every (λ y. Shows v (f y.tree) y) xs → legal.Every (λ y. Shows u (f y.tree) y) xs
shows_above f [] x k c a b r u v o S = tt
shows_above f (y ∷ ys) x k c a b r u v o S =
    let r0 = r.0 in
    let r1 = r.1 in (
      record {
        semaphores = λ q l m. o.semaphores (y.1.own + q) (inr (omega (arith, a, r0))) ∙ S.0.semaphores q l m;
        counters = λ d l m. o.counters (y.1.first + d) (inr (omega (arith, b, r1))) ∙ S.0.counters d l m;
        limits = λ d h. o.semaphores (bound_number y.1 d) (inr (omega (arith, a, r0))) ∙ S.0.limits d h;
      },
      shows_above f ys x (y.1.own + semaphores_in y.1.tree) (y.1.first + braces y.1.tree) (omega (arith, a, r0)) (omega (arith, b, r1)) r.2 u v o S.1,
    )

abbrev Placed : Levels → List (ℕ × Sited) → Type 0
Placed v xs = legal.Every (λ x. HasPlaces (length v.semaphores) (length v.counters) x) xs

placed_off : (xs : List (ℕ × Sited)) (x : Sited) (u v : Levels) → Off x u v → Placed v xs → Placed u xs
placed_off xs x u v o P =
    subst (λ n. legal.Every (λ y. HasPlaces n (length u.counters) y) xs) (sym o.places.0)
    (subst (λ m. legal.Every (λ y. HasPlaces (length v.semaphores) m y) xs) (sym o.places.1) P)

touch_start : (s : Tree) → WellFormed s → (a : OpId) → has s a ≡ true → TouchesKept s (lean_prologue s a)
touch_start s wf a h = (trimmed_terms_touch_the_kept s wf a (names_has s a h)).0

touch_finish : (s : Tree) → WellFormed s → (a : OpId) → has s a ≡ true → TouchesKept s (lean_epilogue s a)
touch_finish s wf a h = (trimmed_terms_touch_the_kept s wf a (names_has s a h)).1

module _ (a : OpId) (f : Tree → Values) where
  abbrev ShowAll : List (ℕ × Sited) → Levels → Type 0
  ShowAll xs v = legal.Every (λ x. Shows v (f x.tree) x) xs

  -- after a pass the paths show the next values, and nothing changed below
  abbrev pub Moved : Event → List (ℕ × Sited) → ℕ → ℕ → Levels → Levels → Type 0
  Moved e xs k c u v = legal.Every (λ x. Shows u (next e f x.tree) x) xs × Low k c u v

  -- a start
  pub started_moves : (xs : List (ℕ × Sited)) (k c : ℕ) → Rising k c xs → legal.Every (λ x. WellFormed x.tree) xs → (v : Levels) → ShowAll xs v → Placed v xs → Moved (Began a) xs k c (all_started (terms_at xs a) v) v
  started_moves [] k c r wf v S P = (tt, low_refl k c v)
  started_moves (x ∷ xs) k c r wf v S P = go (has x.1.tree a) refl (started_moves xs (x.1.own + semaphores_in x.1.tree) (x.1.first + braces x.1.tree) r.2 wf.1)
    where
      go : (b : Bool) → has x.1.tree a ≡ b
          → ((u : Levels) → ShowAll xs u → Placed u xs → Moved (Began a) xs (x.1.own + semaphores_in x.1.tree) (x.1.first + braces x.1.tree) (all_started (terms_at xs a) u) u)
          → (Shows (all_started (cond b (term_at x a ∷ terms_at xs a) (terms_at xs a)) v) (cond b (lean_changed x.1.tree (Began a) (f x.1.tree)) (f x.1.tree)) x.1
          × legal.Every (λ y. Shows (all_started (cond b (term_at x a ∷ terms_at xs a) (terms_at xs a)) v) (next (Began a) f y.tree) y) xs)
          × Low k c (all_started (cond b (term_at x a ∷ terms_at xs a) (terms_at xs a)) v) v
      go true h rest =
          let t : TouchesKept x.1.tree (lean_prologue x.1.tree a) = touch_start x.1.tree wf.0 a h in
          let u : Levels = started (prologue_left x.1 (lean_prologue x.1.tree a)) v in
          let o : Off x.1 u v = off_started x.1 (lean_prologue x.1.tree a) t v in
          let d = rest u (shows_above f xs x.1 (x.1.own + semaphores_in x.1.tree) (x.1.first + braces x.1.tree) (omega arith) (omega arith) r.2 u v o S.1) (placed_off xs x.1 u v o P.1) in (
            (shows_low x.1 (all_started (terms_at xs a) u) u (lean_changed x.1.tree (Began a) (f x.1.tree)) d.1 (shows_started x.1 v (f x.1.tree) S.0 P.0 (lean_prologue x.1.tree a) t), d.0),
            low_off k c x.1 (all_started (terms_at xs a) u) u v r.0 r.1 d.1 o,
          )
      go false h rest =
          let d = rest v S.1 P.1 in
          ((shows_low x.1 (all_started (terms_at xs a) v) v (f x.1.tree) d.1 S.0, d.0), low_less k c x.1 (all_started (terms_at xs a) v) v r.0 r.1 d.1)

  -- it can be made where each path lets the operation in
  abbrev pub StartReady : List (ℕ × Sited) → Type 0
  StartReady xs = legal.Every (λ x. Names x.tree a → LeanPasses (lean_prologue x.tree a) (f x.tree) × StartFits (lean_prologue x.tree a) (f x.tree)) xs

  pub started_can : (xs : List (ℕ × Sited)) (k c : ℕ) → Rising k c xs → legal.Every (λ x. WellFormed x.tree) xs → (v : Levels) → ShowAll xs v → Placed v xs → StartReady xs → CanStartAll (terms_at xs a) v
  started_can [] k c r wf v S P R = tt
  started_can (x ∷ xs) k c r wf v S P R = go (has x.1.tree a) refl (λ u T Q. started_can xs (x.1.own + semaphores_in x.1.tree) (x.1.first + braces x.1.tree) r.2 wf.1 u T Q R.1)
    where
      go : (b : Bool) → has x.1.tree a ≡ b → ((u : Levels) → ShowAll xs u → Placed u xs → CanStartAll (terms_at xs a) u) → CanStartAll (cond b (term_at x a ∷ terms_at xs a) (terms_at xs a)) v
      go true h rest =
          let t : TouchesKept x.1.tree (lean_prologue x.1.tree a) = touch_start x.1.tree wf.0 a h in
          let u : Levels = started (prologue_left x.1 (lean_prologue x.1.tree a)) v in
          let o : Off x.1 u v = off_started x.1 (lean_prologue x.1.tree a) t v in
          let y = R.0 (names_has x.1.tree a h) in (
            can_start x.1 v (f x.1.tree) S.0 P.0 (lean_prologue x.1.tree a) t y.0 y.1,
            rest u (shows_above f xs x.1 (x.1.own + semaphores_in x.1.tree) (x.1.first + braces x.1.tree) (omega arith) (omega arith) r.2 u v o S.1) (placed_off xs x.1 u v o P.1),
          )
      go false h rest = rest v S.1 P.1

  -- a finish
  pub finished_moves : (xs : List (ℕ × Sited)) (k c : ℕ) → Rising k c xs → legal.Every (λ x. WellFormed x.tree) xs → (v : Levels) → ShowAll xs v → Placed v xs → Moved (Ended a) xs k c (all_finished (terms_at xs a) v) v
  finished_moves [] k c r wf v S P = (tt, low_refl k c v)
  finished_moves (x ∷ xs) k c r wf v S P = go (has x.1.tree a) refl (finished_moves xs (x.1.own + semaphores_in x.1.tree) (x.1.first + braces x.1.tree) r.2 wf.1)
    where
      go : (b : Bool) → has x.1.tree a ≡ b
          → ((u : Levels) → ShowAll xs u → Placed u xs → Moved (Ended a) xs (x.1.own + semaphores_in x.1.tree) (x.1.first + braces x.1.tree) (all_finished (terms_at xs a) u) u)
          → (Shows (all_finished (cond b (term_at x a ∷ terms_at xs a) (terms_at xs a)) v) (cond b (lean_changed x.1.tree (Ended a) (f x.1.tree)) (f x.1.tree)) x.1
          × legal.Every (λ y. Shows (all_finished (cond b (term_at x a ∷ terms_at xs a) (terms_at xs a)) v) (next (Ended a) f y.tree) y) xs)
          × Low k c (all_finished (cond b (term_at x a ∷ terms_at xs a) (terms_at xs a)) v) v
      go true h rest =
          let t : TouchesKept x.1.tree (lean_epilogue x.1.tree a) = touch_finish x.1.tree wf.0 a h in
          let u : Levels = finished (epilogue_left x.1 (lean_epilogue x.1.tree a)) v in
          let o : Off x.1 u v = off_finished x.1 (lean_epilogue x.1.tree a) t v in
          let d = rest u (shows_above f xs x.1 (x.1.own + semaphores_in x.1.tree) (x.1.first + braces x.1.tree) (omega arith) (omega arith) r.2 u v o S.1) (placed_off xs x.1 u v o P.1) in (
            (shows_low x.1 (all_finished (terms_at xs a) u) u (lean_changed x.1.tree (Ended a) (f x.1.tree)) d.1 (shows_finished x.1 v (f x.1.tree) S.0 P.0 (lean_epilogue x.1.tree a) t), d.0),
            low_off k c x.1 (all_finished (terms_at xs a) u) u v r.0 r.1 d.1 o,
          )
      go false h rest =
          let d = rest v S.1 P.1 in
          ((shows_low x.1 (all_finished (terms_at xs a) v) v (f x.1.tree) d.1 S.0, d.0), low_less k c x.1 (all_finished (terms_at xs a) v) v r.0 r.1 d.1)

  -- it can be made where each path has an execution of the operation
  abbrev pub FinishReady : List (ℕ × Sited) → Type 0
  FinishReady xs = legal.Every (λ x. Names x.tree a → FinishFits (lean_epilogue x.tree a) (f x.tree)) xs

  pub finished_can : (xs : List (ℕ × Sited)) (k c : ℕ) → Rising k c xs → legal.Every (λ x. WellFormed x.tree) xs → (v : Levels) → ShowAll xs v → Placed v xs → FinishReady xs → CanFinishAll (terms_at xs a) v
  finished_can [] k c r wf v S P R = tt
  finished_can (x ∷ xs) k c r wf v S P R = go (has x.1.tree a) refl (λ u T Q. finished_can xs (x.1.own + semaphores_in x.1.tree) (x.1.first + braces x.1.tree) r.2 wf.1 u T Q R.1)
    where
      go : (b : Bool) → has x.1.tree a ≡ b → ((u : Levels) → ShowAll xs u → Placed u xs → CanFinishAll (terms_at xs a) u) → CanFinishAll (cond b (term_at x a ∷ terms_at xs a) (terms_at xs a)) v
      go true h rest =
          let t : TouchesKept x.1.tree (lean_epilogue x.1.tree a) = touch_finish x.1.tree wf.0 a h in
          let u : Levels = finished (epilogue_left x.1 (lean_epilogue x.1.tree a)) v in
          let o : Off x.1 u v = off_finished x.1 (lean_epilogue x.1.tree a) t v in (
            can_finish x.1 v (f x.1.tree) S.0 P.0 (lean_epilogue x.1.tree a) t (R.0 (names_has x.1.tree a h)),
            rest u (shows_above f xs x.1 (x.1.own + semaphores_in x.1.tree) (x.1.first + braces x.1.tree) (omega arith) (omega arith) r.2 u v o S.1) (placed_off xs x.1 u v o P.1),
          )
      go false h rest = rest v S.1 P.1

-- the first path that has the property, or none
abbrev pub IsFirst : (Tree → Type 0) → List (ℕ × Tree) → Option PathId → Type 0
IsFirst P xs result = MatchOption result (legal.NoneOf P xs) (λ p. legal.First P xs p.0)

later : (P : Tree → Type 0) (x : ℕ × Tree) (xs : List (ℕ × Tree)) (result : Option PathId) → (P x.1 → ⊥) → IsFirst P xs result → IsFirst P (x ∷ xs) result
later P x xs None n r = (n, r)
later P x xs (Some p) n r = inr (n, r)

-- the checking pass names the first path that blocks
pub blocking_first : (a : OpId) (f : Tree → Values) (xs : List (ℕ × Sited)) → legal.Every (λ x. WellFormed x.tree) xs → (v : Levels) → legal.Every (λ x. Shows v (f x.tree) x) xs → Placed v xs
    → IsFirst (λ s. LeanBlocks a (on_tree f s)) (trees_of xs) (blocking (terms_at xs a) v)
blocking_first a f [] wf v S P = tt
blocking_first a f (x ∷ xs) wf v S P = go (has x.1.tree a) refl (blocking_first a f xs wf.1 v S.1 P.1)
  where
    at : IsFirst (λ s. LeanBlocks a (on_tree f s)) (trees_of xs) (blocking (terms_at xs a) v) → has x.1.tree a ≡ true → (d : Bool) → can_pass (prologue_left x.1 (lean_prologue x.1.tree a)) v ≡ d → IsFirst (λ s. LeanBlocks a (on_tree f s)) ((x.0, x.1.tree) ∷ trees_of xs) (cond d (blocking (terms_at xs a) v) (Some (record { 0 = x.0 })))
    at rest h true e = later (λ s. LeanBlocks a (on_tree f s)) (x.0, x.1.tree) (trees_of xs) (blocking (terms_at xs a) v) (λ b. b.1 (passes_to x.1 v (f x.1.tree) S.0 P.0 (lean_prologue x.1.tree a) (touch_start x.1.tree wf.0 a h) e)) rest
    at rest h false e = inl ((names_has x.1.tree a h, λ p. true_false (sym (passes_from x.1 v (f x.1.tree) S.0 P.0 (lean_prologue x.1.tree a) (touch_start x.1.tree wf.0 a h) p) ∙ e)), refl)

    go : (b : Bool) → has x.1.tree a ≡ b → IsFirst (λ s. LeanBlocks a (on_tree f s)) (trees_of xs) (blocking (terms_at xs a) v) → IsFirst (λ s. LeanBlocks a (on_tree f s)) ((x.0, x.1.tree) ∷ trees_of xs) (blocking (cond b (term_at x a ∷ terms_at xs a) (terms_at xs a)) v)
    go true h rest = at rest h (can_pass (prologue_left x.1 (lean_prologue x.1.tree a)) v) refl
    go false h rest = later (λ s. LeanBlocks a (on_tree f s)) (x.0, x.1.tree) (trees_of xs) (blocking (terms_at xs a) v) (λ b. true_false (sym (has_names x.1.tree a b.0) ∙ h)) rest

-- the numbers of all terms stand in the table
pub all_within : (n m : ℕ) (a : OpId) (xs : List (ℕ × Sited)) → legal.Every (λ x. WellFormed x.tree) xs → legal.Every (λ x. HasPlaces n m x) xs → All (IsWithin n m) (terms_at xs a)
all_within n m a [] wf P = All-nil (IsWithin n m)
all_within n m a (x ∷ xs) wf P = go (has x.1.tree a) refl (all_within n m a xs wf.1 P.1)
  where
    go : (b : Bool) → has x.1.tree a ≡ b → All (IsWithin n m) (terms_at xs a) → All (IsWithin n m) (cond b (term_at x a ∷ terms_at xs a) (terms_at xs a))
    go true h rest = All-cons (IsWithin n m) (term_at x a) (terms_at xs a) (record {
      prologue = prologue_within x.1 n m P.0 (lean_prologue x.1.tree a) (touch_start x.1.tree wf.0 a h);
      epilogue = epilogue_within x.1 n m P.0 (lean_epilogue x.1.tree a) (touch_finish x.1.tree wf.0 a h);
    }) rest
    go false h rest = rest
