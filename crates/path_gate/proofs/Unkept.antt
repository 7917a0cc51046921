-- A pass over terms leaves the values that no path keeps as they are.
use Rattle.std.proofs.Common.{◌≡◌, ◌==◌, ◌+◌, ◌-◌, ℕ, cond, Bool, true, false, List, [], ◌∷◌, get_or, refl, ◌∙◌}
use Rattle.std.proofs.lemmas.List.{get_or-set_other}
use Rattle.std.proofs.lemmas.Bool.{cond_both}
use Rattle.path_model.specs.declared.ids.OpId.{OpId}
use Rattle.path_model.specs.Trees.{WellFormed, has}
use Rattle.path_model.specs.Legal as legal
use Rattle.path_model.specs.Machine.{Plain, Braced, Counted}
use Rattle.path_model.specs.Flat.{Sited, bound_number}
use Rattle.path_model.specs.Trimmed.{LeanTerm, nothing, does, limits, lean_prologue, lean_epilogue}
use Rattle.path_model.specs.KeptTerms.{TouchesKept}
use Rattle.path_model.proofs.CallerLemmas.{names_has, trimmed_terms_touch_the_kept}
use Rattle.path_trim.specs.LeanTable.{prologue_left, epilogue_left}
use Rattle.path_gate.specs.Levels.{Levels, taken, given, entered, left, started, finished}
use Rattle.path_gate.specs.Sites.{LeavesSemaphore, LeavesCounter}
use Rattle.path_gate.specs.Inner.Terms.{term_at, terms_at, all_started, all_finished}

-- a number that isn't that of the semaphore keeps its value
entered_leaves : (i c q : ℕ) → (i ≡ q → ⊥) → (v : Levels) → get_or (entered c q v).semaphores i 0 ≡ get_or v.semaphores i 0
entered_leaves i c q n v =
    cond_both (get_or v.counters c 0 == 0) (taken v.semaphores q) v.semaphores (λ xs. get_or xs i 0 ≡ get_or v.semaphores i 0) (λ _. get_or-set_other v.semaphores q i (get_or v.semaphores q 0 - 1) 0 n) (λ _. refl)

left_leaves : (i c q : ℕ) → (i ≡ q → ⊥) → (v : Levels) → get_or (left c q v).semaphores i 0 ≡ get_or v.semaphores i 0
left_leaves i c q n v =
    cond_both (get_or v.counters c 0 == 1) (given v.semaphores q) v.semaphores (λ xs. get_or xs i 0 ≡ get_or v.semaphores i 0) (λ _. get_or-set_other v.semaphores q i (get_or v.semaphores q 0 + 1) 0 n) (λ _. refl)

module _ (x : Sited) (i : ℕ) where
  module _ (free : LeavesSemaphore i x) where
    started_semaphore : (t : LeanTerm) → TouchesKept x.tree t → (v : Levels) → get_or (started (prologue_left x t) v).semaphores i 0 ≡ get_or v.semaphores i 0
    started_semaphore nothing k v = refl
    started_semaphore (does (Plain q)) k v = get_or-set_other v.semaphores (x.own + q) i _ 0 (free.own q k.0 k.1)
    started_semaphore (does (Braced c q)) k v = entered_leaves i (x.first + c) (x.own + q) (free.own q k.1 k.2) v
    started_semaphore (does (Counted c q)) k v =
        entered_leaves i (x.first + c) (x.own + q) (free.own q k.1.0 k.1.1) (record v { semaphores = taken v.semaphores (bound_number x c) }) ∙ get_or-set_other v.semaphores (bound_number x c) i _ 0 (free.limits c k.2)
    started_semaphore (limits c) k v = get_or-set_other v.semaphores (bound_number x c) i _ 0 (free.limits c k)

    finished_semaphore : (t : LeanTerm) → TouchesKept x.tree t → (v : Levels) → get_or (finished (epilogue_left x t) v).semaphores i 0 ≡ get_or v.semaphores i 0
    finished_semaphore nothing k v = refl
    finished_semaphore (does (Plain q)) k v = get_or-set_other v.semaphores (x.own + q) i _ 0 (free.own q k.0 k.1)
    finished_semaphore (does (Braced c q)) k v = left_leaves i (x.first + c) (x.own + q) (free.own q k.1 k.2) v
    finished_semaphore (does (Counted c q)) k v =
        let w : Levels = left (x.first + c) (x.own + q) v in
        get_or-set_other w.semaphores (bound_number x c) i _ 0 (free.limits c k.2) ∙ left_leaves i (x.first + c) (x.own + q) (free.own q k.1.0 k.1.1) v
    finished_semaphore (limits c) k v = get_or-set_other v.semaphores (bound_number x c) i _ 0 (free.limits c k)

  module _ (free : LeavesCounter i x) where
    started_counter : (t : LeanTerm) → TouchesKept x.tree t → (v : Levels) → get_or (started (prologue_left x t) v).counters i 0 ≡ get_or v.counters i 0
    started_counter nothing k v = refl
    started_counter (does (Plain q)) k v = refl
    started_counter (does (Braced c q)) k v = get_or-set_other v.counters (x.first + c) i _ 0 (free.own c k.0.0 k.0.1)
    started_counter (does (Counted c q)) k v = get_or-set_other v.counters (x.first + c) i _ 0 (free.own c k.0.0 k.0.1)
    started_counter (limits c) k v = refl

    finished_counter : (t : LeanTerm) → TouchesKept x.tree t → (v : Levels) → get_or (finished (epilogue_left x t) v).counters i 0 ≡ get_or v.counters i 0
    finished_counter nothing k v = refl
    finished_counter (does (Plain q)) k v = refl
    finished_counter (does (Braced c q)) k v = get_or-set_other v.counters (x.first + c) i _ 0 (free.own c k.0.0 k.0.1)
    finished_counter (does (Counted c q)) k v = get_or-set_other v.counters (x.first + c) i _ 0 (free.own c k.0.0 k.0.1)
    finished_counter (limits c) k v = refl

-- the passes of a start and of a finish
module _ (i : ℕ) (a : OpId) where
  pub starts_leave_semaphore : (xs : List (ℕ × Sited)) → legal.Every (λ x. WellFormed x.tree) xs → legal.Every (LeavesSemaphore i) xs → (v : Levels) → get_or (all_started (terms_at xs a) v).semaphores i 0 ≡ get_or v.semaphores i 0
  starts_leave_semaphore [] wf free v = refl
  starts_leave_semaphore (x ∷ xs) wf free v = go (has x.1.tree a) refl (λ u. starts_leave_semaphore xs wf.1 free.1 u)
    where
      go : (b : Bool) → has x.1.tree a ≡ b → ((u : Levels) → get_or (all_started (terms_at xs a) u).semaphores i 0 ≡ get_or u.semaphores i 0) → get_or (all_started (cond b (term_at x a ∷ terms_at xs a) (terms_at xs a)) v).semaphores i 0 ≡ get_or v.semaphores i 0
      go true h rest = rest (started (prologue_left x.1 (lean_prologue x.1.tree a)) v)
          ∙ started_semaphore x.1 i free.0 (lean_prologue x.1.tree a) (trimmed_terms_touch_the_kept x.1.tree wf.0 a (names_has x.1.tree a h)).0 v
      go false h rest = rest v

  pub starts_leave_counter : (xs : List (ℕ × Sited)) → legal.Every (λ x. WellFormed x.tree) xs → legal.Every (LeavesCounter i) xs → (v : Levels) → get_or (all_started (terms_at xs a) v).counters i 0 ≡ get_or v.counters i 0
  starts_leave_counter [] wf free v = refl
  starts_leave_counter (x ∷ xs) wf free v = go (has x.1.tree a) refl (λ u. starts_leave_counter xs wf.1 free.1 u)
    where
      go : (b : Bool) → has x.1.tree a ≡ b → ((u : Levels) → get_or (all_started (terms_at xs a) u).counters i 0 ≡ get_or u.counters i 0) → get_or (all_started (cond b (term_at x a ∷ terms_at xs a) (terms_at xs a)) v).counters i 0 ≡ get_or v.counters i 0
      go true h rest = rest (started (prologue_left x.1 (lean_prologue x.1.tree a)) v)
          ∙ started_counter x.1 i free.0 (lean_prologue x.1.tree a) (trimmed_terms_touch_the_kept x.1.tree wf.0 a (names_has x.1.tree a h)).0 v
      go false h rest = rest v

  pub ends_leave_semaphore : (xs : List (ℕ × Sited)) → legal.Every (λ x. WellFormed x.tree) xs → legal.Every (LeavesSemaphore i) xs → (v : Levels) → get_or (all_finished (terms_at xs a) v).semaphores i 0 ≡ get_or v.semaphores i 0
  ends_leave_semaphore [] wf free v = refl
  ends_leave_semaphore (x ∷ xs) wf free v = go (has x.1.tree a) refl (λ u. ends_leave_semaphore xs wf.1 free.1 u)
    where
      go : (b : Bool) → has x.1.tree a ≡ b → ((u : Levels) → get_or (all_finished (terms_at xs a) u).semaphores i 0 ≡ get_or u.semaphores i 0) → get_or (all_finished (cond b (term_at x a ∷ terms_at xs a) (terms_at xs a)) v).semaphores i 0 ≡ get_or v.semaphores i 0
      go true h rest = rest (finished (epilogue_left x.1 (lean_epilogue x.1.tree a)) v)
          ∙ finished_semaphore x.1 i free.0 (lean_epilogue x.1.tree a) (trimmed_terms_touch_the_kept x.1.tree wf.0 a (names_has x.1.tree a h)).1 v
      go false h rest = rest v

  pub ends_leave_counter : (xs : List (ℕ × Sited)) → legal.Every (λ x. WellFormed x.tree) xs → legal.Every (LeavesCounter i) xs → (v : Levels) → get_or (all_finished (terms_at xs a) v).counters i 0 ≡ get_or v.counters i 0
  ends_leave_counter [] wf free v = refl
  ends_leave_counter (x ∷ xs) wf free v = go (has x.1.tree a) refl (λ u. ends_leave_counter xs wf.1 free.1 u)
    where
      go : (b : Bool) → has x.1.tree a ≡ b → ((u : Levels) → get_or (all_finished (terms_at xs a) u).counters i 0 ≡ get_or u.counters i 0) → get_or (all_finished (cond b (term_at x a ∷ terms_at xs a) (terms_at xs a)) v).counters i 0 ≡ get_or v.counters i 0
      go true h rest = rest (finished (epilogue_left x.1 (lean_epilogue x.1.tree a)) v)
          ∙ finished_counter x.1 i free.0 (lean_epilogue x.1.tree a) (trimmed_terms_touch_the_kept x.1.tree wf.0 a (names_has x.1.tree a h)).1 v
      go false h rest = rest v
