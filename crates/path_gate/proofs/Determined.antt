-- At a history a gate has the same values, however it came there.
use Rattle.std.proofs.Common.{◌≡◌, ℕ, List, length, get_or, sym, subst, ◌∙◌, inl, inr}
use Rattle.std.proofs.lemmas.Bool.{cases_eq}
use Rattle.std.proofs.lemmas.List.{ext_get_or}
use Rattle.path_model.specs.declared.history.Event.{Event}
use Rattle.path_model.specs.Legal as legal
use Rattle.path_model.specs.Machine.{opening}
use Rattle.path_model.specs.Trimmed.{lean_among}
use Rattle.path_model.proofs.CallerLemmas.{every_both}
use Rattle.path_gate.specs.Sites.{kept_paths, Shows, LeavesSemaphore, LeavesCounter}
use Rattle.path_gate.specs.Standings.{Standing, IsAt}

module _ (g k : Standing) (paths : k.paths ≡ g.paths) (h : List Event) (at : IsAt g h) (other : IsAt k h) where
  shows_other : legal.Every (λ x. Shows k.levels (lean_among x.tree (opening x.tree) h) x) (kept_paths g.paths)
  shows_other = subst (λ xs. legal.Every (λ x. Shows k.levels (lean_among x.tree (opening x.tree) h) x) (kept_paths xs)) paths other.values

  one_semaphore : (i : ℕ) → get_or g.levels.semaphores i 0 ≡ get_or k.levels.semaphores i 0
  one_semaphore i = elim (cases_eq (get_or g.levels.semaphores i 0) (get_or k.levels.semaphores i 0)) [
    | inl same ↦ same
    | inr apart ↦
        let unkept : legal.Every (LeavesSemaphore i) (kept_paths g.paths) =
        every_both (λ x s t. record {
          own = λ q l keeps is. apart (subst (λ j. get_or g.levels.semaphores j 0 ≡ get_or k.levels.semaphores j 0) (sym is) (s.semaphores q l keeps ∙ sym (t.semaphores q l keeps)));
          limits = λ c has is. apart (subst (λ j. get_or g.levels.semaphores j 0 ≡ get_or k.levels.semaphores j 0) (sym is) (s.limits c has ∙ sym (t.limits c has)));
        }) (kept_paths g.paths) at.values shows_other in
        at.unkept_semaphores i unkept ∙ sym (other.unkept_semaphores i (subst (λ xs. legal.Every (LeavesSemaphore i) (kept_paths xs)) (sym paths) unkept))
  ]

  one_counter : (i : ℕ) → get_or g.levels.counters i 0 ≡ get_or k.levels.counters i 0
  one_counter i = elim (cases_eq (get_or g.levels.counters i 0) (get_or k.levels.counters i 0)) [
    | inl same ↦ same
    | inr apart ↦
        let unkept : legal.Every (LeavesCounter i) (kept_paths g.paths) =
        every_both (λ x s t. record {
          own = λ c l keeps is. apart (subst (λ j. get_or g.levels.counters j 0 ≡ get_or k.levels.counters j 0) (sym is) (s.counters c l keeps ∙ sym (t.counters c l keeps)));
        }) (kept_paths g.paths) at.values shows_other in
        at.unkept_counters i unkept ∙ sym (other.unkept_counters i (subst (λ xs. legal.Every (LeavesCounter i) (kept_paths xs)) (sym paths) unkept))
  ]

  pub same_semaphores : length g.levels.semaphores ≡ length k.levels.semaphores → g.levels.semaphores ≡ k.levels.semaphores
  same_semaphores long = ext_get_or 0 g.levels.semaphores k.levels.semaphores long (λ i l. one_semaphore i)

  pub same_counters : length g.levels.counters ≡ length k.levels.counters → g.levels.counters ≡ k.levels.counters
  same_counters long = ext_get_or 0 g.levels.counters k.levels.counters long (λ i l. one_counter i)
