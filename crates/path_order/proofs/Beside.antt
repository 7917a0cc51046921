-- Spare gates of a declaration fit a gate of it that has as many places.
use Rattle.std.proofs.Common.{◌≡◌, ◌<◌, ℕ, List, [], take, ap, sym, subst, ◌∙◌, Result, Ok, Err, Option}
use Rattle.std.specs.Prelude.{IfOk}
use Rattle.path_model.specs.declared.ids.OpId.{OpId}
use Rattle.path_model.specs.declared.memory.OutOfMemory.{OutOfMemory}
use Rattle.path_model.specs.declared.history.Event.{Event}
use Rattle.path_model.specs.Trees.{Tree, WellFormed}
use Rattle.path_model.specs.Legal as legal
use Rattle.path_model.specs.Declarations.{Declaration, paths_of}
use Rattle.path_decl.specs.Lawful.{Lawful}
use Rattle.path_gate.specs.Standings.{Standing, IsNamed, SamePlaces}
use Rattle.path_gate.proofs.CallerLemmas.{named_declared}
use Rattle.path_order.specs.declared.waiting.Waiter.{Waiter}
use Rattle.path_order.specs.declared.ruling.Ruling.{Ruling}
use Rattle.path_order.specs.declared.spare.Spares.{Spares}
use Rattle.path_order.specs.Waiting.{ops_of}
use Rattle.path_order.specs.Rulings.{IsRuled, IsNext, IsFirstAdmissible}
use Rattle.path_order.specs.Beside.{Fits, AreReady, AreOf}
use Rattle.path_order.proofs.Stalls.{first_is_next}

module _ {Y : Type 0} (g : Standing) (s : Spares Y) (d : Declaration) (lawful : Lawful d) (are : AreOf d s) (paths : g.paths ≡ paths_of d) where
  fits_so : (spare : Standing) → spare.paths ≡ paths_of d → SamePlaces g spare → Fits g spare s.operations
  fits_so spare of places = record {
    paths = of ∙ sym paths;
    semaphores = places.semaphores;
    counters = places.counters;
    named = λ a named. subst (λ n. a.0 < n) (sym are.operations) (named_declared d lawful a (subst (λ xs. IsNamed xs a) paths named));
    well_formed = subst (legal.Every WellFormed) (sym paths) lawful.well_formed;
  }

  pub ready_if : SamePlaces g s.clear → SamePlaces g s.behind → AreReady g s
  ready_if clear behind = record { clear = fits_so s.clear are.clear clear; behind = fits_so s.behind are.behind behind }

-- what is ruled behind equal lists, of as many paths
module _ (xs : List (ℕ × Tree)) (L A : List Event → Type 0) (w : Waiter) (run : List OpId) (r : Result Ruling OutOfMemory) where
  pub ruled_as : (n m : ℕ) (ahead : List Waiter) → IfOk r (λ ruling. (h : List Event) → L h → A h → IsRuled xs n h run ahead w ruling) → n ≡ m
      → (i j : ℕ) (ws : List Waiter) → ahead ≡ take i ws → i ≡ j → IfOk r (λ ruling. (h : List Event) → L h → A h → IsRuled xs m h run (take j ws) w ruling)
  ruled_as n m ahead ruled paths i j ws is places =
      subst (λ k. IfOk r (λ ruling. (h : List Event) → L h → A h → IsRuled xs k h run (take j ws) w ruling)) paths
      (subst (λ a. IfOk r (λ ruling. (h : List Event) → L h → A h → IsRuled xs n h run a w ruling)) (is ∙ ap (λ k. take k ws) places) ruled)

-- where nobody runs, the first whose start is admissible is next
module _ (xs : List (ℕ × Tree)) (L A : List Event → Type 0) (n : ℕ) (running : List ℕ) (ws : List Waiter) where
  pub no_stall : (r : Result (Option ℕ) OutOfMemory) → IfOk r (λ found. (h : List Event) → L h → A h → IsNext xs n h (ops_of running) ws found)
      → IfOk r (λ found. (h : List Event) → L h → A h → running ≡ [] → IsFirstAdmissible xs n h [] ws found)
  no_stall (Ok found) next = λ h l a none. first_is_next xs n h ws found (subst (λ q. IsNext xs n h (ops_of q) ws found) none (next h l a))
  no_stall (Err e) next = next
