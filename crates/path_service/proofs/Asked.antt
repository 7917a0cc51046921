-- The gate of a controller is where an order may be asked, and what it tells is told of all lines.
use Rattle.std.proofs.Common.{◌≡◌, ◌∙◌, ℕ, List, [], sym, subst, Option}
use Rattle.path_model.specs.declared.history.Event.{Event}
use Rattle.path_model.specs.Declarations.{paths_of}
use Rattle.path_model.specs.Journals.{admitted_history}
use Rattle.path_model.specs.Legal.{Legal}
use Rattle.path_gate.specs.Standings.{Standing, IsAt}
use Rattle.path_order.specs.declared.ruling.Ruling.{Ruling}
use Rattle.path_order.specs.declared.waiting.Waiter.{Waiter}
use Rattle.path_order.specs.declared.spare.Spares.{Spares}
use Rattle.path_order.specs.Waiting.{ops_of}
use Rattle.path_order.specs.Rulings.{IsRuled, IsNext, IsFirstAdmissible}
use Rattle.path_order.specs.Bounds.{KeepsTheDoor, LetsInUnopposed}
use Rattle.path_order.specs.Beside.{AreReady, AreOf}
use Rattle.path_system.specs.Accounts.{Account, all_lines}
use Rattle.path_service.specs.Ordered.{ahead_of, IsRuledIn, KeepsTheDoorIn, IsNextIn, IsUnopposedIn, IsFirstIn}

module _ (a : Account) (g : Standing) (paths : g.paths ≡ paths_of a.declaration) (at : IsAt g (admitted_history (all_lines a)))
    (legal : Legal (paths_of a.declaration) (admitted_history (all_lines a))) where
  abbrev history : List Event
  history = admitted_history (all_lines a)

  legal_there : Legal g.paths history
  legal_there = subst (λ xs. Legal xs history) (sym paths) legal

  module _ {Y : Type 0} (s : Spares Y) (of : AreOf a.declaration s) where
    pub still_of : (new : Spares Y) → AreReady g new → new.operations ≡ s.operations → new.paths ≡ s.paths → AreOf a.declaration new
    still_of new ready operations count = record {
      clear = ready.clear.paths ∙ paths;
      behind = ready.behind.paths ∙ paths;
      operations = operations ∙ of.operations;
      paths = count ∙ of.paths;
    }

    module _ (waiting : List Waiter) (running : List ℕ) where
      pub ruled_in : (w : Waiter) (ruling : Ruling)
          → ((h : List Event) → Legal g.paths h → IsAt g h → IsRuled g.paths s.paths h (ops_of running) (ahead_of w waiting) w ruling)
          → IsRuledIn a waiting running w ruling
      ruled_in w ruling told = subst (λ n. IsRuled (paths_of a.declaration) n history (ops_of running) (ahead_of w waiting) w ruling) of.paths
          (subst (λ xs. IsRuled xs s.paths history (ops_of running) (ahead_of w waiting) w ruling) paths (told history legal_there at))

      pub door_in : (w : Waiter) (ruling : Ruling)
          → ((h : List Event) → Legal g.paths h → IsAt g h → KeepsTheDoor g.paths h (ops_of running) (ahead_of w waiting) w ruling)
          → KeepsTheDoorIn a waiting running w ruling
      door_in w ruling told = subst (λ xs. KeepsTheDoor xs history (ops_of running) (ahead_of w waiting) w ruling) paths (told history legal_there at)

      pub next_in : (found : Option ℕ)
          → ((h : List Event) → Legal g.paths h → IsAt g h → IsNext g.paths s.paths h (ops_of running) waiting found) → IsNextIn a waiting running found
      next_in found told = subst (λ n. IsNext (paths_of a.declaration) n history (ops_of running) waiting found) of.paths
          (subst (λ xs. IsNext xs s.paths history (ops_of running) waiting found) paths (told history legal_there at))

      pub unopposed_in : (found : Option ℕ)
          → ((h : List Event) → Legal g.paths h → IsAt g h → LetsInUnopposed g.paths h (ops_of running) waiting found) → IsUnopposedIn a waiting running found
      unopposed_in found told = subst (λ xs. LetsInUnopposed xs history (ops_of running) waiting found) paths (told history legal_there at)

      pub first_in : (found : Option ℕ)
          → ((h : List Event) → Legal g.paths h → IsAt g h → running ≡ [] → IsFirstAdmissible g.paths s.paths h [] waiting found)
          → running ≡ [] → IsFirstIn a waiting found
      first_in found told none = subst (λ n. IsFirstAdmissible (paths_of a.declaration) n history [] waiting found) of.paths
          (subst (λ xs. IsFirstAdmissible xs s.paths history [] waiting found) paths (told history legal_there at none))
