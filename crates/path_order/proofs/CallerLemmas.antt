-- What the crates above cite of these proofs, and all that they cite: spare gates that fit a gate.
use Rattle.std.proofs.Common.{◌≡◌, sym, subst, ◌∙◌}
use Rattle.path_model.specs.Trees.{WellFormed}
use Rattle.path_model.specs.Legal as legal
use Rattle.path_gate.specs.Standings.{Standing, IsNamed, SamePlaces}
use Rattle.path_order.specs.Beside.{Fits, AreReady}
use Rattle.path_order.specs.declared.spare.Spares.{Spares}
pub use Rattle.path_order.proofs.Threads.{order_send}

-- spare gates that fitted a gate before it moved
pub ready_moved : {Y : Type 0} (old new : Standing) (s : Spares Y) → new.paths ≡ old.paths → SamePlaces old new → AreReady old s → AreReady new s
ready_moved old new s paths places ready = record { clear = moved s.clear ready.clear; behind = moved s.behind ready.behind }
  where
    moved : (spare : Standing) → Fits old spare s.operations → Fits new spare s.operations
    moved spare fits = record {
      paths = fits.paths ∙ sym paths;
      semaphores = fits.semaphores ∙ sym places.semaphores;
      counters = fits.counters ∙ sym places.counters;
      named = λ a named. fits.named a (subst (λ xs. IsNamed xs a) paths named);
      well_formed = subst (legal.Every WellFormed) (sym paths) fits.well_formed;
    }
