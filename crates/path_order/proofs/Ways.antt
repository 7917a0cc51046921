-- Whose way is clear, by what gates tell.
use Rattle.std.proofs.Common.{◌≡◌, List, [], ◌∷◌, ◌++◌, Result, Ok, Err}
use Rattle.path_model.specs.declared.ids.OpId.{OpId}
use Rattle.path_model.specs.declared.ids.PathId.{PathId}
use Rattle.path_model.specs.declared.history.Event.{Event}
use Rattle.path_model.specs.declared.history.Event.TheVariants.{Began}
use Rattle.path_gate.specs.Standings.{Standing, Judges}
use Rattle.path_order.specs.Ways.{all_over, IsClear}
use Rattle.path_order.specs.Inner.Spares.{AreAlike, AreAt, AreOver}
use Rattle.path_order.proofs.Over.{legal_all}
use Rattle.path_order.proofs.Judging.{admits, refuses}

module _ (g clear behind : Standing) (alike : AreAlike g clear behind) (run : List OpId) (h : List Event) (x y : OpId) (r : Result (Unit {0}) PathId) where
  -- by the gate where all that runs is over, the way is clear, or not
  module _ (are : AreAt g clear behind run h x) (told : Judges clear y r) where
    pub clear_at : (u : Unit {0}) → r ≡ Ok u → IsClear g.paths h run y
    clear_at u e = admits g clear alike.of_clear y (all_over g.paths run h) (legal_all g.paths alike.well_formed run h are.legal) are.over r u e told

    pub shut_at : (p : PathId) → r ≡ Err p → IsClear g.paths h run y → ⊥
    shut_at p e = refuses g clear alike.of_clear y (all_over g.paths run h) (legal_all g.paths alike.well_formed run h are.legal) are.over r p e told

  module _ (are : AreOver g clear behind run h x) where
    pub clear_over : Judges clear y r → (u : Unit {0}) → r ≡ Ok u → IsClear g.paths h run y
    clear_over told u e = admits g clear alike.of_clear y (all_over g.paths run h) (legal_all g.paths alike.well_formed run h are.legal) are.over r u e told

    pub shut_over : Judges clear y r → (p : PathId) → r ≡ Err p → IsClear g.paths h run y → ⊥
    shut_over told p e = refuses g clear alike.of_clear y (all_over g.paths run h) (legal_all g.paths alike.well_formed run h are.legal) are.over r p e told

    -- and by the gate where it is over behind x
    pub clear_behind : Judges behind y r → (u : Unit {0}) → r ≡ Ok u → IsClear g.paths (h ++ Began x ∷ []) run y
    clear_behind told u e = admits g behind alike.of_behind y (all_over g.paths run (h ++ Began x ∷ [])) (legal_all g.paths alike.well_formed run (h ++ Began x ∷ []) are.starts) are.both_over r u e told

    pub shut_behind : Judges behind y r → (p : PathId) → r ≡ Err p → IsClear g.paths (h ++ Began x ∷ []) run y → ⊥
    shut_behind told p e = refuses g behind alike.of_behind y (all_over g.paths run (h ++ Began x ∷ [])) (legal_all g.paths alike.well_formed run (h ++ Began x ∷ []) are.starts) are.both_over r p e told
