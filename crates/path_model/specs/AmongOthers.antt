-- The law of one path among several: histories may have other operations too.
use Rattle.std.specs.Prelude.{if◌then◌else◌, List, [], ◌∷◌, ◌++◌, ◌↔◌}
use Rattle.path_model.specs.declared.ids.OpId.{OpId}
use Rattle.path_model.specs.declared.history.Event.{Event}
use Rattle.path_model.specs.declared.history.Event.TheVariants.{Began, Ended}
use Rattle.path_model.specs.Trees.{Tree, Names, WellFormed, has}
use Rattle.path_model.specs.Histories.{op_of, InProgress}
use Rattle.path_model.specs.Projection.{projection, LegalOn}
use Rattle.path_model.specs.Machine.{prologue, Values, Passes, opening, changed}

-- an event changes the values of each path that names its operation
abbrev pub values_among : Tree → Values → List Event → Values
values_among s v [] = v
values_among s v (e ∷ h) = values_among s (if has s (op_of e) then changed s e v else v) h

-- the path doesn't block the operation after the history
abbrev pub Lets : Tree → List Event → OpId → Type 0
Lets s h a = Names s a → Passes (prologue s a) (values_among s (opening s) h)

pub record Guards (s : Tree) : Type 0 where
  pub starts : (h : List Event) (a : OpId) → LegalOn s h → Lets s h a ↔ LegalOn s (h ++ Began a ∷ [])
  pub finishes : (h : List Event) (a : OpId) → LegalOn s h → (Names s a → InProgress a (projection s h)) ↔ LegalOn s (h ++ Ended a ∷ [])
  -- a start that is legal after another start was legal before it
  pub starts_only_block : (h : List Event) (a b : OpId) → LegalOn s (h ++ Began a ∷ Began b ∷ []) → LegalOn s (h ++ Began b ∷ [])

abbrev pub EachPathGuards : Type 0
EachPathGuards = (s : Tree) → WellFormed s → Guards s
