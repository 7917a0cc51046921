-- Where a path stands: what is in progress, and how many executions stand behind each `;`.
use Rattle.std.specs.Prelude.{◌≡◌, ◌+◌, ◌-◌, ℕ, List, [], ◌∷◌, ◌++◌, ◌↔◌}
use Rattle.path_model.specs.declared.ids.OpId.{OpId}
use Rattle.path_model.specs.declared.history.Event.{Event}
use Rattle.path_model.specs.Trees.{Tree, op, seq, alt, burst, Names, WellFormed}
use Rattle.path_model.specs.Histories.{begun, ended}
use Rattle.path_model.specs.Projection.{LegalOn}
use Rattle.path_model.specs.Executions.{entered, left}

-- how many executions stand behind each `;` of the tree, in the order of the text: the left operand is over, the right one hasn't begun
abbrev pub stands_after : Tree → List Event → List ℕ
stands_after (op a) h = []
stands_after (seq l r) h = stands_after l h ++ (left l h - entered r h) ∷ stands_after r h
stands_after (alt l r) h = stands_after l h ++ stands_after r h
stands_after (burst bd t) h = stands_after t h

-- After this legal history so many executions of each operation that the path names are in progress, and so many stand behind each `;`.
pub record LeadsTo (s : Tree) (progress : OpId → ℕ) (stands : List ℕ) (h : List Event) : Type 0 where
  pub legal : LegalOn s h
  pub counted : (a : OpId) → Names s a → progress a + ended a h ≡ begun a h
  pub standing : stands_after s h ≡ stands

-- where a path stands, however it came there, tells what may follow
abbrev pub StandingsTellWhatMayFollow : Type 0
StandingsTellWhatMayFollow =
    (s : Tree) → WellFormed s → (progress : OpId → ℕ) (stands : List ℕ) (h g : List Event)
    → LeadsTo s progress stands h → LeadsTo s progress stands g
    → (w : List Event) → LegalOn s (h ++ w) ↔ LegalOn s (g ++ w)
