-- The trees of a declaration by their numbers, and what is told of each.
use Rattle.std.specs.Prelude.{◌≡◌, ◌<◌, ◌+◌, ℕ, false, List, [], map, take, slice_index, slice_index_or, Vec}
use Rattle.std.specs.List.{sum_by}
use Rattle.path_model.specs.declared.ids.OpId.{OpId}
use Rattle.path_model.specs.declared.history.Event.{Event}
use Rattle.path_model.specs.Trees.{Tree, op}
use Rattle.path_model.specs.Histories.{begun, ended}
use Rattle.path_model.specs.Legal.{Legal}
use Rattle.path_model.specs.Machine.{braces}
use Rattle.path_model.specs.Flat.{Sited, semaphores_in}
use Rattle.path_model.specs.Trimmed.{same_tree}
use Rattle.path_model.specs.Declarations.{Declaration, trees, paths_of}
use Rattle.path_gate.specs.Standings.{IsNamed}
use Rattle.path_state.specs.Standings.{stands_after}

-- the tree of the path of this number
abbrev pub tree_at : Declaration → ℕ → Tree
tree_at d i = slice_index_or (trees d) i (op (record { 0 = 0 }))

-- the path of this number, with the numbers of its values in the table
abbrev pub site_at : Declaration → ℕ → Sited
site_at d i =
    record { tree = tree_at d i; own = sum_by semaphores_in (take i (trees d)); first = sum_by braces (take i (trees d)) }

-- no earlier path has its tree
abbrev pub IsFirst : Declaration → ℕ → Type 0
IsFirst d i = (j : ℕ) → j < i → same_tree (tree_at d i) (tree_at d j) ≡ false

-- how often an operation is in progress, and what stands behind each `;` of a path, by their numbers
abbrev pub progress_of : List ℕ → OpId → ℕ
progress_of counts a = slice_index counts a.0

abbrev pub row_at : List (List ℕ) → ℕ → List ℕ
row_at rows i = slice_index_or rows i []

abbrev pub rows_of : {Y : Type 0} → List (Vec ℕ Y) → List (List ℕ)
rows_of rows = map (λ row. row.items) rows

-- after this legal history so many executions of each operation are in progress, and so many stand behind each `;`
pub record AllLead (d : Declaration) (counts : List ℕ) (rows : List (List ℕ)) (h : List Event) : Type 0 where
  pub legal : Legal (paths_of d) h
  pub counted : (a : OpId) → IsNamed (paths_of d) a → progress_of counts a + ended a h ≡ begun a h
  pub standing : map (λ s. stands_after s h) (trees d) ≡ rows
