-- What the paths of a legal history guarantee, in words of operations.
use Rattle.std.specs.Prelude.{◌≡◌, ◌<◌, ◌≤◌, ◌+◌, ℕ, List, ◌++◌, ◌⊎◌, ◌↔◌}
use Rattle.path_model.specs.declared.ids.OpId.{OpId}
use Rattle.path_model.specs.declared.history.Event.{Event}
use Rattle.path_model.specs.Trees.{Bound, any, most, Tree, op, seq, alt, burst, Names, WellFormed}
use Rattle.path_model.specs.Histories.{begun, ended, InProgress}
use Rattle.path_model.specs.Projection.{LegalOn}
use Rattle.path_model.specs.Legal.{Legal}
use Rattle.path_model.specs.BurstCounts.{Spare}
use Rattle.path_model.specs.Machine.{semicolons, braces, Values, opening}
use Rattle.path_model.specs.AmongOthers.{values_among}
use Rattle.path_model.specs.Executions.{entered, left, begins_within, ends_within, TreeInProgress}

-- t is a part of the other tree
abbrev pub PartOf : Tree → Tree → Type 0
PartOf t (op b) = t ≡ op b
PartOf t (seq l r) = (t ≡ seq l r) ⊎ (PartOf t l ⊎ PartOf t r)
PartOf t (alt l r) = (t ≡ alt l r) ⊎ (PartOf t l ⊎ PartOf t r)
PartOf t (burst bd b) = (t ≡ burst bd b) ⊎ PartOf t b

-- t is a part of the other tree, and no braces of it are around t
abbrev pub OutsideBraces : Tree → Tree → Type 0
OutsideBraces t (op b) = t ≡ op b
OutsideBraces t (seq l r) = (t ≡ seq l r) ⊎ (OutsideBraces t l ⊎ OutsideBraces t r)
OutsideBraces t (alt l r) = (t ≡ alt l r) ⊎ (OutsideBraces t l ⊎ OutsideBraces t r)
OutsideBraces t (burst bd b) = t ≡ burst bd b

-- of i executions that were begun and o that are over, no more are underway than the bound allows
abbrev pub FitsBound : Bound → ℕ → ℕ → Type 0
FitsBound any i o = Unit {0}
FitsBound (most n) i o = i ≤ o + n

-- ends have their starts, right operands follow left ones, and braces are open while an execution in them is underway, within bounds
abbrev pub PartsKeep : Tree → List Event → Type 0
PartsKeep (op a) h = ended a h ≤ begun a h
PartsKeep (seq s t) h = PartsKeep s h × PartsKeep t h × (entered t h ≤ left s h)
PartsKeep (alt s t) h = PartsKeep s h × PartsKeep t h
PartsKeep (burst bd s) h =
    PartsKeep s h × FitsBound bd (entered s h) (left s h)
    × (((entered s h ≡ left s h) × (entered (burst bd s) h ≡ left (burst bd s) h))
    ⊎ ((left s h < entered s h) × (entered (burst bd s) h ≡ left (burst bd s) h + 1)))

-- and of the whole path at most one execution is underway
pub record Keeps (s : Tree) (h : List Event) : Type 0 where
  pub parts : PartsKeep s h
  pub one : entered s h ≤ left s h + 1

-- each value of a part is its difference of counts; n and m are the numbers of its first semicolon and its first braces
abbrev pub PartsCount : Tree → ℕ → ℕ → List Event → Values → Type 0
PartsCount (op a) n m h v = Unit {0}
PartsCount (seq s t) n m h v =
    PartsCount s n m h v × PartsCount t (n + semicolons s + 1) (m + braces s) h v
    × (v.semaphore (n + semicolons s) + entered t h ≡ left s h)
PartsCount (alt s t) n m h v = PartsCount s n m h v × PartsCount t (n + semicolons s) (m + braces s) h v
PartsCount (burst bd s) n m h v =
    PartsCount s n (m + 1) h v × (v.counter m + left s h ≡ entered s h) × Spare bd (v.bound m) (v.counter m)

-- and the path's own semaphore is 1 while no execution of it is underway
pub record ValuesCount (s : Tree) (h : List Event) (v : Values) : Type 0 where
  pub parts : PartsCount s 1 0 h v
  pub own : v.semaphore 0 + entered s h ≡ left s h + 1

-- a front of a history that is legal on a path is legal on it
abbrev pub EachFrontIsLegal : Type 0
EachFrontIsLegal = (s : Tree) (x y : List Event) → LegalOn s (x ++ y) → LegalOn s x

-- and the same holds of all paths
abbrev pub EachFrontIsLegalOnAll : Type 0
EachFrontIsLegalOnAll = (ss : List (ℕ × Tree)) (x y : List Event) → Legal ss (x ++ y) → Legal ss x

-- of a longer history the counts add up
abbrev pub CountsAddUp : Type 0
CountsAddUp =
    (a : OpId) (x y : List Event)
    → (begun a (x ++ y) ≡ begun a x + begun a y) × (ended a (x ++ y) ≡ ended a x + ended a y)

-- what each path keeps after a legal history
abbrev pub EachPathKeepsItsCounts : Type 0
EachPathKeepsItsCounts = (s : Tree) → WellFormed s → (h : List Event) → LegalOn s h → Keeps s h

-- and its values are differences of its counts
abbrev pub EachValueIsACount : Type 0
EachValueIsACount =
    (s : Tree) → WellFormed s → (h : List Event) → LegalOn s h → ValuesCount s h (values_among s (opening s) h)

-- a part was entered and not left exactly where it is underway
abbrev pub EnteredPartsAreInProgress : Type 0
EnteredPartsAreInProgress =
    (s : Tree) → WellFormed s → (h : List Event) → LegalOn s h
    → (t : Tree) → PartOf t s → (left t h < entered t h) ↔ TreeInProgress t h

-- an operation has ended at most as often as it has begun
abbrev pub EachEndWasBegun : Type 0
EachEndWasBegun = (s : Tree) → WellFormed s → (h : List Event) → LegalOn s h → (a : OpId) → Names s a → ended a h ≤ begun a h

-- what stands outside braces, as an operation or a pair of braces, is underway at most once, and then excludes all else of its path
abbrev pub EachPartOutsideBracesIsAlone : Type 0
EachPartOutsideBracesIsAlone =
    (s : Tree) → WellFormed s → (h : List Event) → LegalOn s h → (t : Tree) → OutsideBraces t s
    → (entered t h ≤ left t h + 1) × (TreeInProgress t h → (b : OpId) → Names s b → InProgress b h → Names t b)

-- a tree is underway while an operation of it is in progress
abbrev pub TreesOfOperationsAreInProgress : Type 0
TreesOfOperationsAreInProgress = (t : Tree) (h : List Event) (a : OpId) → Names t a → InProgress a h → TreeInProgress t h

-- of `{ T : n }` at most n operations are in progress
abbrev pub BoundsHold : Type 0
BoundsHold =
    (s : Tree) → WellFormed s → (h : List Event) → LegalOn s h
    → (n : ℕ) (t : Tree) → PartOf (burst (most n) t) s → begins_within t h ≤ ends_within t h + n

-- in `L ; R` R was entered at most as often as L was left
abbrev pub SequencesKeepTheirOrder : Type 0
SequencesKeepTheirOrder =
    (s : Tree) → WellFormed s → (h : List Event) → LegalOn s h
    → (l r : Tree) → PartOf (seq l r) s → entered r h ≤ left l h

-- round by round: outside braces L is left at most once more than R is entered, and entered at most once more than R is left
abbrev pub SequencesGoRoundByRound : Type 0
SequencesGoRoundByRound =
    (s : Tree) → WellFormed s → (h : List Event) → LegalOn s h
    → (l r : Tree) → OutsideBraces (seq l r) s → (left l h ≤ entered r h + 1) × (entered l h ≤ left r h + 1)
