-- The declaration of forms: numbers, in the order of the text, instead of names.
use Rattle.std.specs.Prelude.{◌≡◌, ℕ, ◌+◌, List, [], ◌∷◌, ◌++◌, map, Option, Some, None, slice_get}
use Rattle.path_model.specs.declared.resource.Law.{Law}
use Rattle.path_model.specs.declared.resource.Law.TheVariants.{Cell, Tally, Queue}
use Rattle.path_model.specs.Trees.{Bound, any, most, Tree, op, seq, alt, burst}
use Rattle.path_model.specs.Declarations.{Resource, Operation, Path, Declaration}
use Rattle.path_decl.specs.Numerals.{Denotes}
use Rattle.path_decl.specs.Forms.{Form, once, sequence, selection, braced, LawForm, a_cell, a_tally, a_queue, ResourceForm, all_operations}

-- the bound is the number that the digits denote; braces without digits have no bound
abbrev pub IsBound : Option (List ℕ) → Bound → Type 0
IsBound None any = Unit {0}
IsBound None (most n) = ⊥
IsBound (Some ds) any = ⊥
IsBound (Some ds) (most n) = Denotes ds n

-- the tree is the form with the numbers of its names, and the numbers that its bounds denote
abbrev pub Numbers : List (List ℕ) → Form → Tree → Type 0
Numbers ns (once n) (op a) = slice_get ns a.0 ≡ Some n
Numbers ns (once n) (seq s t) = ⊥
Numbers ns (once n) (alt s t) = ⊥
Numbers ns (once n) (burst b s) = ⊥
Numbers ns (sequence f g) (seq s t) = Numbers ns f s × Numbers ns g t
Numbers ns (sequence f g) (op a) = ⊥
Numbers ns (sequence f g) (alt s t) = ⊥
Numbers ns (sequence f g) (burst b s) = ⊥
Numbers ns (selection f g) (alt s t) = Numbers ns f s × Numbers ns g t
Numbers ns (selection f g) (op a) = ⊥
Numbers ns (selection f g) (seq s t) = ⊥
Numbers ns (selection f g) (burst b s) = ⊥
Numbers ns (braced c f) (burst b s) = IsBound c b × Numbers ns f s
Numbers ns (braced c f) (op a) = ⊥
Numbers ns (braced c f) (seq s t) = ⊥
Numbers ns (braced c f) (alt s t) = ⊥

-- the law of the form; the capacity of a queue is the number that its digits denote
abbrev pub IsLawOf : LawForm → Law → Type 0
IsLawOf a_cell l = l ≡ Cell
IsLawOf a_tally l = l ≡ Tally
IsLawOf (a_queue ds) l = (n : ℕ) × Denotes ds n × (l ≡ Queue n)

-- a resource with the name and the law of the form
abbrev pub IsResourceOf : ResourceForm → Resource → Type 0
IsResourceOf f r = (r.name ≡ f.name) × IsLawOf f.law r.law

abbrev pub AreResourcesOf : List ResourceForm → List Resource → Type 0
AreResourcesOf [] [] = Unit {0}
AreResourcesOf [] (r ∷ rs) = ⊥
AreResourcesOf (f ∷ fs) [] = ⊥
AreResourcesOf (f ∷ fs) (r ∷ rs) = IsResourceOf f r × AreResourcesOf fs rs

-- the operations, each with the number of its resource; the first resource has the number k
abbrev pub operations_from : ℕ → List ResourceForm → List Operation
operations_from k [] = []
operations_from k (r ∷ rs) = map (λ n. record { name = n; resource = k }) r.operations ++ operations_from (k + 1) rs

-- the forms of the paths, each with the number of its resource; the first resource has the number k
abbrev pub paths_from : ℕ → List ResourceForm → List (ℕ × Form)
paths_from k [] = []
paths_from k (r ∷ rs) = map (λ f. (k, f)) r.paths ++ paths_from (k + 1) rs

-- the path of that resource and form, with the numbers of the names
abbrev pub IsPathOf : List (List ℕ) → ℕ × Form → Path → Type 0
IsPathOf ns f p = (p.resource ≡ f.0) × Numbers ns f.1 p.tree

abbrev pub ArePathsOf : List (List ℕ) → List (ℕ × Form) → List Path → Type 0
ArePathsOf ns [] [] = Unit {0}
ArePathsOf ns [] (p ∷ ps) = ⊥
ArePathsOf ns (f ∷ fs) [] = ⊥
ArePathsOf ns (f ∷ fs) (p ∷ ps) = IsPathOf ns f p × ArePathsOf ns fs ps

pub record Declares (rs : List ResourceForm) (d : Declaration) : Type 0 where
  pub resources : AreResourcesOf rs d.resources
  pub operations : d.operations ≡ operations_from 0 rs
  pub paths : ArePathsOf (all_operations rs) (paths_from 0 rs) d.paths
