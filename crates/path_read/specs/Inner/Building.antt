-- What each part needs of a draft, and how it changes it.
use Rattle.std.specs.Prelude.{◌≡◌, ℕ, ◌+◌, ◌-◌, ◌<◌, if◌then◌else◌, List, [], ◌∷◌, ◌++◌, map, reverse, length}
use Rattle.std.specs.Prelude.{Option, Some, None, slice_get, Contains}
use Rattle.std.specs.Str.{bytes_eq}
use Rattle.std.specs.Str.Parse.{digits_value}
use Rattle.path_model.specs.declared.resource.Law.{Law}
use Rattle.path_model.specs.declared.resource.Law.TheVariants.{Cell, Tally, Queue}
use Rattle.path_model.specs.Trees.{Bound, any, most, Tree, op, seq, alt, burst, shape}
use Rattle.path_model.specs.Declarations.{Resource, Operation, Path, Declaration}
use Rattle.path_read.specs.declared.draft.Draft.{Draft}
use Rattle.path_decl.specs.Forms.{LawForm, a_cell, a_tally, a_queue, BoundFits, LawFits}
use Rattle.path_read.specs.Inner.Parts.{Saying, a_resource, a_law, an_operation, a_path, a_name}
use Rattle.path_read.specs.Inner.Parts.{a_sequence, a_selection, an_opening, a_closing, an_end}
use Rattle.path_decl.specs.Table.{names_of, name_at, resources_of, operations_of, path_of}

-- what was declared so far, the last resource, and of the path so far the trees, the last first, the names, and how many braces
-- are open
pub record Drafted : Type 0 where
  pub resources : List Resource
  pub operations : List Operation
  pub paths : List Path
  pub resource : ℕ
  pub open_trees : List Tree
  pub named : List (List ℕ)
  pub braces : ℕ

abbrev pub drafted : {Y : Type 0} → Draft Y → Drafted
drafted d = record {
  resources = resources_of d.resources.entries;
  operations = operations_of d.operations.entries;
  paths = map path_of d.paths.items;
  resource = d.resource.0;
  open_trees = reverse (map shape d.open_trees.items);
  named = map (name_at (names_of d.operations.entries)) d.named.items;
  braces = if d.in_braces then 1 else 0;
}

abbrev pub nothing : Drafted
nothing = record { resources = []; operations = []; paths = []; resource = 0; open_trees = []; named = []; braces = 0 }

abbrev pub declared_by : Drafted → Declaration
declared_by d = record { resources = d.resources; operations = d.operations; paths = d.paths }

abbrev pub resource_names : Drafted → List (List ℕ)
resource_names d = map (λ r. r.name) d.resources

abbrev pub operation_names : List Operation → List (List ℕ)
operation_names os = map (λ o. o.name) os

-- the first index of a name, or the length if there is none
abbrev pub place_of : List ℕ → List (List ℕ) → ℕ
place_of n [] = 0
place_of n (m ∷ ms) = if bytes_eq n m then 0 else 1 + place_of n ms

-- the number of an operation's name
abbrev pub number_of : List Operation → List ℕ → ℕ
number_of os n = place_of n (operation_names os)

abbrev pub joined : (Tree → Tree → Tree) → List Tree → List Tree
joined f [] = []
joined f (t ∷ []) = t ∷ []
joined f (t ∷ s ∷ ts) = f s t ∷ ts

abbrev pub HasTwo : List Tree → Type 0
HasTwo [] = ⊥
HasTwo (t ∷ []) = ⊥
HasTwo (t ∷ s ∷ ts) = Unit {0}

abbrev pub HasOne : List Tree → Type 0
HasOne [] = ⊥
HasOne (t ∷ ts) = Unit {0}

-- the law, with the value of the digits as a queue's capacity
abbrev pub law_from : LawForm → Law
law_from a_cell = Cell
law_from a_tally = Tally
law_from (a_queue ds) = Queue (digits_value 10 ds)

-- the resources, the last one with this law
abbrev pub with_law : Law → List Resource → List Resource
with_law l [] = []
with_law l (r ∷ []) = record { name = r.name; law = l } ∷ []
with_law l (r ∷ s ∷ rs) = r ∷ with_law l (s ∷ rs)

-- the bound of braces
abbrev pub bound_of : Option (List ℕ) → Bound
bound_of None = any
bound_of (Some ds) = most (digits_value 10 ds)

-- the trees, the last one in braces
abbrev pub enclosed : Option (List ℕ) → List Tree → List Tree
enclosed b [] = []
enclosed b (t ∷ ts) = burst (bound_of b) t ∷ ts

-- the path with the last tree
abbrev pub closed : ℕ → List Tree → List Path
closed r [] = []
closed r (t ∷ ts) = record { resource = r; tree = t } ∷ []

-- the draft after a part; a resource is a cell until its law comes
abbrev pub after : Saying → Drafted → Drafted
after (a_resource n) d = record d { resources = d.resources ++ record { name = n; law = Cell } ∷ []; resource = length d.resources }
after (a_law l) d = record d { resources = with_law (law_from l) d.resources }
after (an_operation n) d = record d { operations = d.operations ++ record { name = n; resource = d.resource } ∷ [] }
after a_path d = d
after (a_name n) d = record d { open_trees = op (record { 0 = number_of d.operations n }) ∷ d.open_trees; named = d.named ++ n ∷ [] }
after a_sequence d = record d { open_trees = joined seq d.open_trees }
after a_selection d = record d { open_trees = joined alt d.open_trees }
after an_opening d = record d { braces = d.braces + 1 }
after (a_closing b) d = record d { open_trees = enclosed b d.open_trees; braces = d.braces - 1 }
after an_end d = record d { paths = d.paths ++ closed d.resource d.open_trees; open_trees = []; named = [] }

-- the name of an operation of the last resource, new in the path, which has room for it
pub record IsUsable (d : Drafted) (n : List ℕ) : Type 0 where
  pub own : slice_get d.operations (number_of d.operations n) ≡ Some (record { name = n; resource = d.resource })
  pub new : Contains d.named n → ⊥
  pub room : length d.named < 64

-- what a part needs of the draft
abbrev pub Allowed : Saying → Drafted → Type 0
Allowed (a_resource n) d = (Contains (resource_names d) n → ⊥) × (length d.resources < 64)
Allowed (a_law l) d = LawFits l
Allowed (an_operation n) d = (Contains (operation_names d.operations) n → ⊥) × (length d.operations < 256)
Allowed a_path d = length d.paths < 256
Allowed (a_name n) d = IsUsable d n
Allowed a_sequence d = HasTwo d.open_trees
Allowed a_selection d = HasTwo d.open_trees
Allowed an_opening d = d.braces ≡ 0
Allowed (a_closing b) d = HasOne d.open_trees × BoundFits b
Allowed an_end d = HasOne d.open_trees

-- the same for many parts
abbrev pub after_all : List Saying → Drafted → Drafted
after_all [] d = d
after_all (p ∷ ps) d = after_all ps (after p d)

abbrev pub AllAllowed : List Saying → Drafted → Type 0
AllAllowed [] d = Unit {0}
AllAllowed (p ∷ ps) d = Allowed p d × AllAllowed ps (after p d)
