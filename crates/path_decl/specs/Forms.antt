-- What a text declares, in names alone.
use Rattle.std.specs.Prelude.{ℕ, List, [], ◌∷◌, ◌++◌, Option, Some, None}
use Rattle.path_decl.specs.Numerals.{IsUpTo}

-- a path expression over names, with the digits of the bounds of braces
pub data Form : Type 0 where
  once : List ℕ → Form
  sequence : Form → Form → Form
  selection : Form → Form → Form
  braced : Option (List ℕ) → Form → Form

-- a law, with the digits of a queue's capacity
pub data LawForm : Type 0 where
  a_cell : LawForm
  a_tally : LawForm
  a_queue : List ℕ → LawForm

-- a resource with its law, its operations and its paths
pub record ResourceForm : Type 0 where
  pub name : List ℕ
  pub law : LawForm
  pub operations : List (List ℕ)
  pub paths : List Form

-- the names of a path, from left to right
abbrev pub names_in : Form → List (List ℕ)
names_in (once n) = n ∷ []
names_in (sequence s t) = names_in s ++ names_in t
names_in (selection s t) = names_in s ++ names_in t
names_in (braced b s) = names_in s

-- the operations of all resources, in order
abbrev pub all_operations : List ResourceForm → List (List ℕ)
all_operations [] = []
all_operations (r ∷ rs) = r.operations ++ all_operations rs

-- the paths of all resources, in order
abbrev pub all_paths : List ResourceForm → List Form
all_paths [] = []
all_paths (r ∷ rs) = r.paths ++ all_paths rs

-- a bound is a number from 1 to 65,535
abbrev pub BoundFits : Option (List ℕ) → Type 0
BoundFits None = Unit {0}
BoundFits (Some ds) = IsUpTo 65535 ds

-- a capacity is a number from 1 to 1,024
abbrev pub LawFits : LawForm → Type 0
LawFits a_cell = Unit {0}
LawFits a_tally = Unit {0}
LawFits (a_queue ds) = IsUpTo 1024 ds
