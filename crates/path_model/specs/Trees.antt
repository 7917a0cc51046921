-- The tree of a path, and its names.
use Rattle.std.specs.Prelude.{◌≡◌, ◌==◌, ◌<◌, ◌≤◌, ◌||◌, Bool, ℕ, ◌⊎◌}
use Rattle.path_model.specs.declared.ids.OpId.{OpId}
use Rattle.path_model.specs.declared.tree.Expr.{Expr}
use Rattle.path_model.specs.declared.tree.Expr.TheVariants.{Op, Seq', Alt', Burst', Counted'}

-- how many executions may overlap inside braces
pub data Bound : Type 0 where
  any : Bound
  most : ℕ → Bound

-- one more execution may begin when c aren't over
abbrev pub BoundAdmits : Bound → ℕ → Type 0
BoundAdmits any c = Unit {0}
BoundAdmits (most n) c = c < n

-- a tree, apart from where its boxes are in memory
pub data Tree : Type 0 where
  op : OpId → Tree
  seq : Tree → Tree → Tree
  alt : Tree → Tree → Tree
  burst : Bound → Tree → Tree

abbrev pub shape : {Y : Type 0} → Expr Y → Tree
shape (Op a) = op a
shape (Seq' p s q t) = seq (shape s) (shape t)
shape (Alt' p s q t) = alt (shape s) (shape t)
shape (Burst' p s) = burst any (shape s)
shape (Counted' p s n) = burst (most n) (shape s)

-- the tree names the operation
abbrev pub Names : Tree → OpId → Type 0
Names (op b) a = a ≡ b
Names (seq s t) a = Names s a ⊎ Names t a
Names (alt s t) a = Names s a ⊎ Names t a
Names (burst bd s) a = Names s a

-- no operation is in both trees
abbrev pub Apart : Tree → Tree → Type 0
Apart s t = (a : OpId) → Names s a → Names t a → ⊥

-- no name occurs twice
abbrev pub NoRepeats : Tree → Type 0
NoRepeats (op a) = Unit {0}
NoRepeats (seq s t) = NoRepeats s × NoRepeats t × Apart s t
NoRepeats (alt s t) = NoRepeats s × NoRepeats t × Apart s t
NoRepeats (burst bd s) = NoRepeats s

-- there are no braces
abbrev pub NoBraces : Tree → Type 0
NoBraces (op a) = Unit {0}
NoBraces (seq s t) = NoBraces s × NoBraces t
NoBraces (alt s t) = NoBraces s × NoBraces t
NoBraces (burst bd s) = ⊥

-- no braces are inside braces, and each pair has room for at least one execution
abbrev pub NoNesting : Tree → Type 0
NoNesting (op a) = Unit {0}
NoNesting (seq s t) = NoNesting s × NoNesting t
NoNesting (alt s t) = NoNesting s × NoNesting t
NoNesting (burst bd s) = NoBraces s × BoundAdmits bd 0

-- each bound is at most 65,535
abbrev pub FewAtOnce : Tree → Type 0
FewAtOnce (op a) = Unit {0}
FewAtOnce (seq s t) = FewAtOnce s × FewAtOnce t
FewAtOnce (alt s t) = FewAtOnce s × FewAtOnce t
FewAtOnce (burst any s) = FewAtOnce s
FewAtOnce (burst (most n) s) = (n ≤ 65535) × FewAtOnce s

pub record WellFormed (s : Tree) : Type 0 where
  pub names_once : NoRepeats s
  pub not_nested : NoNesting s

-- whether the tree names the operation
abbrev pub has : Tree → OpId → Bool
has (op b) a = a.0 == b.0
has (seq s t) a = has s a || has t a
has (alt s t) a = has s a || has t a
has (burst bd s) a = has s a
