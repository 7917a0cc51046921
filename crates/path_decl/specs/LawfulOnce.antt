-- There is at most one proof that a declaration is lawful.
use Rattle.std.specs.Coded.{Coded-set, ×_prop, Π_prop, Unit-prop, le_prop, coded_ℕ, coded_option}
use Rattle.std.specs.List.{AllByRecursion-prop}
use Rattle.std.specs.Prelude.{◌≡◌, ℕ, List, [], ◌∷◌, true, All, slice_index_or}
use mathlib.Core.HLevel.{⊥_prop, ¬_prop}
use mathlib.Core.Bool.{Bool-set}
use Rattle.path_model.specs.declared.resource.Law.{Law}
use Rattle.path_model.specs.declared.resource.Law.TheVariants.{Cell, Tally, Queue}
use Rattle.path_model.specs.Trees.{Tree, op, seq, alt, burst, any, most, Bound, BoundAdmits}
use Rattle.path_model.specs.Trees.{Apart, NoRepeats, NoBraces, NoNesting, FewAtOnce, WellFormed}
use Rattle.path_model.specs.Legal.{Every}
use Rattle.path_model.specs.Declarations.{Path, Declaration}
use Rattle.path_lex.specs.contracts.token.Class as class
use Rattle.path_lex.specs.contracts.token.Reserved as reserved
use Rattle.path_lex.specs.Bytes.{is_word_byte}
use Rattle.path_lex.specs.Names.{IsWordText, IsName}
use Rattle.path_decl.specs.Lawful.{NamesOwn, IsDistinct, AreDistinctNames, CapacityFits, Lawful}

Apart-prop : (s t : Tree) → IsProp (Apart s t)
Apart-prop s t = Π_prop (λ a. Π_prop (λ x. ¬_prop))

NoRepeats-prop : (s : Tree) → IsProp (NoRepeats s)
NoRepeats-prop (op a) = Unit-prop
NoRepeats-prop (seq s t) = λ x y i. (NoRepeats-prop s x.0 y.0 i, NoRepeats-prop t x.1 y.1 i, Apart-prop s t x.2 y.2 i)
NoRepeats-prop (alt s t) = λ x y i. (NoRepeats-prop s x.0 y.0 i, NoRepeats-prop t x.1 y.1 i, Apart-prop s t x.2 y.2 i)
NoRepeats-prop (burst b s) = NoRepeats-prop s

NoBraces-prop : (s : Tree) → IsProp (NoBraces s)
NoBraces-prop (op a) = Unit-prop
NoBraces-prop (seq s t) = ×_prop (NoBraces-prop s) (NoBraces-prop t)
NoBraces-prop (alt s t) = ×_prop (NoBraces-prop s) (NoBraces-prop t)
NoBraces-prop (burst b s) = ⊥_prop

BoundAdmits-prop : (b : Bound) (n : ℕ) → IsProp (BoundAdmits b n)
BoundAdmits-prop any n = Unit-prop
BoundAdmits-prop (most m) n = le_prop

NoNesting-prop : (s : Tree) → IsProp (NoNesting s)
NoNesting-prop (op a) = Unit-prop
NoNesting-prop (seq s t) = ×_prop (NoNesting-prop s) (NoNesting-prop t)
NoNesting-prop (alt s t) = ×_prop (NoNesting-prop s) (NoNesting-prop t)
NoNesting-prop (burst b s) = ×_prop (NoBraces-prop s) (BoundAdmits-prop b 0)

pub FewAtOnce-prop : (s : Tree) → IsProp (FewAtOnce s)
FewAtOnce-prop (op a) = Unit-prop
FewAtOnce-prop (seq s t) = ×_prop (FewAtOnce-prop s) (FewAtOnce-prop t)
FewAtOnce-prop (alt s t) = ×_prop (FewAtOnce-prop s) (FewAtOnce-prop t)
FewAtOnce-prop (burst any s) = FewAtOnce-prop s
FewAtOnce-prop (burst (most n) s) = ×_prop le_prop (FewAtOnce-prop s)

pub WellFormed-prop : (s : Tree) → IsProp (WellFormed s)
WellFormed-prop s x y i = record {
  names_once = NoRepeats-prop s x.names_once y.names_once i;
  not_nested = NoNesting-prop s x.not_nested y.not_nested i;
}

pub Every-prop : {A : Type 0} (P : A → Type 0) → ((x : A) → IsProp (P x)) → (xs : List (ℕ × A)) → IsProp (Every P xs)
Every-prop P p [] = Unit-prop
Every-prop P p (x ∷ xs) = ×_prop (p x.1) (Every-prop P p xs)

All-prop : {A : Type 0} (P : A → Type 0) → ((x : A) → IsProp (P x)) → (xs : List A) → IsProp (All P xs)
All-prop P p xs f g i = λ k d lt. p (slice_index_or xs k d) (f k d lt) (g k d lt) i

IsWordText-prop : (w : List ℕ) → IsProp (IsWordText w)
IsWordText-prop [] = ⊥_prop
IsWordText-prop (b ∷ bs) =
    ×_prop (Coded-set class.the_row.coded _ _) (AllByRecursion-prop (λ c. is_word_byte c ≡ true) (λ c. Bool-set _ _) bs)

IsName-prop : (w : List ℕ) → IsProp (IsName w)
IsName-prop w x y i = record {
  word = IsWordText-prop w x.word y.word i;
  short = le_prop x.short y.short i;
  free = Coded-set (coded_option reserved.the_row.coded) _ _ x.free y.free i;
}

pub IsDistinct-prop : (ns : List (List ℕ)) → IsProp (IsDistinct ns)
IsDistinct-prop ns x y i = λ j k d lt le e. ⊥_prop (x j k d lt le e) (y j k d lt le e) i

AreDistinctNames-prop : (ns : List (List ℕ)) → IsProp (AreDistinctNames ns)
AreDistinctNames-prop ns x y i = record {
  each = All-prop IsName IsName-prop ns x.each y.each i;
  distinct = IsDistinct-prop ns x.distinct y.distinct i;
}

NamesOwn-prop : (d : Declaration) (p : Path) → IsProp (NamesOwn d p)
NamesOwn-prop d p = Π_prop (λ a. Π_prop (λ n. ×_prop le_prop (Coded-set coded_ℕ _ _)))

CapacityFits-prop : (l : Law) → IsProp (CapacityFits l)
CapacityFits-prop Cell = Unit-prop
CapacityFits-prop Tally = Unit-prop
CapacityFits-prop (Queue n) = ×_prop le_prop le_prop

pub Lawful-prop : (d : Declaration) → IsProp (Lawful d)
Lawful-prop d x y i = record {
  resource_names = AreDistinctNames-prop _ x.resource_names y.resource_names i;
  operation_names = AreDistinctNames-prop _ x.operation_names y.operation_names i;
  well_formed = Every-prop WellFormed WellFormed-prop _ x.well_formed y.well_formed i;
  named = All-prop (NamesOwn d) (NamesOwn-prop d) d.paths x.named y.named i;
  few_names = λ k p lt. le_prop (x.few_names k p lt) (y.few_names k p lt) i;
  few_resources = le_prop x.few_resources y.few_resources i;
  few_operations = le_prop x.few_operations y.few_operations i;
  few_paths = le_prop x.few_paths y.few_paths i;
  operations = λ k o lt. le_prop (x.operations k o lt) (y.operations k o lt) i;
  paths = λ k p lt. le_prop (x.paths k p lt) (y.paths k p lt) i;
  capacities = All-prop (λ r. CapacityFits r.law) (λ r. CapacityFits-prop r.law) d.resources x.capacities y.capacities i;
  bounded = Every-prop FewAtOnce FewAtOnce-prop _ x.bounded y.bounded i;
}
