-- One table for the values of all paths: numbers count through the paths, and the bounds of braces are semaphores like the others.
use Rattle.std.specs.Prelude.{◌≡◌, ◌==◌, ◌≤◌, ◌<◌, ◌+◌, ◌⊎◌, ◌↔◌, nat_lt, if◌then◌else◌, ℕ, List, [], ◌∷◌}
use Rattle.path_model.specs.declared.ids.OpId.{OpId}
use Rattle.path_model.specs.declared.history.Event.{Event}
use Rattle.path_model.specs.declared.history.Event.TheVariants.{Began, Ended}
use Rattle.path_model.specs.Trees.{Bound, any, most, Tree, op, seq, alt, burst, Names, has}
use Rattle.path_model.specs.Histories.{op_of}
use Rattle.path_model.specs.Legal.{Every}
use Rattle.path_model.specs.Machine.{semicolons, braces, Term, Plain, Braced, Counted, prologue, epilogue}
use Rattle.path_model.specs.Machine.{Values, take_one, add_one, Passes, opening}
use Rattle.path_model.specs.AmongOthers.{values_among}

-- 1 for a bound, 0 for none
abbrev pub bound_count : Bound → ℕ
bound_count any = 0
bound_count (most n) = 1

-- how many pairs of braces have a bound
abbrev pub counted_braces : Tree → ℕ
counted_braces (op a) = 0
counted_braces (seq s t) = counted_braces s + counted_braces t
counted_braces (alt s t) = counted_braces s + counted_braces t
counted_braces (burst bd s) = bound_count bd + counted_braces s

-- how many of them have a number below c, if the braces of the tree have the numbers from m on
abbrev pub rank : Tree → ℕ → ℕ → ℕ
rank (op a) m c = 0
rank (seq s t) m c = rank s m c + rank t (m + braces s) c
rank (alt s t) m c = rank s m c + rank t (m + braces s) c
rank (burst bd s) m c = (if nat_lt m c then bound_count bd else 0) + rank s (m + 1) c

-- there is a bound
abbrev pub IsBound : Bound → Type 0
IsBound any = ⊥
IsBound (most n) = Unit {0}

-- the braces number c have a bound, if those of the tree have the numbers from m on
abbrev pub HasBound : Tree → ℕ → ℕ → Type 0
HasBound (op a) m c = ⊥
HasBound (seq s t) m c = HasBound s m c ⊎ HasBound t (m + braces s) c
HasBound (alt s t) m c = HasBound s m c ⊎ HasBound t (m + braces s) c
HasBound (burst bd s) m c = (IsBound bd × (c ≡ m)) ⊎ HasBound s (m + 1) c

-- how many semaphores a path has: its own, then one for each semicolon, then one for each bound
abbrev pub semaphores_in : Tree → ℕ
semaphores_in s = 1 + semicolons s + counted_braces s

-- a path, and the numbers of its own semaphore and of its first braces
pub record Sited : Type 0 where
  pub tree : Tree
  pub own : ℕ
  pub first : ℕ

abbrev pub sited : ℕ → ℕ → List (ℕ × Tree) → List (ℕ × Sited)
sited k c [] = []
sited k c (x ∷ xs) = (x.0, record { tree = x.1; own = k; first = c }) ∷ sited (k + semaphores_in x.1) (c + braces x.1) xs

-- the number of the first bound's semaphore, and of the semaphore of the bound of the path's braces number c
abbrev pub first_bound : Sited → ℕ
first_bound x = x.own + 1 + semicolons x.tree

abbrev pub bound_number : Sited → ℕ → ℕ
bound_number x c = first_bound x + rank x.tree 0 c

-- what an operation does to the table: to a semaphore, through a counter, or through a counter and to a bound's semaphore (last)
pub data TableTerm : Type 0 where
  PlainAt : ℕ → TableTerm
  BracedAt : ℕ → ℕ → TableTerm
  CountedAt : ℕ → ℕ → ℕ → TableTerm

-- the term of a path with the numbers of the table
abbrev pub in_table : Sited → Term → TableTerm
in_table x (Plain q) = PlainAt (x.own + q)
in_table x (Braced c q) = BracedAt (x.first + c) (x.own + q)
in_table x (Counted c q) = CountedAt (x.first + c) (x.own + q) (bound_number x c)

-- the values of all semaphores and of all counters
pub record Table : Type 0 where
  pub semaphore : ℕ → ℕ
  pub counter : ℕ → ℕ

abbrev pub TablePasses : TableTerm → Table → Type 0
TablePasses (PlainAt q) v = 0 < v.semaphore q
TablePasses (BracedAt c q) v = (0 < v.counter c) ⊎ (0 < v.semaphore q)
TablePasses (CountedAt c q u) v = ((0 < v.counter c) ⊎ (0 < v.semaphore q)) × (0 < v.semaphore u)

-- the semaphore loses one; or the counter gains one, and only the first execution takes one from the semaphore
abbrev pub one_taken : ℕ → Table → Table
one_taken q v = record v { semaphore = take_one v.semaphore q }

abbrev pub entered : ℕ → ℕ → Table → Table
entered c q v = record { semaphore = if v.counter c == 0 then take_one v.semaphore q else v.semaphore; counter = add_one v.counter c }

-- the semaphore gains one; or the counter loses one, and only the last execution gives one to the semaphore
abbrev pub one_given : ℕ → Table → Table
one_given q v = record v { semaphore = add_one v.semaphore q }

abbrev pub left : ℕ → ℕ → Table → Table
left c q v = record { semaphore = if v.counter c == 1 then add_one v.semaphore q else v.semaphore; counter = take_one v.counter c }

-- what is taken first is given back last
abbrev pub table_started : TableTerm → Table → Table
table_started (PlainAt q) v = one_taken q v
table_started (BracedAt c q) v = entered c q v
table_started (CountedAt c q u) v = entered c q (one_taken u v)

abbrev pub table_finished : TableTerm → Table → Table
table_finished (PlainAt q) v = one_given q v
table_finished (BracedAt c q) v = left c q v
table_finished (CountedAt c q u) v = one_given u (left c q v)

abbrev pub at_site : Sited → Event → Table → Table
at_site x (Began a) v = table_started (in_table x (prologue x.tree a)) v
at_site x (Ended a) v = table_finished (in_table x (epilogue x.tree a)) v

-- an event changes the values of each path that names its operation
abbrev pub flat_changed : List (ℕ × Sited) → Event → Table → Table
flat_changed [] e v = v
flat_changed (x ∷ xs) e v = flat_changed xs e (if has x.1.tree (op_of e) then at_site x.1 e v else v)

abbrev pub flat_from : List (ℕ × Sited) → Table → List Event → Table
flat_from xs v [] = v
flat_from xs v (e ∷ h) = flat_from xs (flat_changed xs e v) h

-- each path's own semaphore opens with 1
abbrev pub owns : List (ℕ × Sited) → ℕ → ℕ
owns [] i = 0
owns (x ∷ xs) i = (if i == x.1.own then 1 else 0) + owns xs i

-- the bound whose semaphore has the number i, if those of the tree have the numbers from n on; 0 for all other numbers
abbrev pub bound_opening : Tree → ℕ → ℕ → ℕ
bound_opening (op a) n i = 0
bound_opening (seq s t) n i = bound_opening s n i + bound_opening t (n + counted_braces s) i
bound_opening (alt s t) n i = bound_opening s n i + bound_opening t (n + counted_braces s) i
bound_opening (burst any s) n i = bound_opening s n i
bound_opening (burst (most k) s) n i = if i == n then k else bound_opening s (n + 1) i

abbrev pub bound_openings : List (ℕ × Sited) → ℕ → ℕ
bound_openings [] i = 0
bound_openings (x ∷ xs) i = bound_opening x.1.tree (first_bound x.1) i + bound_openings xs i

abbrev pub flat_opening : List (ℕ × Sited) → Table
flat_opening xs = record { semaphore = λ i. owns xs i + bound_openings xs i; counter = λ c. 0 }

-- the table v has the path's own values w
pub record Shows (x : Sited) (v : Table) (w : Values) : Type 0 where
  pub semaphores : (q : ℕ) → q ≤ semicolons x.tree → v.semaphore (x.own + q) ≡ w.semaphore q
  pub counters : (c : ℕ) → c < braces x.tree → v.counter (x.first + c) ≡ w.counter c
  pub limits : (c : ℕ) → HasBound x.tree 0 c → v.semaphore (bound_number x c) ≡ w.bound c
  -- each prologue can pass in the table exactly when it can with the path's own values
  pub passes : (a : OpId) → Names x.tree a → TablePasses (in_table x (prologue x.tree a)) v ↔ Passes (prologue x.tree a) w

-- after every history
abbrev pub OneTableShowsAll : Type 0
OneTableShowsAll =
    (xs : List (ℕ × Tree)) (h : List Event)
    → Every (λ x. Shows x (flat_from (sited 0 0 xs) (flat_opening (sited 0 0 xs)) h) (values_among x.tree (opening x.tree) h))
    (sited 0 0 xs)
