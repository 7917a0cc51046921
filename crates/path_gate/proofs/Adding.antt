-- One path after the other is added to the table.
use Rattle.std.proofs.Common.{◌≡◌, ◌+◌, ◌<◌, ◌≤◌, ℕ, List, [], ◌∷◌, ◌++◌, length, map, get_or, drop, replicate, arith, sym, ap, ◌∙◌, subst, inl, inr, All, Vec}
use Rattle.std.proofs.Math.ListN.{drop_of_length-le}
use Rattle.std.proofs.lemmas.List.{append-nil, append_assoc, length-replicate, get_or-replicate, get_or_past, get_or-map, length-map}
use Rattle.std.proofs.lemmas.Bool.{cases_lt}
use Rattle.path_model.specs.declared.ids.OpId.{OpId}
use Rattle.path_model.specs.Trees.{Tree}
use Rattle.path_trim.specs.declared.table.LeanPath.{LeanPath}
use Rattle.path_trim.specs.LawfulTrees.{LawfulTrees}
use Rattle.path_trim.specs.LeanTable.{LeanRow, lean_table}
use Rattle.path_trim.specs.Rows.{row_of}
use Rattle.path_gate.specs.declared.gate.Term.{Term}
use Rattle.path_gate.specs.Inner.Initial.{put_all, at_zero, rows_of, terms_for, ops_terms, rows_terms, semaphores_put, counters_put, IsBelow}
use Rattle.path_gate.proofs.Runs.{drop_more}
use Rattle.path_gate.proofs.Opened.{table_low}

no_rows : (n i : ℕ) → get_or {A = List Term} (replicate n []) i [] ≡ []
no_rows n i = elim (cases_lt i n) [ inl l ↦ get_or-replicate n i [] [] l | inr l ↦ get_or_past (replicate n []) i [] (let e : length {A = List Term} (replicate n []) ≡ n = length-replicate n [] in omega arith) ]

module _ {Z : Type 0} (ss : List Tree) (items : List (LeanPath Z)) (table : map row_of items ≡ lean_table ss) where
  -- nothing is added yet
  module _ (by_op : List (Vec Term Z)) (none : rows_of by_op ≡ replicate 256 []) where
    pub first_rows : length by_op ≡ 256
    first_rows = sym (length-map by_op (λ terms. terms.items)) ∙ ap length none ∙ length-replicate {A = List Term} 256 []

    pub first_terms : (a : OpId) → terms_for by_op a ++ rows_terms (map row_of items) a ≡ rows_terms (lean_table ss) a
    first_terms a = ap (λ ts. ts ++ rows_terms (map row_of items) a) (ap (λ rs. get_or rs a.0 []) none ∙ no_rows 256 a.0) ∙ ap (λ rs. rows_terms rs a) table

  -- a path
  module _ (i : ℕ) (l : i < length items) (p : LeanPath Z) (is : p ≡ get_or items i p) where
    abbrev rest : List LeanRow
    rest = map row_of (drop (i + 1) items)

    step : map row_of (drop i items) ≡ row_of p ∷ map row_of (drop (i + 1) items)
    step = ap (map row_of) (drop_more items i p l) ∙ ap (λ q. row_of q ∷ map row_of (drop (i + 1) items)) (sym is)

    row_is : get_or (lean_table ss) i (row_of p) ≡ row_of p
    row_is = ap (λ rs. get_or rs i (row_of p)) (sym table) ∙ get_or-map row_of items i p (row_of p) l ∙ ap row_of (sym is)

    row_there : i < length (lean_table ss)
    row_there = subst (λ rs. i < length rs) table (subst (λ n. i < n) (sym (length-map items row_of)) l)

    pub path_low : (n : ℕ) → n ≡ 256 → LawfulTrees ss → All (IsBelow n) (row_of p).ops
    path_low n e L = subst (λ m. All (IsBelow m) (row_of p).ops) (sym e) (subst (λ r. All (IsBelow 256) r.ops) row_is (table_low ss L i (row_of p) row_there))

    pub more_semaphores : (old new all : List ℕ) → new ≡ put_all (row_of p).semaphores old → semaphores_put (map row_of (drop i items)) old ≡ all → semaphores_put (map row_of (drop (i + 1) items)) new ≡ all
    more_semaphores old new all e before = ap (semaphores_put (map row_of (drop (i + 1) items))) e ∙ ap (λ rs. semaphores_put rs old) (sym step) ∙ before

    pub more_counters : (old new all : List ℕ) → new ≡ put_all (map at_zero (row_of p).counters) old → counters_put (map row_of (drop i items)) old ≡ all → counters_put (map row_of (drop (i + 1) items)) new ≡ all
    more_counters old new all e before = ap (counters_put (map row_of (drop (i + 1) items))) e ∙ ap (λ rs. counters_put rs old) (sym step) ∙ before

    pub more_terms : (a : OpId) (old new all : List Term) → new ≡ old ++ ops_terms p.path (row_of p).ops a → old ++ rows_terms (map row_of (drop i items)) a ≡ all → new ++ rows_terms (map row_of (drop (i + 1) items)) a ≡ all
    more_terms a old new all e before =
        ap (λ ts. ts ++ rows_terms (map row_of (drop (i + 1) items)) a) e ∙ append_assoc old (ops_terms p.path (row_of p).ops a) (rows_terms (map row_of (drop (i + 1) items)) a)
        ∙ ap (λ rs. old ++ rows_terms rs a) (sym step) ∙ before

  -- all are added
  module _ (i : ℕ) (l : length items ≤ i) where
    none_left : map row_of (drop i items) ≡ []
    none_left = ap (map row_of) (drop_of_length-le items l)

    pub last_semaphores : (values all : List ℕ) → semaphores_put (map row_of (drop i items)) values ≡ all → values ≡ all
    last_semaphores values all e = ap (λ rs. semaphores_put rs values) (sym none_left) ∙ e

    pub last_counters : (values all : List ℕ) → counters_put (map row_of (drop i items)) values ≡ all → values ≡ all
    last_counters values all e = ap (λ rs. counters_put rs values) (sym none_left) ∙ e

    pub last_terms : (a : OpId) (terms all : List Term) → terms ++ rows_terms (map row_of (drop i items)) a ≡ all → terms ≡ all
    last_terms a terms all e = sym (append-nil terms) ∙ ap (λ rs. terms ++ rows_terms rs a) (sym none_left) ∙ e
