-- How the table of a gate is filled: value by value, and term by term.
use Rattle.std.specs.Prelude.{◌==◌, ◌+◌, ◌-◌, ◌<◌, if◌then◌else◌, ℕ, List, []}
use Rattle.std.specs.Prelude.{◌∷◌, ◌++◌, length, map, replicate, slice_set, slice_index_or, Vec}
use Rattle.path_model.specs.declared.ids.OpId.{OpId}
use Rattle.path_model.specs.declared.ids.PathId.{PathId}
use Rattle.path_trim.specs.declared.table.LeanOp.{LeanOp}
use Rattle.path_trim.specs.LeanTable.{LeanRow}
use Rattle.path_gate.specs.declared.gate.Term.{Term}

-- the values with x at number i; new places below it have 0
abbrev pub put_value : List ℕ → ℕ → ℕ → List ℕ
put_value values i x = slice_set (values ++ replicate (i + 1 - length values) 0) i x

-- several values, one after the other
abbrev pub put_all : List (ℕ × ℕ) → List ℕ → List ℕ
put_all [] values = values
put_all (p ∷ ps) values = put_all ps (put_value values p.0 p.1)

-- a number with the value 0
abbrev pub at_zero : ℕ → ℕ × ℕ
at_zero n = (n, 0)

-- the terms of all operations, and of one
abbrev pub rows_of : {Z : Type 0} → List (Vec Term Z) → List (List Term)
rows_of by_op = map (λ terms. terms.items) by_op

abbrev pub terms_for : {Z : Type 0} → List (Vec Term Z) → OpId → List Term
terms_for by_op a = slice_index_or (rows_of by_op) a.0 []

-- the operation has a number below n
abbrev pub IsBelow : ℕ → LeanOp → Type 0
IsBelow n o = o.op.0 < n

-- the terms that the operations of a path give to one operation
abbrev pub ops_terms : PathId → List LeanOp → OpId → List Term
ops_terms p [] a = []
ops_terms p (o ∷ os) a =
    if a.0 == o.op.0
    then (record { path = p; prologue = o.prologue; epilogue = o.epilogue } ∷ ops_terms p os a)
    else ops_terms p os a

-- the semaphores, counters and terms of several paths
abbrev pub semaphores_put : List LeanRow → List ℕ → List ℕ
semaphores_put [] values = values
semaphores_put (r ∷ rs) values = semaphores_put rs (put_all r.semaphores values)

abbrev pub counters_put : List LeanRow → List ℕ → List ℕ
counters_put [] values = values
counters_put (r ∷ rs) values = counters_put rs (put_all (map at_zero r.counters) values)

abbrev pub rows_terms : List LeanRow → OpId → List Term
rows_terms [] a = []
rows_terms (r ∷ rs) a = ops_terms r.path r.ops a ++ rows_terms rs a
