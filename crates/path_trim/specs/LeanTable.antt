-- The trimmed table with the numbers of the file.
use Rattle.std.specs.Prelude.{ℕ, List, [], drop, map, Option, Some, None, if◌then◌else◌}
use Rattle.path_model.specs.declared.ids.OpId.{OpId}
use Rattle.path_model.specs.declared.ids.PathId.{PathId}
use Rattle.path_model.specs.Trees.{Tree}
use Rattle.path_model.specs.Flat.{Sited, bound_number, in_table}
use Rattle.path_model.specs.Trimmed.{LeanTerm, nothing, does, limits, is_burst, lean_prologue, lean_epilogue}
use Rattle.path_code.specs.declared.terms.Prologue.{Prologue}
use Rattle.path_code.specs.declared.terms.Prologue.TheVariants.{P}
use Rattle.path_code.specs.declared.terms.Epilogue.{Epilogue}
use Rattle.path_code.specs.declared.terms.Epilogue.TheVariants.{V}
use Rattle.path_code.specs.Names.{names_in}
use Rattle.path_code.specs.Terms.{prologue_at, epilogue_at}
use Rattle.path_code.specs.PathCodes.{semaphores_of, braces_of}
use Rattle.path_trim.specs.declared.table.LeanOp.{LeanOp}
use Rattle.path_trim.specs.Compared.{kept_sites}

-- what is left of a prologue: nothing, all of it, or the P on the bound's semaphore
abbrev pub prologue_left : Sited → LeanTerm → Option Prologue
prologue_left x nothing = None
prologue_left x (does t) = Some (prologue_at (in_table x t))
prologue_left x (limits c) = Some (P (bound_number x c))

-- what is left of an epilogue: nothing, all of it, or the V on the bound's semaphore
abbrev pub epilogue_left : Sited → LeanTerm → Option Epilogue
epilogue_left x nothing = None
epilogue_left x (does t) = Some (epilogue_at (in_table x t))
epilogue_left x (limits c) = Some (V (bound_number x c))

-- what is left of an operation of the path
abbrev pub op_left : Sited → OpId → LeanOp
op_left x a =
    record { op = a; prologue = prologue_left x (lean_prologue x.tree a); epilogue = epilogue_left x (lean_epilogue x.tree a) }

abbrev pub ops_left : Sited → List LeanOp
ops_left x = map (op_left x) (names_in x.tree)

-- if one pair of braces is the whole path, its own semaphore, the first, is gone
abbrev pub semaphores_left : Sited → List (ℕ × ℕ)
semaphores_left x = if is_burst x.tree then drop 1 (semaphores_of x) else semaphores_of x

-- and so is the braces' counter
abbrev pub counters_left : Sited → List ℕ
counters_left x = if is_burst x.tree then [] else braces_of x

-- a path that is kept: its number, its semaphores with their opening values, its counters and its operations
pub record LeanRow : Type 0 where
  pub path : PathId
  pub semaphores : List (ℕ × ℕ)
  pub counters : List ℕ
  pub ops : List LeanOp

abbrev pub lean_row : ℕ × Sited → LeanRow
lean_row x =
    record {
      path = record { 0 = x.0 };
      semaphores = semaphores_left x.1;
      counters = counters_left x.1;
      ops = ops_left x.1;
    }

-- the trimmed table of the paths with these trees
abbrev pub lean_table : List Tree → List LeanRow
lean_table ss = map lean_row (kept_sites ss)
