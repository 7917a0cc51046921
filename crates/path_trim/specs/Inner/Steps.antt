-- What is left of the code of a path.
use Rattle.std.specs.Prelude.{Bool, Option, Some, None, if◌then◌else◌}
use Rattle.path_code.specs.declared.terms.Prologue.{Prologue}
use Rattle.path_code.specs.declared.terms.Prologue.TheVariants.{P, PP, PPN}
use Rattle.path_code.specs.declared.terms.Epilogue.{Epilogue}
use Rattle.path_code.specs.declared.terms.Epilogue.TheVariants.{V, VV, VVN}
use Rattle.path_code.specs.declared.terms.OpCode.{OpCode}
use Rattle.path_trim.specs.declared.table.LeanOp.{LeanOp}

-- what is left of a prologue; the Bool says whether one pair of braces is the whole path
abbrev pub prologue_kept : Bool → Prologue → Option Prologue
prologue_kept whole (P q) = Some (P q)
prologue_kept whole (PP c q) = if whole then None else Some (PP c q)
prologue_kept whole (PPN c q u) = if whole then Some (P u) else Some (PPN c q u)

-- the same for an epilogue
abbrev pub epilogue_kept : Bool → Epilogue → Option Epilogue
epilogue_kept whole (V q) = Some (V q)
epilogue_kept whole (VV c q) = if whole then None else Some (VV c q)
epilogue_kept whole (VVN c q u) = if whole then Some (V u) else Some (VVN c q u)

-- the same for an operation
abbrev pub op_kept : Bool → OpCode → LeanOp
op_kept whole o = record { op = o.op; prologue = prologue_kept whole o.prologue; epilogue = epilogue_kept whole o.epilogue }
