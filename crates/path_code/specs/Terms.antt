-- The prologues and epilogues of the code, as terms of the one table.
use Rattle.path_code.specs.declared.terms.Prologue.{Prologue}
use Rattle.path_code.specs.declared.terms.Prologue.TheVariants.{P, PP, PPN}
use Rattle.path_code.specs.declared.terms.Epilogue.{Epilogue}
use Rattle.path_code.specs.declared.terms.Epilogue.TheVariants.{V, VV, VVN}
use Rattle.path_model.specs.Flat.{TableTerm, PlainAt, BracedAt, CountedAt}

-- the prologue that is this term
abbrev pub prologue_at : TableTerm → Prologue
prologue_at (PlainAt q) = P q
prologue_at (BracedAt c q) = PP c q
prologue_at (CountedAt c q u) = PPN c q u

-- the epilogue that is this term
abbrev pub epilogue_at : TableTerm → Epilogue
epilogue_at (PlainAt q) = V q
epilogue_at (BracedAt c q) = VV c q
epilogue_at (CountedAt c q u) = VVN c q u
