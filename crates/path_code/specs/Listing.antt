-- The text that shows compiled paths.
use Rattle.std.specs.Prelude.{◌+◌, ℕ, List, [], ◌∷◌, ◌++◌, map, codes, decimal, slice_get, Option, Some, None}
use Rattle.path_model.specs.Declarations.{Declaration, Path}
use Rattle.path_model.specs.Flat.{Sited}
use Rattle.path_code.specs.declared.terms.Prologue.{Prologue}
use Rattle.path_code.specs.declared.terms.Prologue.TheVariants.{P, PP, PPN}
use Rattle.path_code.specs.declared.terms.Epilogue.{Epilogue}
use Rattle.path_code.specs.declared.terms.Epilogue.TheVariants.{V, VV, VVN}
use Rattle.path_code.specs.declared.terms.OpCode.{OpCode}
use Rattle.path_code.specs.declared.lister.Mutexes.{Mutexes}
use Rattle.path_code.specs.declared.lister.Mutexes.TheVariants.{Listed, Trimmed}
use Rattle.path_code.specs.PathCodes.{semaphores_of, braces_of, ops_of, sites}

-- a name, or `#` and a number if there is none
abbrev pub name_or_number : Option (List ℕ) → ℕ → List ℕ
name_or_number (Some name) n = name
name_or_number None n = 35 ∷ decimal n

-- an operation, and a resource, by the name if the declaration has it
abbrev pub operation_text : Declaration → ℕ → List ℕ
operation_text d n = name_or_number (slice_get (map (λ o. o.name) d.operations) n) n

abbrev pub resource_text : Declaration → ℕ → List ℕ
resource_text d n = name_or_number (slice_get (map (λ r. r.name) d.resources) n) n

-- `P(s0)` and `V(s0)`
abbrev pub wait_text : ℕ → List ℕ
wait_text q = codes "P(s" ++ (decimal q ++ codes ")")

abbrev pub signal_text : ℕ → List ℕ
signal_text q = codes "V(s" ++ (decimal q ++ codes ")")

-- a pair of braces: `c0,m0,`, its counter and its mutex; or `c0,` once mutexes are removed
abbrev pub pair_text : Mutexes → ℕ → List ℕ
pair_text Listed c = codes "c" ++ (decimal c ++ (codes ",m" ++ (decimal c ++ codes ",")))
pair_text Trimmed c = codes "c" ++ (decimal c ++ codes ",")

-- a prologue and an epilogue, or `-` for none
abbrev pub prologue_text : Mutexes → Option Prologue → List ℕ
prologue_text ms None = codes "-"
prologue_text ms (Some (P q)) = wait_text q
prologue_text ms (Some (PP c q)) = codes "PP(" ++ (pair_text ms c ++ (wait_text q ++ codes ")"))
prologue_text ms (Some (PPN c q u)) = wait_text u ++ (codes "; PP(" ++ (pair_text ms c ++ (wait_text q ++ codes ")")))

abbrev pub epilogue_text : Mutexes → Option Epilogue → List ℕ
epilogue_text ms None = codes "-"
epilogue_text ms (Some (V q)) = signal_text q
epilogue_text ms (Some (VV c q)) = codes "VV(" ++ (pair_text ms c ++ (signal_text q ++ codes ")"))
epilogue_text ms (Some (VVN c q u)) = codes "VV(" ++ (pair_text ms c ++ (signal_text q ++ (codes "); " ++ signal_text u)))

-- `: P(s0) | V(s0)`, what follows the name of an operation
abbrev pub terms_text : Mutexes → Option Prologue → Option Epilogue → List ℕ
terms_text ms p e = codes ": " ++ (prologue_text ms p ++ (codes " | " ++ epilogue_text ms e))

-- the lines of a path: its number and resource, the opening values of semaphores, counters and mutexes, and the operations
abbrev pub header_line : Declaration → ℕ → ℕ → List ℕ
header_line d n r = codes "path " ++ (decimal n ++ (codes " of " ++ resource_text d r))

abbrev pub semaphore_line : ℕ × ℕ → List ℕ
semaphore_line x = codes "s" ++ (decimal x.0 ++ (codes " = " ++ decimal x.1))

abbrev pub counter_line : ℕ → List ℕ
counter_line c = codes "c" ++ (decimal c ++ codes " = 0")

abbrev pub mutex_line : ℕ → List ℕ
mutex_line m = codes "m" ++ (decimal m ++ codes " = 1")

abbrev pub op_line : Declaration → OpCode → List ℕ
op_line d o = operation_text d o.op.0 ++ terms_text Listed (Some o.prologue) (Some o.epilogue)

-- lines, each ended by a line feed
abbrev pub lines_text : List (List ℕ) → List ℕ
lines_text [] = []
lines_text (l ∷ ls) = l ++ (10 ∷ lines_text ls)

-- the text of a path with these semaphores, pairs of braces and operations
abbrev pub parts_text : Declaration → ℕ → ℕ → List (ℕ × ℕ) → List ℕ → List OpCode → List ℕ
parts_text d n r semaphores braces ops =
    lines_text (header_line d n r ∷ []) ++ (lines_text (map semaphore_line semaphores)
    ++ (lines_text (map counter_line braces) ++ (lines_text (map mutex_line braces) ++ lines_text (map (op_line d) ops))))

abbrev pub path_text : Declaration → ℕ → Path → Sited → List ℕ
path_text d n p x = parts_text d n p.resource (semaphores_of x) (braces_of x) (ops_of x)

-- the text of the paths from number n on
abbrev pub paths_text : Declaration → ℕ → List Path → List (ℕ × Sited) → List ℕ
paths_text d n [] xs = []
paths_text d n (p ∷ ps) [] = []
paths_text d n (p ∷ ps) (x ∷ xs) = path_text d n p x.1 ++ paths_text d (n + 1) ps xs

-- the text of all paths
abbrev pub listing_text : Declaration → List Path → List ℕ
listing_text d ps = paths_text d 0 ps (sites ps)
