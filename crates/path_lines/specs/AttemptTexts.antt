-- Texts of attempts, one a line, and the faults of other texts.
use Rattle.std.specs.Prelude.{◌≡◌, ◌≢◌, ℕ, ◌<◌, ◌^◌, List, [], ◌∷◌, ◌++◌, length, codes, decimal, All, Contains, ◌⊎◌}
use Rattle.std.specs.List.{flat_map}
use Rattle.path_model.specs.declared.journal.Attempt.{Attempt}
use Rattle.path_model.specs.Declarations.{Declaration}
use Rattle.path_lex.specs.Names.{IsName}
use Rattle.path_lines.specs.declared.entry.LineFault.{LineFault}
use Rattle.path_lines.specs.declared.entry.LineFault.TheVariants as line_faults
use Rattle.path_lines.specs.declared.texts.TextFault.{TextFault}
use Rattle.path_lines.specs.declared.texts.TextFault.TheVariants as faults
use Rattle.path_fields.specs.Splits.{HasNone}
use Rattle.path_lines.specs.LineTexts.{operation_names, line_text, AttemptFits}

-- a worker's number, and the worker's attempt
abbrev pub Entry : Type 0
Entry = ℕ × Attempt

-- a worker's number has at most 32 bits
abbrev pub EntryFits : Entry → Type 0
EntryFits e = (e.0 < 2 ^ 32) × AttemptFits e.1

-- a line and its line feed
abbrev pub entry_line : Declaration → Entry → List ℕ
entry_line d e = line_text d e.0 e.1 ++ 10 ∷ []

-- the lines of all attempts, in order
abbrev pub entries_text : Declaration → List Entry → List ℕ
entries_text d es = flat_map (entry_line d) es

-- the text has these attempts, one a line; the last line feed may be missing
pub record IsAttemptsText (d : Declaration) (text : List ℕ) (es : List Entry) : Type 0 where
  pub fits : All EntryFits es
  pub spelled : (text ≡ entries_text d es) ⊎ (text ++ 10 ∷ [] ≡ entries_text d es)

-- the text isn't a list of attempts
abbrev pub IsNoAttemptsText : Declaration → List ℕ → Type 0
IsNoAttemptsText d text = (es : List Entry) → IsAttemptsText d text es → ⊥

-- the line isn't an attempt
abbrev pub IsNoEntry : Declaration → List ℕ → Type 0
IsNoEntry d line = (w : ℕ) (a : Attempt) → w < 2 ^ 32 → AttemptFits a → line ≢ line_text d w a

-- the start of an operation by a name that no operation has
pub record StartsUndeclared (d : Declaration) (text : List ℕ) : Type 0 where
  pub name : List ℕ
  pub is_name : IsName name
  pub undeclared : Contains (operation_names d) name → ⊥
  pub spelled : text ≡ codes "start " ++ name

-- the line is right except for that name
pub record IsUndeclaredLine (d : Declaration) (line : List ℕ) : Type 0 where
  pub worker : ℕ
  pub fits : worker < 2 ^ 32
  pub attempt : List ℕ
  pub undeclared : StartsUndeclared d attempt
  pub spelled : line ≡ decimal worker ++ (32 ∷ attempt)

-- the fault of what follows the worker's number
abbrev pub IsAttemptFault : Declaration → List ℕ → LineFault → Type 0
IsAttemptFault d text line_faults.Bad = StartsUndeclared d text → ⊥
IsAttemptFault d text line_faults.Undeclared = StartsUndeclared d text

-- the fault of a line
abbrev pub IsLineFault : Declaration → List ℕ → LineFault → Type 0
IsLineFault d line line_faults.Bad = IsUndeclaredLine d line → ⊥
IsLineFault d line line_faults.Undeclared = IsUndeclaredLine d line

-- the first line of a text
abbrev pub IsFirstLine : List ℕ → List ℕ → Type 0
IsFirstLine line text = HasNone 10 line × ((text ≡ line) ⊎ ((rest : List ℕ) × (text ≡ line ++ 10 ∷ rest)))

-- the first line of a text isn't an attempt, and this is its fault
abbrev pub IsFirstFault : Declaration → List ℕ → LineFault → Type 0
IsFirstFault d text fault = (line : List ℕ) × IsFirstLine line text × IsNoEntry d line × IsLineFault d line fault

-- no attempts before the text make it a text of attempts
abbrev pub IsNoRest : Declaration → List ℕ → Type 0
IsNoRest d text = (before : List Entry) → All EntryFits before → IsNoAttemptsText d (entries_text d before ++ text)

-- the text has n lines that are attempts, and then this line, which isn't
pub record IsFaultyLine (d : Declaration) (text : List ℕ) (n : ℕ) (line : List ℕ) : Type 0 where
  pub before : List Entry
  pub rest : List ℕ
  pub count : length before ≡ n
  pub fits : All EntryFits before
  pub parts : text ≡ entries_text d before ++ rest
  pub more : rest ≢ []
  pub first : IsFirstLine line rest
  pub none : IsNoEntry d line

-- the first faulty line of a text is line n, and this is its fault
abbrev pub IsFaultAt : Declaration → List ℕ → ℕ → LineFault → Type 0
IsFaultAt d text n fault = (line : List ℕ) × IsFaultyLine d text n line × IsLineFault d line fault

-- the fault of a text whose first faulty line is line n
abbrev pub fault_of : ℕ → LineFault → TextFault
fault_of n line_faults.Bad = faults.BadLine n
fault_of n line_faults.Undeclared = faults.Undeclared n

-- the fault of a text: it is too long, or its first faulty line has this fault
abbrev pub IsTextFault : Declaration → List ℕ → TextFault → Type 0
IsTextFault d text faults.TooLong = 134217728 < length text
IsTextFault d text (faults.BadLine n) = IsFaultAt d text n line_faults.Bad
IsTextFault d text (faults.Undeclared n) = IsFaultAt d text n line_faults.Undeclared
IsTextFault d text faults.OutOfMemory = Unit {0}
