-- The text of a report: what can be started, what is blocked, what is live, and whether nothing will ever be admitted again.
use Rattle.std.specs.Prelude.{◌≡◌, ℕ, Bool, true, false, List, [], ◌∷◌, ◌++◌, codes, decimal}
use Rattle.std.specs.List.{flat_map}
use Rattle.path_model.specs.declared.ids.OpId.{OpId}
use Rattle.path_model.specs.declared.ids.PathId.{PathId}
use Rattle.path_model.specs.declared.journal.Activation.{Activation}
use Rattle.path_model.specs.declared.journal.Line.{Line}
use Rattle.path_model.specs.Declarations.{Declaration}
use Rattle.path_lines.specs.LineTexts.{operation_text}
use Rattle.path_system.specs.Reports.{IsReport}

-- an operation after a space
abbrev pub operation_word : Declaration → OpId → List ℕ
operation_word d a = 32 ∷ operation_text d a

-- one line of the operations that can be started
abbrev pub startable_line : Declaration → List OpId → List ℕ
startable_line d startable = codes "startable" ++ (flat_map (operation_word d) startable ++ 10 ∷ [])

-- the line of a blocked operation, with the first path that forbids its start
abbrev pub blocked_line : Declaration → OpId × PathId → List ℕ
blocked_line d b = codes "blocked" ++ (operation_word d b.0 ++ (32 ∷ (decimal b.1.0 ++ 10 ∷ [])))

-- the line of a live activation: its number, its worker, and its operation
abbrev pub live_line : Declaration → Activation → List ℕ
live_line d x = codes "live " ++ (decimal x.act.0 ++ (32 ∷ (decimal x.worker ++ (operation_word d x.op ++ 10 ∷ []))))

-- the line that says whether nothing will ever be admitted again
abbrev pub frozen_line : Bool → List ℕ
frozen_line true = codes "frozen yes\n"
frozen_line false = codes "frozen no\n"

-- the whole report: the startable line, a line for each blocked operation and for each live activation, and the frozen line
abbrev pub report_text : Declaration → List OpId → List (OpId × PathId) → List Activation → Bool → List ℕ
report_text d startable blocked live frozen =
    startable_line d startable
    ++ (flat_map (blocked_line d) blocked ++ (flat_map (live_line d) live ++ frozen_line frozen))

-- the bytes are the text of the report of a system that has this journal
pub record IsReportText (d : Declaration) (journal : List Line) (bytes : List ℕ) : Type 0 where
  pub startable : List OpId
  pub blocked : List (OpId × PathId)
  pub live : List Activation
  pub frozen : Bool
  pub told : IsReport d journal startable blocked live frozen
  pub spelled : bytes ≡ report_text d startable blocked live frozen
