-- Which texts are scripts: the lines of each process, one process after another.
use Rattle.std.specs.Prelude.{ℕ, ◌<◌, List, [], ◌∷◌, ◌++◌, map, length, All}
use Rattle.std.specs.List.{flat_map}
use Rattle.path_model.specs.Declarations.{Declaration}
use Rattle.path_lex.specs.Names.{IsName}
use Rattle.path_lines.specs.LineTexts.{operation_text, VerbFits}
use Rattle.path_script.specs.declared.script.Step.{Step}
use Rattle.path_script.specs.declared.script.Step.TheVariants.{Enter, Apply, Leave}
use Rattle.path_script.specs.Scripts.{Plan, LawfulScript}
use Rattle.path_script.specs.ScriptLines.{ScriptLine, begins, enters, uses, leaves, ends, Reads}

-- the line of a step; an operation is written by its name
abbrev pub step_line : Declaration → Step → ScriptLine
step_line d (Enter a) = enters (operation_text d a)
step_line d (Apply v) = uses v
step_line d Leave = leaves

-- an operation is declared, and a number has at most 64 bits
abbrev pub StepFits : Declaration → Step → Type 0
StepFits d (Enter a) = a.0 < length d.operations
StepFits d (Apply v) = VerbFits v
StepFits d Leave = Unit {0}

-- a process up to its last step
abbrev pub opening_lines : Declaration → Plan → List ScriptLine
opening_lines d p = begins p.name ∷ map (step_line d) p.steps

-- a process with its end
abbrev pub plan_lines : Declaration → Plan → List ScriptLine
plan_lines d p = opening_lines d p ++ ends ∷ []

abbrev pub script_lines : Declaration → List Plan → List ScriptLine
script_lines d ps = flat_map (plan_lines d) ps

-- a name and steps that have lines
pub record PlanFits (d : Declaration) (p : Plan) : Type 0 where
  pub named : IsName p.name
  pub fits : All (StepFits d) p.steps

-- the processes of a script over the declaration
pub record IsScript (d : Declaration) (ps : List Plan) : Type 0 where
  pub lawful : LawfulScript ps
  pub fits : All (PlanFits d) ps

-- the text has these processes, and nothing else
pub record IsScriptText (d : Declaration) (text : List ℕ) (ps : List Plan) : Type 0 where
  pub script : IsScript d ps
  pub spelled : Reads text (script_lines d ps) []

-- the text isn't a script
abbrev pub IsNoScriptText : Declaration → List ℕ → Type 0
IsNoScriptText d text = (ps : List Plan) → IsScriptText d text ps → ⊥
