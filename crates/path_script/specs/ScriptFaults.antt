-- Faults of a text: the first line that can't follow the lines before it in any script, and why.
use Rattle.std.specs.Prelude.{◌≡◌, ◌≢◌, ℕ, ◌+◌, ◌<◌, ◌≤◌, List, [], ◌++◌, map, length, All, Contains}
use Rattle.path_model.specs.declared.ids.OpId.{OpId}
use Rattle.path_model.specs.declared.journal.Verb.{Verb}
use Rattle.path_model.specs.Declarations.{Declaration}
use Rattle.path_lines.specs.LineTexts.{operation_names}
use Rattle.path_lines.specs.AttemptTexts.{IsFirstLine}
use Rattle.path_script.specs.declared.script.Step.{Step}
use Rattle.path_script.specs.declared.script.Step.TheVariants.{Enter, Apply, Leave}
use Rattle.path_script.specs.declared.fault.Cause.{Cause}
use Rattle.path_script.specs.declared.fault.Cause.TheVariants as causes
use Rattle.path_script.specs.declared.fault.ScriptFault.{ScriptFault}
use Rattle.path_script.specs.declared.fault.ScriptFault.TheVariants as faults
use Rattle.path_script.specs.Scripts.{Plan, MayStep, Leads, steps_in}
use Rattle.path_script.specs.ScriptLines.{ScriptLine, begins, enters, uses, leaves, ends, line_text, LineFits, Reads}
use Rattle.path_script.specs.ScriptTexts.{step_line, StepFits, opening_lines, script_lines, PlanFits, IsScript}

-- what decides which lines can follow
pub data Standing : Type 0 where
  -- this number of processes has come, and all have ended
  between : ℕ → Standing
  -- a process hasn't ended; in all this number of steps has come, and this number of operations is entered
  within : ℕ → ℕ → Standing

-- a line of a form that can come here
abbrev pub MayStand : Standing → ScriptLine → Type 0
MayStand (between m) (begins name) = Unit {0}
MayStand (between m) (enters name) = ⊥
MayStand (between m) (uses v) = ⊥
MayStand (between m) leaves = ⊥
MayStand (between m) ends = ⊥
MayStand (within k n) (begins name) = ⊥
MayStand (within k n) (enters name) = Unit {0}
MayStand (within k n) (uses v) = Unit {0}
MayStand (within k n) leaves = Unit {0}
MayStand (within k n) ends = Unit {0}

-- the step can't be taken after k steps of all processes, when n operations are entered
pub data Bars : ℕ → ℕ → Step → Cause → Type 0 where
  -- nothing is entered that could be used or left
  uses_nothing : {k n : ℕ} {v : Verb} → n ≡ 0 → Bars k n (Apply v) causes.Unbalanced
  leaves_nothing : {k n : ℕ} → n ≡ 0 → Bars k n Leave causes.Unbalanced
  -- 16 operations are entered
  enters_deep : {k n : ℕ} {a : OpId} → 16 ≤ n → Bars k n (Enter a) causes.TooDeep
  -- it would be the 4,097th step
  many_steps : {k n : ℕ} {s : Step} → MayStep n s → 4096 ≤ k → Bars k n s causes.TooMany

-- a line breaks a rule, and no rule that counts before it
pub data Breaks (d : Declaration) : Standing → ScriptLine → Cause → Type 0 where
  -- it enters what isn't declared
  unknown : {k n : ℕ} {name : List ℕ} → (Contains (operation_names d) name → ⊥) → Breaks d (within k n) (enters name) causes.Undeclared
  -- the step can't be taken
  barred : {k n : ℕ} {l : ScriptLine} {c : Cause} (s : Step) → StepFits d s → l ≡ step_line d s → Bars k n s c → Breaks d (within k n) l c
  -- something hasn't been left
  ends_inside : {k n : ℕ} → 0 < n → Breaks d (within k n) ends causes.Unbalanced
  -- it would be the 17th process
  many_processes : {m : ℕ} {name : List ℕ} → 16 ≤ m → Breaks d (between m) (begins name) causes.TooMany

-- this line can't follow, for this cause
pub data Refuses (d : Declaration) : Standing → List ℕ → Cause → Type 0 where
  -- it has none of the forms that can come here
  no_form : {s : Standing} {line : List ℕ} → ((l : ScriptLine) → LineFits l → MayStand s l → line ≢ line_text l)
      → Refuses d s line causes.Bad
  -- it has a form, and breaks a rule
  no_rule : {s : Standing} {line : List ℕ} {c : Cause} (l : ScriptLine) → LineFits l → line ≡ line_text l → Breaks d s l c
      → Refuses d s line c

-- the text can't go on with this rest, for this cause
pub data Stops (d : Declaration) : Standing → List ℕ → Cause → Type 0 where
  -- its first line can't follow
  at_line : {s : Standing} {rest : List ℕ} {c : Cause} (line : List ℕ) → rest ≢ [] → IsFirstLine line rest → Refuses d s line c
      → Stops d s rest c
  -- nothing is left, and a process hasn't ended
  at_end : {k n : ℕ} {rest : List ℕ} → rest ≡ [] → Stops d (within k n) rest causes.Bad

-- the first lines of a script
pub data Beginning : Type 0 where
  -- these processes
  whole : List Plan → Beginning
  -- these processes, and then one that hasn't ended, with this number of operations entered
  part : List Plan → Plan → ℕ → Beginning

abbrev pub beginning_lines : Declaration → Beginning → List ScriptLine
beginning_lines d (whole ps) = script_lines d ps
beginning_lines d (part ps p n) = script_lines d ps ++ opening_lines d p

abbrev pub standing_of : Beginning → Standing
standing_of (whole ps) = between (length ps)
standing_of (part ps p n) = within (steps_in ps + length p.steps) n

-- a process that hasn't ended, after others
pub record IsPart (d : Declaration) (ps : List Plan) (p : Plan) (n : ℕ) : Type 0 where
  pub script : IsScript d ps
  pub fits : PlanFits d p
  pub leads : Leads 0 p.steps n
  pub few_processes : length ps < 16
  pub few_steps : steps_in ps + length p.steps ≤ 4096

-- all rules are kept so far
abbrev pub IsBeginning : Declaration → Beginning → Type 0
IsBeginning d (whole ps) = IsScript d ps
IsBeginning d (part ps p n) = IsPart d ps p n

-- line n of the text is the first that can't follow the lines before it, for this cause
pub record IsFaultAt (d : Declaration) (text : List ℕ) (n : ℕ) (c : Cause) : Type 0 where
  pub beginning : Beginning
  pub rest : List ℕ
  pub kept : IsBeginning d beginning
  pub reads : Reads text (beginning_lines d beginning) rest
  pub count : length (beginning_lines d beginning) ≡ n
  pub stops : Stops d (standing_of beginning) rest c

-- after the line that begins a process, with `lines` lines and `steps` steps before its own, line n is the first that can't follow
pub record IsStepFault (d : Declaration) (text : List ℕ) (lines steps : ℕ) (n : ℕ) (c : Cause) : Type 0 where
  pub taken : List Step
  pub entered : ℕ
  pub rest : List ℕ
  pub fits : All (StepFits d) taken
  pub leads : Leads 0 taken entered
  pub few : steps + length taken ≤ 4096
  pub reads : Reads text (map (step_line d) taken) rest
  pub count : lines + length taken ≡ n
  pub stops : Stops d (within (steps + length taken) entered) rest c

-- the fault of line n
abbrev pub fault_of : ℕ → Cause → ScriptFault
fault_of n causes.Bad = faults.BadLine n
fault_of n causes.Undeclared = faults.Undeclared n
fault_of n causes.Unbalanced = faults.Unbalanced n
fault_of n causes.TooDeep = faults.TooDeep n
fault_of n causes.TooMany = faults.TooMany n

-- what a fault means: one fact if the text is too long, else a fact about a line and a cause
abbrev pub Says : Type 0 → (ℕ → Cause → Type 0) → ScriptFault → Type 0
Says long at faults.TooLong = long
Says long at (faults.BadLine n) = at n causes.Bad
Says long at (faults.Undeclared n) = at n causes.Undeclared
Says long at (faults.Unbalanced n) = at n causes.Unbalanced
Says long at (faults.TooDeep n) = at n causes.TooDeep
Says long at (faults.TooMany n) = at n causes.TooMany
Says long at faults.OutOfMemory = Unit {0}

-- the fault of a text: it is too long, or its first faulty line has this fault
abbrev pub IsScriptFault : Declaration → List ℕ → ScriptFault → Type 0
IsScriptFault d text e = Says (262144 < length text) (IsFaultAt d text) e
