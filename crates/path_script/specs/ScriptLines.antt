-- The lines of a script: each form has one text.
use Rattle.std.specs.Prelude.{◌≡◌, ℕ, List, [], ◌∷◌, ◌++◌, codes, ◌⊎◌}
use Rattle.std.specs.List.{flat_map}
use Rattle.path_model.specs.declared.journal.Verb.{Verb}
use Rattle.path_lex.specs.Names.{IsName}
use Rattle.path_lines.specs.LineTexts.{verb_text, VerbFits}
use Rattle.path_script.specs.declared.line.Form.{Form}
use Rattle.path_script.specs.declared.line.Form.TheVariants.{Process, Enter, Use, Leave, End}

-- a line of a script
pub data ScriptLine : Type 0 where
  -- a process of this name begins
  begins : List ℕ → ScriptLine
  -- it enters the operation of this name
  enters : List ℕ → ScriptLine
  -- it uses the device of what it entered last and hasn't left
  uses : Verb → ScriptLine
  -- it leaves what it entered last and hasn't left
  leaves : ScriptLine
  -- it ends
  ends : ScriptLine

abbrev pub line_text : ScriptLine → List ℕ
line_text (begins name) = codes "process " ++ name
line_text (enters name) = codes "enter " ++ name
line_text (uses v) = codes "use " ++ verb_text v
line_text leaves = codes "leave"
line_text ends = codes "end"

-- a name is well formed, declared or not, and a number has at most 64 bits
abbrev pub LineFits : ScriptLine → Type 0
LineFits (begins name) = IsName name
LineFits (enters name) = IsName name
LineFits (uses v) = VerbFits v
LineFits leaves = Unit {0}
LineFits ends = Unit {0}

-- the line that was read
abbrev pub line_of : Form → ScriptLine
line_of (Process name) = begins name.now
line_of (Enter name) = enters name.now
line_of (Use v) = uses v
line_of Leave = leaves
line_of End = ends

-- the lines in order, a line feed after each
abbrev pub lines_text : List ScriptLine → List ℕ
lines_text ls = flat_map (λ l. line_text l ++ 10 ∷ []) ls

-- the text begins with these lines and goes on with the rest; if nothing follows, the last line feed may be missing
abbrev pub Reads : List ℕ → List ScriptLine → List ℕ → Type 0
Reads text ls rest = (text ≡ lines_text ls ++ rest) ⊎ ((rest ≡ []) × (text ++ 10 ∷ [] ≡ lines_text ls))
