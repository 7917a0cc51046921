-- The parts of forms.
use Rattle.std.specs.Prelude.{ℕ, List, [], ◌∷◌, ◌++◌, map, Option, Some, None}
use Rattle.path_read.specs.declared.part.Part.{Part}
use Rattle.path_read.specs.declared.part.Part.TheVariants as parts
use Rattle.path_read.specs.declared.part.LawText.{LawText}
use Rattle.path_read.specs.declared.part.LawText.TheVariants as laws
use Rattle.path_decl.specs.Forms.{Form, once, sequence, selection, braced, LawForm, a_cell, a_tally, a_queue, ResourceForm}

-- a part, apart from where its bytes are in memory
pub data Saying : Type 0 where
  a_resource : List ℕ → Saying
  a_law : LawForm → Saying
  an_operation : List ℕ → Saying
  a_path : Saying
  a_name : List ℕ → Saying
  a_sequence : Saying
  a_selection : Saying
  an_opening : Saying
  a_closing : Option (List ℕ) → Saying
  an_end : Saying

-- a law, apart from where its digits are in memory
abbrev pub law_said : LawText → LawForm
law_said laws.Cell = a_cell
law_said laws.Tally = a_tally
law_said (laws.Queue n) = a_queue n.now

abbrev pub saying : Part → Saying
saying (parts.Resource n) = a_resource n.now
saying (parts.Law l) = a_law (law_said l)
saying (parts.Operation n) = an_operation n.now
saying parts.Path = a_path
saying (parts.Name n) = a_name n.now
saying parts.Sequence = a_sequence
saying parts.Selection = a_selection
saying parts.Opening = an_opening
saying parts.Closing = a_closing None
saying (parts.Bound n) = a_closing (Some n.now)
saying parts.End = an_end

-- operands before their operator; braces before and after their content
abbrev pub form_parts : Form → List Saying
form_parts (once n) = a_name n ∷ []
form_parts (sequence s t) = form_parts s ++ (form_parts t ++ a_sequence ∷ [])
form_parts (selection s t) = form_parts s ++ (form_parts t ++ a_selection ∷ [])
form_parts (braced b s) = an_opening ∷ (form_parts s ++ a_closing b ∷ [])

-- a path after its first word
abbrev pub body_parts : Form → List Saying
body_parts f = form_parts f ++ an_end ∷ []

abbrev pub path_parts : List Form → List Saying
path_parts [] = []
path_parts (f ∷ fs) = a_path ∷ (body_parts f ++ path_parts fs)

-- names, and then paths
abbrev pub inner_parts : List (List ℕ) × List Form → List Saying
inner_parts b = map an_operation b.0 ++ path_parts b.1

abbrev pub resource_parts : ResourceForm → List Saying
resource_parts r = a_resource r.name ∷ a_law r.law ∷ inner_parts (r.operations, r.paths)

abbrev pub file_parts : List ResourceForm → List Saying
file_parts [] = []
file_parts (r ∷ rs) = resource_parts r ++ file_parts rs
