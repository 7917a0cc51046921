-- What a resource contains after a journal.
use Rattle.std.specs.Prelude.{ℕ, ◌==◌, List, [], ◌∷◌, ◌++◌, Option, Some, None, slice_index_or, if◌then◌else◌}
use Rattle.path_model.specs.declared.journal.Verb.{Verb}
use Rattle.path_model.specs.declared.journal.Attempt.{Attempt}
use Rattle.path_model.specs.declared.journal.Attempt.TheVariants.{Apply}
use Rattle.path_model.specs.declared.journal.Reply.{Reply}
use Rattle.path_model.specs.declared.journal.Reply.TheVariants.{Used}
use Rattle.path_model.specs.declared.journal.Line.{Line}
use Rattle.path_model.specs.declared.journal.Activation.{Activation}
use Rattle.path_model.specs.Declarations.{Declaration, resource_of, law_of}
use Rattle.path_model.specs.Devices.{outcome_of, contents_left}
use Rattle.path_model.specs.Journals.{activation_of, starts}

-- what resource r contains after a verb for an activation, which may be another resource's
abbrev pub verb_applied : Declaration → ℕ → Verb → Option Activation → List ℕ → List ℕ
verb_applied d r verb None held = held
verb_applied d r verb (Some a) held =
    if resource_of d a.op.0 == r then contents_left (outcome_of (law_of d r) verb held) held else held

-- only Used lines change contents
abbrev pub line_applied : Declaration → ℕ → List Line → Attempt → Reply → List ℕ → List ℕ
line_applied d r before (Apply n verb) (Used x) held = verb_applied d r verb (activation_of n (starts before)) held
line_applied d r before attempt reply held = held

abbrev pub contents_from : Declaration → ℕ → List Line → List ℕ → List Line → List ℕ
contents_from d r before held [] = held
contents_from d r before held (l ∷ ls) =
    contents_from d r (before ++ l ∷ []) (line_applied d r before l.attempt l.reply held) ls

-- the opening contents, changed by the table for each Used line of the resource's activations
abbrev pub contents_after : Declaration → List (List ℕ) → List Line → ℕ → List ℕ
contents_after d openings ls r = contents_from d r [] (slice_index_or openings r []) ls
