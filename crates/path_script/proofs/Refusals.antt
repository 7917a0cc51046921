-- A text with a fault isn't a script, and a text has one script.
use Rattle.std.proofs.Common.{◌≡◌, ◌≢◌, ℕ, List, [], ◌∷◌, ◌++◌, length, ap, Result, Ok, Err, IfErr, All, map, refl, sym, ◌∙◌, subst, arith}
use Rattle.std.proofs.lemmas.List.Elements.{All-head, All-tail, All-nil, All-cons, All-append}
use Rattle.path_model.specs.Declarations.{Declaration}
use Rattle.path_lines.specs.AttemptTexts.{IsFirstLine}
use Rattle.path_script.specs.declared.script.Step.{Step}
use Rattle.path_script.specs.declared.script.Step.TheVariants.{Enter, Apply, Leave}
use Rattle.path_script.specs.declared.fault.Cause.{Cause}
use Rattle.path_script.specs.declared.fault.Cause.TheVariants as causes
use Rattle.path_script.specs.declared.fault.ScriptFault.{ScriptFault}
use Rattle.path_script.specs.declared.fault.ScriptFault.TheVariants as faults
use Rattle.path_script.specs.Scripts.{Plan, steps_in}
use Rattle.path_script.specs.ScriptLines.{ScriptLine, begins, enters, uses, leaves, ends, line_text, LineFits}
use Rattle.path_script.specs.ScriptTexts.{step_line, StepFits, opening_lines, plan_lines, script_lines, PlanFits, IsScriptText, IsNoScriptText, IsScript}
use Rattle.path_script.specs.ScriptFaults.{Standing, MayStand, Bars, uses_nothing, leaves_nothing, enters_deep, many_steps, Breaks, unknown, barred, ends_inside, many_processes, Refuses, no_form, no_rule, Stops, at_line, at_end, Beginning, whole, part, beginning_lines, standing_of, IsBeginning, IsFaultAt, IsScriptFault}
use Rattle.path_script.proofs.LineLemmas.{line_once}
use Rattle.path_script.proofs.Reading.{Compared, ahead, level, behind, reads_compare, reads_once, first_once}
use Rattle.path_script.proofs.Telling.{step_fits}
use Rattle.path_script.proofs.OneScript.{Names, script_once}
use Rattle.path_script.proofs.Running.{State, outside, inside, Next, Runs, runs_once, runs_on, start, state_of, standing_in, standing_is, script_runs, beginning_runs}

-- a line that follows has a form that may stand there
stands : (d : Declaration) (s t : State) (l : ScriptLine) → Next d s l t → MayStand (standing_in s) l
stands d (outside m k) t (begins name) h = tt
stands d (outside m k) t (enters name) h = h
stands d (outside m k) t (uses v) h = h
stands d (outside m k) t leaves h = h
stands d (outside m k) t ends h = h
stands d (inside m k n) t (begins name) h = h
stands d (inside m k n) t (enters name) h = tt
stands d (inside m k n) t (uses v) h = tt
stands d (inside m k n) t leaves h = tt
stands d (inside m k n) t ends h = tt

-- a step that follows isn't barred
not_barred : (d : Declaration) (m k n : ℕ) (s : Step) (t : State) (c : Cause) → Next d (inside m k n) (step_line d s) t → Bars k n s c → ⊥
not_barred d m k n (Enter a) t c h (enters_deep deep) = let few = h.1 in omega (arith, deep, few)
not_barred d m k n (Enter a) t c h (many_steps may many) = let few = h.2 in omega (arith, many, few)
not_barred d m k n (Apply v) t c h (uses_nothing none) = let some = h.0 in omega (arith, none, some)
not_barred d m k n (Apply v) t c h (many_steps may many) = let few = h.1 in omega (arith, many, few)
not_barred d m k n Leave t c h (leaves_nothing none) = let some = h.0 in omega (arith, none, some)
not_barred d m k n Leave t c h (many_steps may many) = let few = h.1 in omega (arith, many, few)

-- a line that follows breaks no rule
keeps : (d : Declaration) (s t : State) (l : ScriptLine) (c : Cause) → Next d s l t → Breaks d (standing_in s) l c → ⊥
keeps d (inside m k n) t (enters name) c h (unknown none) = none h.0
keeps d (inside m k n) t l c h (barred s fit is bars) = not_barred d m k n s t c (subst (λ x. Next d (inside m k n) x t) is h) bars
keeps d (inside m k n) t ends c h (ends_inside some) = let none = h.0 in omega (arith, some, none)
keeps d (outside m k) t (begins name) c h (many_processes many) = let few = h.0 in omega (arith, few, many)
keeps d (outside m k) t (enters name) c h b = h
keeps d (outside m k) t (uses v) c h b = h
keeps d (outside m k) t leaves c h b = h
keeps d (outside m k) t ends c h b = h

-- what is refused doesn't follow
pub refused : (d : Declaration) (s t : State) (line : List ℕ) (c : Cause) (l : ScriptLine) → LineFits l → line ≡ line_text l → Next d s l t → Refuses d (standing_in s) line c → ⊥
refused d s t line c l fit is h (no_form none) = none l fit (stands d s t l h) is
refused d s t line c l fit is h (no_rule m fits same breaks) = keeps d s t m c (subst (λ x. Next d s x t) (line_once l m fit fits (sym is ∙ same)) h) breaks

-- the lines of a script fit
steps_fit : (d : Declaration) (ss : List Step) → Names d → All (StepFits d) ss → All LineFits (map (step_line d) ss)
steps_fit d [] names h = All-nil LineFits
steps_fit d (s ∷ ss) names h = All-cons LineFits (step_line d s) (map (step_line d) ss) (step_fits d s names.distinct.each (All-head (StepFits d) s ss h)) (steps_fit d ss names (All-tail (StepFits d) s ss h))

opening_fits : (d : Declaration) (p : Plan) → Names d → PlanFits d p → All LineFits (opening_lines d p)
opening_fits d p names h = All-cons LineFits (begins p.name) (map (step_line d) p.steps) h.named (steps_fit d p.steps names h.fits)

pub lines_fit : (d : Declaration) (ps : List Plan) → Names d → All (PlanFits d) ps → All LineFits (script_lines d ps)
lines_fit d [] names h = All-nil LineFits
lines_fit d (p ∷ ps) names h =
    let own = All-append LineFits (opening_lines d p) (ends ∷ []) (opening_fits d p names (All-head (PlanFits d) p ps h)) (All-cons LineFits ends [] tt (All-nil LineFits)) in
    All-append LineFits (plan_lines d p) (script_lines d ps) own (lines_fit d ps names (All-tail (PlanFits d) p ps h))

pub beginning_fits : (d : Declaration) (b : Beginning) → Names d → IsBeginning d b → All LineFits (beginning_lines d b)
beginning_fits d (whole ps) names h = lines_fit d ps names h.fits
beginning_fits d (part ps p n) names h = All-append LineFits (script_lines d ps) (opening_lines d p) (lines_fit d ps names h.script.fits) (opening_fits d p names h.fits)

-- behind a beginning that the text goes on from as no script does, no other beginning goes on
pub no_further : (d : Declaration) (b f : Beginning) (s : Standing) (rest : List ℕ) (c : Cause) (l : ScriptLine) (more : List ScriptLine) → IsBeginning d b → IsBeginning d f → s ≡ standing_in (state_of b) → Stops d s rest c
    → beginning_lines d f ≡ beginning_lines d b ++ l ∷ more → rest ≢ [] → LineFits l → IsFirstLine (line_text l) rest → ⊥
no_further d b f s rest c l more kept other is (at_line line some first refuses) e full fit here =
    let next = runs_on d start (state_of b) (state_of f) (beginning_lines d b) more l (beginning_runs d b kept) (subst (λ x. Runs d start x (state_of f)) e (beginning_runs d f other)) in
    refused d (state_of b) next.0 line c l fit (first_once line (line_text l) rest first here) next.1 (subst (λ x. Refuses d x line c) is refuses)
no_further d b f s rest c l more kept other is (at_end none) e full fit here = full none

-- nor does a text end there as a script does
not_whole : (d : Declaration) (b : Beginning) (ps : List Plan) (s : Standing) (rest : List ℕ) (c : Cause) → IsBeginning d b → IsScript d ps → s ≡ standing_in (state_of b) → Stops d s rest c → beginning_lines d b ≡ script_lines d ps → rest ≡ [] → ⊥
not_whole d b ps s rest c kept script is (at_line line some first refuses) e end = some end
not_whole d b ps s rest c kept script is (at_end none) e end =
    let there = runs_once d start (state_of b) (outside (length ps) (steps_in ps)) (script_lines d ps) (subst (λ x. Runs d start x (state_of b)) e (beginning_runs d b kept)) (script_runs d ps script) in
    let same = is ∙ ap standing_in there in cc

-- a text with a faulty line is the text of no script
pub no_text : (d : Declaration) (text : List ℕ) (n : ℕ) (c : Cause) → Names d → IsFaultAt d text n c → IsNoScriptText d text
no_text d text n c names f ps t =
    clash (reads_compare text f.rest [] (beginning_lines d f.beginning) (script_lines d ps) (beginning_fits d f.beginning names f.kept) (lines_fit d ps names t.script.fits) f.reads t.spelled)
  where
    clash : Compared (beginning_lines d f.beginning) (script_lines d ps) f.rest [] → ⊥
    clash (ahead l more e some fit first) = no_further d f.beginning (whole ps) (standing_of f.beginning) f.rest c l more f.kept t.script (standing_is f.beginning) f.stops e some fit first
    clash (level e end) = not_whole d f.beginning ps (standing_of f.beginning) f.rest c f.kept t.script (standing_is f.beginning) f.stops e end
    clash (behind l more e some fit first) = some refl

-- a text has one script
pub one_text : (d : Declaration) (text : List ℕ) (ps qs : List Plan) → Names d → IsScriptText d text ps → IsScriptText d text qs → ps ≡ qs
one_text d text ps qs names s t =
    script_once d ps qs names s.script.fits t.script.fits (reads_once text (script_lines d ps) (script_lines d qs) (lines_fit d ps names s.script.fits) (lines_fit d qs names t.script.fits) s.spelled t.spelled)

-- any error but TooLong and OutOfMemory says that the text isn't a script
pub none_said : (d : Declaration) (text : List ℕ) (e : ScriptFault) → Names d → IsScriptFault d text e → e ≢ faults.TooLong → e ≢ faults.OutOfMemory → IsNoScriptText d text
none_said d text faults.TooLong names f long memory = absurd (long refl)
none_said d text (faults.BadLine n) names f long memory = no_text d text n causes.Bad names f
none_said d text (faults.Undeclared n) names f long memory = no_text d text n causes.Undeclared names f
none_said d text (faults.Unbalanced n) names f long memory = no_text d text n causes.Unbalanced names f
none_said d text (faults.TooDeep n) names f long memory = no_text d text n causes.TooDeep names f
none_said d text (faults.TooMany n) names f long memory = no_text d text n causes.TooMany names f
none_said d text faults.OutOfMemory names f long memory = absurd (memory refl)

-- what is said of an error holds of what follows from it
pub if_err : {T E : Type 0} (r : Result T E) (P Q : E → Type 0) → IfErr r P → ((e : E) → P e → Q e) → IfErr r Q
if_err (Ok x) P Q h f = tt
if_err (Err e) P Q h f = f e h
