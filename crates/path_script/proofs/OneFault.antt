-- A text has one first faulty line, for one cause.
use Rattle.std.proofs.Common.{◌≡◌, ◌≢◌, ℕ, ◌≤◌, List, length, Contains, refl, sym, ap, ◌∙◌, subst, arith}
use Rattle.path_model.specs.Declarations.{Declaration}
use Rattle.path_lines.specs.LineTexts.{operation_names, operation_text}
use Rattle.path_lines.proofs.CallerLemmas.{named}
use Rattle.path_script.specs.declared.script.Step.{Step}
use Rattle.path_script.specs.declared.script.Step.TheVariants.{Enter, Apply, Leave}
use Rattle.path_script.specs.declared.fault.Cause.{Cause}
use Rattle.path_script.specs.declared.fault.Cause.TheVariants as causes
use Rattle.path_script.specs.declared.fault.ScriptFault.{ScriptFault}
use Rattle.path_script.specs.declared.fault.ScriptFault.TheVariants as faults
use Rattle.path_script.specs.ScriptLines.{ScriptLine, begins, enters, uses, leaves, ends}
use Rattle.path_script.specs.ScriptTexts.{step_line, StepFits}
use Rattle.path_script.specs.ScriptFaults.{Standing, between, within, MayStand, Bars, uses_nothing, leaves_nothing, enters_deep, many_steps, Breaks, unknown, barred, ends_inside, many_processes, Refuses, no_form, no_rule, Stops, at_line, at_end, beginning_lines, standing_of, IsFaultAt, fault_of, IsScriptFault}
use Rattle.path_script.proofs.LineLemmas.{line_once}
use Rattle.path_script.proofs.Reading.{Compared, ahead, level, behind, reads_compare, first_once}
use Rattle.path_script.proofs.OneScript.{Names, step_once, step_goes_on}
use Rattle.path_script.proofs.Running.{Runs, runs_once, start, state_of, standing_in, standing_is, beginning_runs}
use Rattle.path_script.proofs.Refusals.{beginning_fits, no_further}

-- a line that breaks a rule has a form that may stand there
breaks_stands : (d : Declaration) (s : Standing) (l : ScriptLine) (c : Cause) → Breaks d s l c → MayStand s l
breaks_stands d (within k n) (enters name) c (unknown none) = tt
breaks_stands d (within k n) l c (barred s fit is bars) = subst (MayStand (within k n)) (sym is) (step_stands s)
  where
    step_stands : (s : Step) → MayStand (within k n) (step_line d s)
    step_stands (Enter a) = tt
    step_stands (Apply v) = tt
    step_stands Leave = tt
breaks_stands d (within k n) ends c (ends_inside some) = tt
breaks_stands d (between m) (begins name) c (many_processes many) = tt
breaks_stands d (between m) (enters name) c b = elim b [ ]
breaks_stands d (between m) (uses v) c b = elim b [ ]
breaks_stands d (between m) leaves c b = elim b [ ]
breaks_stands d (between m) ends c b = elim b [ ]

-- a step is barred for one cause
bars_once : (k n : ℕ) (s : Step) (c e : Cause) → Bars k n s c → Bars k n s e → c ≡ e
bars_once k n (Enter a) c e (enters_deep deep) (enters_deep other) = refl
bars_once k n (Enter a) c e (enters_deep deep) (many_steps may many) = absurd (omega (arith, deep, may))
bars_once k n (Enter a) c e (many_steps may many) (enters_deep deep) = absurd (omega (arith, deep, may))
bars_once k n (Enter a) c e (many_steps may many) (many_steps again other) = refl
bars_once k n (Apply v) c e (uses_nothing none) (uses_nothing other) = refl
bars_once k n (Apply v) c e (uses_nothing none) (many_steps may many) = absurd (omega (arith, none, may))
bars_once k n (Apply v) c e (many_steps may many) (uses_nothing none) = absurd (omega (arith, none, may))
bars_once k n (Apply v) c e (many_steps may many) (many_steps again other) = refl
bars_once k n Leave c e (leaves_nothing none) (leaves_nothing other) = refl
bars_once k n Leave c e (leaves_nothing none) (many_steps may many) = absurd (omega (arith, none, may))
bars_once k n Leave c e (many_steps may many) (leaves_nothing none) = absurd (omega (arith, none, may))
bars_once k n Leave c e (many_steps may many) (many_steps again other) = refl

-- a step enters a declared operation
declared_name : (d : Declaration) (name : List ℕ) (s : Step) → StepFits d s → enters name ≡ step_line d s → Contains (operation_names d) name
declared_name d name (Enter a) fit e = let same : name ≡ operation_text d a = cc in subst (Contains (operation_names d)) (sym same) (named d a fit).1
declared_name d name (Apply v) fit e = cc
declared_name d name Leave fit e = cc

-- a line breaks one rule first
breaks_once : (d : Declaration) (s : Standing) (l : ScriptLine) (c e : Cause) → Names d → Breaks d s l c → Breaks d s l e → c ≡ e
breaks_once d (within k n) (enters name) c e names (unknown none) (unknown other) = refl
breaks_once d (within k n) (enters name) c e names (unknown none) (barred s fit is bars) = absurd (none (declared_name d name s fit is))
breaks_once d (within k n) (enters name) c e names (barred s fit is bars) (unknown none) = absurd (none (declared_name d name s fit is))
breaks_once d (within k n) l c e names (barred s fit is bars) (barred t fits same other) =
    bars_once k n s c e bars (subst (λ x. Bars k n x e) (sym (step_once d s t names fit fits (sym is ∙ same))) other)
breaks_once d (within k n) ends c e names (barred s fit is bars) (ends_inside some) = absurd (step_goes_on d s (sym is))
breaks_once d (within k n) ends c e names (ends_inside some) (barred s fit is bars) = absurd (step_goes_on d s (sym is))
breaks_once d (within k n) ends c e names (ends_inside some) (ends_inside other) = refl
breaks_once d (between m) (begins name) c e names (many_processes many) (many_processes other) = refl
breaks_once d (between m) (enters name) c e names b other = elim b [ ]
breaks_once d (between m) (uses v) c e names b other = elim b [ ]
breaks_once d (between m) leaves c e names b other = elim b [ ]
breaks_once d (between m) ends c e names b other = elim b [ ]

-- a line is refused for one cause
refuses_once : (d : Declaration) (s : Standing) (line : List ℕ) (c e : Cause) → Names d → Refuses d s line c → Refuses d s line e → c ≡ e
refuses_once d s line c e names (no_form none) (no_form other) = refl
refuses_once d s line c e names (no_form none) (no_rule l fit is breaks) = absurd (none l fit (breaks_stands d s l e breaks) is)
refuses_once d s line c e names (no_rule l fit is breaks) (no_form none) = absurd (none l fit (breaks_stands d s l c breaks) is)
refuses_once d s line c e names (no_rule l fit is breaks) (no_rule m fits same other) =
    breaks_once d s l c e names breaks (subst (λ x. Breaks d s x e) (sym (line_once l m fit fits (sym is ∙ same))) other)

stops_once : (d : Declaration) (s : Standing) (rest : List ℕ) (c e : Cause) → Names d → Stops d s rest c → Stops d s rest e → c ≡ e
stops_once d s rest c e names (at_line line some first refuses) (at_line other more here again) =
    refuses_once d s line c e names refuses (subst (λ x. Refuses d s x e) (sym (first_once line other rest first here)) again)
stops_once d (within k n) rest c e names (at_line line some first refuses) (at_end none) = absurd (some none)
stops_once d (within k n) rest c e names (at_end none) (at_line line some first refuses) = absurd (some none)
stops_once d (within k n) rest c e names (at_end none) (at_end other) = refl

-- a text has one first faulty line
pub fault_once : (d : Declaration) (text : List ℕ) (n m : ℕ) (c e : Cause) → Names d → IsFaultAt d text n c → IsFaultAt d text m e → (n ≡ m) × (c ≡ e)
fault_once d text n m c e names f g =
    same (reads_compare text f.rest g.rest (beginning_lines d f.beginning) (beginning_lines d g.beginning) (beginning_fits d f.beginning names f.kept) (beginning_fits d g.beginning names g.kept) f.reads g.reads)
  where
    same : Compared (beginning_lines d f.beginning) (beginning_lines d g.beginning) f.rest g.rest → (n ≡ m) × (c ≡ e)
    same (ahead l more is some fit first) = absurd (no_further d f.beginning g.beginning (standing_of f.beginning) f.rest c l more f.kept g.kept (standing_is f.beginning) f.stops is some fit first)
    same (behind l more is some fit first) = absurd (no_further d g.beginning f.beginning (standing_of g.beginning) g.rest e l more g.kept f.kept (standing_is g.beginning) g.stops is some fit first)
    same (level is end) =
        let there = runs_once d start (state_of f.beginning) (state_of g.beginning) (beginning_lines d g.beginning) (subst (λ x. Runs d start x (state_of f.beginning)) is (beginning_runs d f.beginning f.kept)) (beginning_runs d g.beginning g.kept) in
        let stand : standing_of f.beginning ≡ standing_of g.beginning = standing_is f.beginning ∙ ap standing_in there ∙ sym (standing_is g.beginning) in
        let here = subst (λ x. Stops d (standing_of g.beginning) x c) end (subst (λ s. Stops d s f.rest c) stand f.stops) in
        (sym f.count ∙ ap length is ∙ g.count, stops_once d (standing_of g.beginning) g.rest c e names here g.stops)

-- what is said of a text that isn't too long, OutOfMemory aside
line_said : (d : Declaration) (text : List ℕ) (e : ScriptFault) → length text ≤ 262144 → e ≢ faults.OutOfMemory → IsScriptFault d text e → (n : ℕ) × (c : Cause) × (e ≡ fault_of n c) × IsFaultAt d text n c
line_said d text faults.TooLong short memory f = absurd (omega (arith, short, f))
line_said d text (faults.BadLine n) short memory f = (n, causes.Bad, refl, f)
line_said d text (faults.Undeclared n) short memory f = (n, causes.Undeclared, refl, f)
line_said d text (faults.Unbalanced n) short memory f = (n, causes.Unbalanced, refl, f)
line_said d text (faults.TooDeep n) short memory f = (n, causes.TooDeep, refl, f)
line_said d text (faults.TooMany n) short memory f = (n, causes.TooMany, refl, f)
line_said d text faults.OutOfMemory short memory f = absurd (memory refl)

-- so such a text has one fault
pub said_once : (d : Declaration) (text : List ℕ) (e : ScriptFault) → Names d → IsScriptFault d text e → (f : ScriptFault) → length text ≤ 262144 → e ≢ faults.OutOfMemory → f ≢ faults.OutOfMemory → IsScriptFault d text f → f ≡ e
said_once d text e names h f short memory other k =
    let p = line_said d text e short memory h in
    let q = line_said d text f short other k in
    let same = fault_once d text q.0 p.0 q.1 p.1 names q.3 p.3 in
    q.2 ∙ ap (λ n. fault_of n q.1) same.0 ∙ ap (fault_of p.0) same.1 ∙ sym p.2
