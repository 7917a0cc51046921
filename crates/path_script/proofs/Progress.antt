-- How far a script was read, and what the next line makes of it.
use Rattle.std.proofs.Common.{◌≡◌, ◌≢◌, ℕ, ◌+◌, ◌-◌, ◌*◌, ◌<◌, ◌≤◌, List, [], ◌∷◌, ◌++◌, length, drop, All, map, sym, ap, ◌∙◌, subst, append_assoc, arith, length-append, length-drop}
use Rattle.std.proofs.lemmas.List.{append-nil, map-append}
use Rattle.std.proofs.lemmas.List.Elements.{All-push}
use Rattle.std.proofs.lemmas.List.Sums.{sum_by_push}
use Rattle.std.proofs.lemmas.Grind.{flat_map-append}
use Rattle.path_model.specs.Declarations.{Declaration}
use Rattle.path_lex.specs.Names.{IsName}
use Rattle.path_fields.specs.Splits.{HasNone, EndsAt}
use Rattle.path_lines.specs.LineTexts.{operation_names}
use Rattle.path_lines.specs.AttemptTexts.{IsFirstLine}
use Rattle.path_lines.proofs.CallerLemmas.{is_first}
use Rattle.path_script.specs.declared.script.Step.{Step}
use Rattle.path_script.specs.declared.fault.Cause.{Cause}
use Rattle.path_script.specs.declared.fault.Cause.TheVariants as causes
use Rattle.path_script.specs.declared.fault.ScriptFault.{ScriptFault}
use Rattle.path_script.specs.declared.fault.ScriptFault.TheVariants as faults
use Rattle.path_script.specs.Scripts.{Plan, MayStep, entered_after, Leads, IsBalanced, steps_in}
use Rattle.path_script.specs.ScriptLines.{ScriptLine, begins, ends, line_text, LineFits, Reads}
use Rattle.path_script.specs.ScriptTexts.{step_line, StepFits, opening_lines, plan_lines, script_lines, PlanFits, IsScript, IsScriptText}
use Rattle.path_script.specs.ScriptFaults.{within, between, whole, part, Refuses, Stops, at_line, at_end, IsFaultAt, IsStepFault, fault_of, Says, IsScriptFault}
use Rattle.path_script.proofs.StepLemmas.{leads_more, length-opening, length-script}
use Rattle.path_script.proofs.Reading.{reads_first, reads_joined}
use Rattle.path_script.proofs.Telling.{step_fits}

-- a line that was cut off is the first line
pub cut_first : (rest line after : List ℕ) → rest ≡ line ++ after → HasNone 10 line → EndsAt 10 after → IsFirstLine line rest
cut_first rest line after e clean end = is_first line after rest clean end e

-- one line more
pub more_read : (text rest after line : List ℕ) (ls : List ScriptLine) (l : ScriptLine) → rest ≢ [] → LineFits l → line ≡ line_text l → IsFirstLine line rest → after ≡ drop (length line + 1) rest → Reads text ls rest
    → Reads text (ls ++ l ∷ []) after
more_read text rest after line ls l some fit is first left r =
    reads_joined text rest after ls (l ∷ []) r (reads_first rest after l (length line) some fit (subst (λ x. IsFirstLine x rest) is first) (ap length is) left)

-- some steps of a process were read, after a number of steps of others
pub record ReadSteps (d : Declaration) (text : List ℕ) (before : ℕ) (steps : List Step) (entered : ℕ) (rest : List ℕ) : Type 0 where
  pub reads : Reads text (map (step_line d) steps) rest
  pub fits : All (StepFits d) steps
  pub leads : Leads 0 steps entered
  pub few : before + length steps ≤ 4096
  pub shorter : length rest ≤ length text

pub steps_more : (d : Declaration) (text : List ℕ) (before : ℕ) (steps news : List Step) (entered : ℕ) (rest after line : List ℕ) (s : Step) → All IsName (operation_names d) → rest ≢ [] → IsFirstLine line rest → after ≡ drop (length line + 1) rest
    → line ≡ line_text (step_line d s) → StepFits d s → MayStep entered s → before + length steps < 4096 → news ≡ steps ++ s ∷ [] → ReadSteps d text before steps entered rest
    → ReadSteps d text before news (entered_after entered s) after
steps_more d text before steps news entered rest after line s names some first left is fit may few pushed r =
    let longer : length news ≡ length steps + 1 = ap length pushed ∙ length-append steps (s ∷ []) in
    let less : length after ≡ length rest - (length line + 1) = ap length left ∙ length-drop (length line + 1) rest in
    let lines : map (step_line d) news ≡ map (step_line d) steps ++ step_line d s ∷ [] = ap (map (step_line d)) pushed ∙ map-append (step_line d) steps (s ∷ []) in
    let read = more_read text rest after line (map (step_line d) steps) (step_line d s) some (step_fits d s names fit) is first left r.reads in
    record {
      reads = subst (λ x. Reads text x after) (sym lines) read;
      fits = subst (All (StepFits d)) (sym pushed) (All-push (StepFits d) steps s r.fits fit);
      leads = subst (λ x. Leads 0 x (entered_after entered s)) (sym pushed) (leads_more 0 steps entered s r.leads may);
      few = omega (arith, longer, few);
      shorter = let short = r.shorter in omega (arith, short, less);
    }

-- the text can't go on
stopped : (d : Declaration) (text : List ℕ) (lines before : ℕ) (steps : List Step) (entered : ℕ) (rest : List ℕ) (k : ℕ) (c : Cause) → k ≡ length steps → Stops d (within (before + length steps) entered) rest c
    → ReadSteps d text before steps entered rest → IsStepFault d text lines before (lines + k) c
stopped d text lines before steps entered rest k c count stops r = record {
  taken = steps;
  entered = entered;
  rest = rest;
  fits = r.fits;
  leads = r.leads;
  few = r.few;
  reads = r.reads;
  count = ap (λ n. lines + n) (sym count);
  stops = stops;
}

-- the next line can't follow
pub steps_fault : (d : Declaration) (text : List ℕ) (lines before : ℕ) (steps : List Step) (entered : ℕ) (rest line : List ℕ) (j k : ℕ) (c : Cause) → j ≡ length steps → k ≡ length steps → rest ≢ [] → IsFirstLine line rest → Refuses d (within (before + j) entered) line c
    → ReadSteps d text before steps entered rest → IsStepFault d text lines before (lines + k) c
steps_fault d text lines before steps entered rest line j k c told count some first refuses r =
    let here = subst (λ n. Refuses d (within (before + n) entered) line c) told refuses in
    stopped d text lines before steps entered rest k c count (at_line line some first here) r

-- the text ends inside the process
pub steps_open : (d : Declaration) (text : List ℕ) (lines before : ℕ) (steps : List Step) (entered : ℕ) (rest : List ℕ) (k : ℕ) → k ≡ length steps → rest ≡ [] → ReadSteps d text before steps entered rest
    → IsStepFault d text lines before (lines + k) causes.Bad
steps_open d text lines before steps entered rest k count none r = stopped d text lines before steps entered rest k causes.Bad count (at_end none) r

-- what is said of the line of a fault is said of the fault
pub says_at : (long : Type 0) (at : ℕ → Cause → Type 0) (n : ℕ) (c : Cause) → at n c → Says long at (fault_of n c)
says_at long at n causes.Bad h = h
says_at long at n causes.Undeclared h = h
says_at long at n causes.Unbalanced h = h
says_at long at n causes.TooDeep h = h
says_at long at n causes.TooMany h = h

pub says_map : (short long : Type 0) (from to : ℕ → Cause → Type 0) (e : ScriptFault) → (short → long) → ((n : ℕ) (c : Cause) → from n c → to n c) → Says short from e → Says long to e
says_map short long from to faults.TooLong f g h = f h
says_map short long from to (faults.BadLine n) f g h = g n causes.Bad h
says_map short long from to (faults.Undeclared n) f g h = g n causes.Undeclared h
says_map short long from to (faults.Unbalanced n) f g h = g n causes.Unbalanced h
says_map short long from to (faults.TooDeep n) f g h = g n causes.TooDeep h
says_map short long from to (faults.TooMany n) f g h = g n causes.TooMany h
says_map short long from to faults.OutOfMemory f g h = tt

-- some processes were read, with their number of steps
pub record ReadProcesses (d : Declaration) (text : List ℕ) (ps : List Plan) (told : ℕ) (rest : List ℕ) : Type 0 where
  pub script : IsScript d ps
  pub reads : Reads text (script_lines d ps) rest
  pub count : told ≡ steps_in ps

-- the line that begins a process was read
begun : (d : Declaration) (text : List ℕ) (ps : List Plan) (told : ℕ) (rest behind line name : List ℕ) → rest ≢ [] → IsFirstLine line rest → behind ≡ drop (length line + 1) rest → line ≡ line_text (begins name) → IsName name → ReadProcesses d text ps told rest
    → Reads text (script_lines d ps ++ begins name ∷ []) behind
begun d text ps told rest behind line name some first left is fit r = more_read text rest behind line (script_lines d ps) (begins name) some fit is first left r.reads

-- one process more
pub processes_more : (d : Declaration) (text : List ℕ) (ps news : List Plan) (told : ℕ) (rest behind after line name : List ℕ) (p : Plan) (j k : ℕ) → rest ≢ [] → IsFirstLine line rest → behind ≡ drop (length line + 1) rest
    → line ≡ line_text (begins name) → IsName name → p.name ≡ name → j ≡ length ps → j < 16 → k ≡ length p.steps → told + length p.steps ≤ 4096 → All (StepFits d) p.steps → IsBalanced p.steps
    → Reads behind (map (step_line d) p.steps ++ ends ∷ []) after → news ≡ ps ++ p ∷ [] → ReadProcesses d text ps told rest → ReadProcesses d text news (told + k) after
processes_more d text ps news told rest behind after line name p j k some first left is fit named count few size short fits balanced reads pushed r =
    let own : PlanFits d p = record { named = subst IsName (sym named) fit; fits = fits } in
    let longer : length news ≡ length ps + 1 = ap length pushed ∙ length-append ps (p ∷ []) in
    let total : steps_in news ≡ steps_in ps + length p.steps = ap steps_in pushed ∙ sum_by_push (λ (q : Plan). length q.steps) ps p in
    let sum = r.count in
    let head = subst (λ n. Reads text (script_lines d ps ++ begins n ∷ []) behind) (sym named) (begun d text ps told rest behind line name some first left is fit r) in
    let all = reads_joined text behind after (script_lines d ps ++ begins p.name ∷ []) (map (step_line d) p.steps ++ ends ∷ []) head reads in
    let regroup : (script_lines d ps ++ begins p.name ∷ []) ++ (map (step_line d) p.steps ++ ends ∷ []) ≡ script_lines d ps ++ plan_lines d p = append_assoc (script_lines d ps) (begins p.name ∷ []) (map (step_line d) p.steps ++ ends ∷ []) in
    let lines : script_lines d news ≡ script_lines d ps ++ plan_lines d p = ap (script_lines d) pushed ∙ flat_map-append (plan_lines d) ps (p ∷ []) ∙ ap (λ x. script_lines d ps ++ x) (append-nil (plan_lines d p)) in
    record {
      script = record {
        lawful = record {
          balanced = subst (All (λ q. IsBalanced q.steps)) (sym pushed) (All-push (λ (q : Plan). IsBalanced q.steps) ps p r.script.lawful.balanced balanced);
          few_processes = omega (arith, longer, count, few);
          few_steps = omega (arith, total, sum, short);
        };
        fits = subst (All (PlanFits d)) (sym pushed) (All-push (PlanFits d) ps p r.script.fits own);
      };
      reads = subst (λ x. Reads text x after) (regroup ∙ sym lines) all;
      count = omega (arith, total, sum, size);
    }

-- the first line behind whole processes can't follow
pub begin_fault : (d : Declaration) (text : List ℕ) (ps : List Plan) (told : ℕ) (rest line : List ℕ) (j : ℕ) (c : Cause) → j ≡ length ps → rest ≢ [] → IsFirstLine line rest → Refuses d (between j) line c → ReadProcesses d text ps told rest
    → IsFaultAt d text (told + 2 * j) c
begin_fault d text ps told rest line j c count some first refuses r =
    let lines = length-script d ps in
    let sum = r.count in
    record {
      beginning = whole ps;
      rest = rest;
      kept = r.script;
      reads = r.reads;
      count = omega (arith, lines, sum, count);
      stops = at_line line some first (subst (λ n. Refuses d (between n) line c) count refuses);
    }

-- a line of a process can't follow
pub step_fault : (d : Declaration) (text : List ℕ) (ps : List Plan) (told : ℕ) (rest behind line name : List ℕ) (j n : ℕ) (c : Cause) → j ≡ length ps → j < 16 → rest ≢ [] → IsFirstLine line rest → behind ≡ drop (length line + 1) rest
    → line ≡ line_text (begins name) → IsName name → ReadProcesses d text ps told rest → IsStepFault d behind (told + 2 * j + 1) told n c → IsFaultAt d text n c
step_fault d text ps told rest behind line name j n c count few some first left is fit r f =
    let p : Plan = record { name = name; steps = f.taken } in
    let lines = length-script d ps in
    let opening = length-opening d p in
    let both = length-append (script_lines d ps) (opening_lines d p) in
    let sum = r.count in
    let place = f.count in
    let short = f.few in
    let all = reads_joined text behind f.rest (script_lines d ps ++ begins name ∷ []) (map (step_line d) f.taken) (begun d text ps told rest behind line name some first left is fit r) f.reads in
    record {
      beginning = part ps p f.entered;
      rest = f.rest;
      kept = record {
        script = r.script;
        fits = record { named = fit; fits = f.fits };
        leads = f.leads;
        few_processes = omega (arith, count, few);
        few_steps = omega (arith, short, sum);
      };
      reads = subst (λ x. Reads text x f.rest) (append_assoc (script_lines d ps) (begins name ∷ []) (map (step_line d) f.taken)) all;
      count = omega (arith, lines, opening, both, sum, place, count);
      stops = subst (λ x. Stops d (within (x + length f.taken) f.entered) f.rest c) sum f.stops;
    }

-- so the text is refused where its steps are
pub steps_said : (d : Declaration) (text : List ℕ) (ps : List Plan) (told : ℕ) (rest behind line name : List ℕ) (j : ℕ) (e : ScriptFault) → j ≡ length ps → j < 16 → rest ≢ [] → IsFirstLine line rest → behind ≡ drop (length line + 1) rest
    → line ≡ line_text (begins name) → IsName name → ReadProcesses d text ps told rest → Says ⊥ (IsStepFault d behind (told + 2 * j + 1) told) e → IsScriptFault d text e
steps_said d text ps told rest behind line name j e count few some first left is fit r =
    says_map ⊥ (262144 < length text) (IsStepFault d behind (told + 2 * j + 1) told) (IsFaultAt d text) e (λ no. absurd no) (λ n c f. step_fault d text ps told rest behind line name j n c count few some first left is fit r f)

-- nothing is left
pub whole_text : (d : Declaration) (text : List ℕ) (ps : List Plan) (told : ℕ) (rest : List ℕ) → rest ≡ [] → ReadProcesses d text ps told rest → IsScriptText d text ps
whole_text d text ps told rest none r = record { script = r.script; spelled = subst (λ x. Reads text (script_lines d ps) x) none r.reads }
