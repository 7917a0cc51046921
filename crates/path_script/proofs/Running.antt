-- The lines of a script as turns of a machine: after some lines it is at one place, so what follows them keeps every rule.
use Rattle.std.proofs.Common.{◌≡◌, ℕ, ◌+◌, ◌-◌, ◌<◌, ◌≤◌, List, [], ◌∷◌, ◌++◌, length, All, Contains, map, refl, sym, ap, ◌∙◌, subst, arith}
use Rattle.std.proofs.lemmas.List.Elements.{All-head, All-tail}
use Rattle.std.proofs.lemmas.List.Sums.{sum_by-cons}
use Rattle.path_model.specs.Declarations.{Declaration}
use Rattle.path_lines.specs.LineTexts.{operation_names}
use Rattle.path_lines.proofs.CallerLemmas.{named}
use Rattle.path_script.specs.declared.script.Step.{Step}
use Rattle.path_script.specs.declared.script.Step.TheVariants.{Enter, Apply, Leave}
use Rattle.path_script.specs.Scripts.{Plan, MayStep, entered_after, Leads, IsBalanced, steps_in}
use Rattle.path_script.specs.ScriptLines.{ScriptLine, begins, enters, uses, leaves, ends}
use Rattle.path_script.specs.ScriptTexts.{step_line, StepFits, opening_lines, plan_lines, script_lines, PlanFits, IsScript}
use Rattle.path_script.specs.ScriptFaults.{Standing, between, within, Beginning, whole, part, beginning_lines, standing_of, IsBeginning}

-- how many processes have ended, with how many steps in all; inside a process, how many operations are entered
pub data State : Type 0 where
  outside : ℕ → ℕ → State
  inside : ℕ → ℕ → ℕ → State

-- the line may follow, and leads there
abbrev pub Next : Declaration → State → ScriptLine → State → Type 0
Next d (outside m k) (begins name) t = (m < 16) × (t ≡ inside m k 0)
Next d (outside m k) (enters name) t = ⊥
Next d (outside m k) (uses v) t = ⊥
Next d (outside m k) leaves t = ⊥
Next d (outside m k) ends t = ⊥
Next d (inside m k n) (begins name) t = ⊥
Next d (inside m k n) (enters name) t = Contains (operation_names d) name × (n < 16) × (k < 4096) × (t ≡ inside m (k + 1) (n + 1))
Next d (inside m k n) (uses v) t = (0 < n) × (k < 4096) × (t ≡ inside m (k + 1) n)
Next d (inside m k n) leaves t = (0 < n) × (k < 4096) × (t ≡ inside m (k + 1) (n - 1))
Next d (inside m k n) ends t = (n ≡ 0) × (t ≡ outside (m + 1) k)

-- the lines may follow, one behind another
abbrev pub Runs : Declaration → State → List ScriptLine → State → Type 0
Runs d s [] t = s ≡ t
Runs d s (l ∷ ls) t = (u : State) × Next d s l u × Runs d u ls t

next_once : (d : Declaration) (s t u : State) (l : ScriptLine) → Next d s l t → Next d s l u → t ≡ u
next_once d (outside m k) t u (begins name) h i = h.1 ∙ sym i.1
next_once d (outside m k) t u (enters name) h i = absurd h
next_once d (outside m k) t u (uses v) h i = absurd h
next_once d (outside m k) t u leaves h i = absurd h
next_once d (outside m k) t u ends h i = absurd h
next_once d (inside m k n) t u (begins name) h i = absurd h
next_once d (inside m k n) t u (enters name) h i = h.3 ∙ sym i.3
next_once d (inside m k n) t u (uses v) h i = h.2 ∙ sym i.2
next_once d (inside m k n) t u leaves h i = h.2 ∙ sym i.2
next_once d (inside m k n) t u ends h i = h.1 ∙ sym i.1

-- lines lead to one place
pub runs_once : (d : Declaration) (s t u : State) (ls : List ScriptLine) → Runs d s ls t → Runs d s ls u → t ≡ u
runs_once d s t u [] h i = sym h ∙ i
runs_once d s t u (l ∷ ls) h i = runs_once d h.0 t u ls h.2 (subst (λ v. Runs d v ls u) (sym (next_once d s h.0 i.0 l h.1 i.1)) i.2)

runs_joined : (d : Declaration) (s t u : State) (ls ms : List ScriptLine) → Runs d s ls t → Runs d t ms u → Runs d s (ls ++ ms) u
runs_joined d s t u [] ms h i = subst (λ v. Runs d v ms u) (sym h) i
runs_joined d s t u (l ∷ ls) ms h i = (h.0, h.1, runs_joined d h.0 t u ls ms h.2 i)

-- the line behind lines may follow where they lead
pub runs_on : (d : Declaration) (s t u : State) (ls ms : List ScriptLine) (l : ScriptLine) → Runs d s ls t → Runs d s (ls ++ l ∷ ms) u → (v : State) × Next d t l v
runs_on d s t u [] ms l h i = (i.0, subst (λ v. Next d v l i.0) h i.1)
runs_on d s t u (x ∷ ls) ms l h i = runs_on d h.0 t u ls ms l h.2 (subst (λ v. Runs d v (ls ++ l ∷ ms) u) (sym (next_once d s h.0 i.0 x h.1 i.1)) i.2)

step_next : (d : Declaration) (m k n : ℕ) (s : Step) → StepFits d s → MayStep n s → k < 4096 → Next d (inside m k n) (step_line d s) (inside m (k + 1) (entered_after n s))
step_next d m k n (Enter a) fit may few = ((named d a fit).1, may, few, refl)
step_next d m k n (Apply v) fit may few = (may, few, refl)
step_next d m k n Leave fit may few = (may, few, refl)

steps_run : (d : Declaration) (m k n : ℕ) (ss : List Step) (e : ℕ) → All (StepFits d) ss → Leads n ss e → k + length ss ≤ 4096 → Runs d (inside m k n) (map (step_line d) ss) (inside m (k + length ss) e)
steps_run d m k n [] e fits leads few = ap (λ x. inside m x n) (let i : k ≡ k + 0 = omega arith in i) ∙ ap (λ x. inside m (k + 0) x) leads
steps_run d m k n (s ∷ ss) e fits leads few =
    let rest = steps_run d m (k + 1) (entered_after n s) ss e (All-tail (StepFits d) s ss fits) leads.1 (omega (arith, few)) in
    let place : k + 1 + length ss ≡ k + length (s ∷ ss) = omega arith in
    (inside m (k + 1) (entered_after n s), step_next d m k n s (All-head (StepFits d) s ss fits) leads.0 (omega (arith, few)), subst (λ x. Runs d (inside m (k + 1) (entered_after n s)) (map (step_line d) ss) (inside m x e)) place rest)

opening_runs : (d : Declaration) (m k : ℕ) (p : Plan) (e : ℕ) → m < 16 → All (StepFits d) p.steps → Leads 0 p.steps e → k + length p.steps ≤ 4096 → Runs d (outside m k) (opening_lines d p) (inside m (k + length p.steps) e)
opening_runs d m k p e lt fits leads few = (inside m k 0, (lt, refl), steps_run d m k 0 p.steps e fits leads few)

plan_runs : (d : Declaration) (m k : ℕ) (p : Plan) → m < 16 → All (StepFits d) p.steps → IsBalanced p.steps → k + length p.steps ≤ 4096 → Runs d (outside m k) (plan_lines d p) (outside (m + 1) (k + length p.steps))
plan_runs d m k p lt fits balanced few =
    runs_joined d (outside m k) (inside m (k + length p.steps) 0) (outside (m + 1) (k + length p.steps)) (opening_lines d p) (ends ∷ []) (opening_runs d m k p 0 lt fits balanced few) (outside (m + 1) (k + length p.steps), (refl, refl), refl)

plans_run : (d : Declaration) (m k : ℕ) (ps : List Plan) → All (PlanFits d) ps → All (λ p. IsBalanced p.steps) ps → m + length ps ≤ 16 → k + steps_in ps ≤ 4096 → Runs d (outside m k) (script_lines d ps) (outside (m + length ps) (k + steps_in ps))
plans_run d m k [] fits balanced few short = ap (λ x. outside x k) (let i : m ≡ m + 0 = omega arith in i) ∙ ap (λ x. outside (m + 0) x) (let i : k ≡ k + 0 = omega arith in i)
plans_run d m k (p ∷ ps) fits balanced few short =
    let sum : steps_in (p ∷ ps) ≡ length p.steps + steps_in ps = sum_by-cons (λ (q : Plan). length q.steps) p ps in
    let own = plan_runs d m k p (omega (arith, few)) (All-head (PlanFits d) p ps fits).fits (All-head (λ (q : Plan). IsBalanced q.steps) p ps balanced) (omega (arith, short, sum)) in
    let rest = plans_run d (m + 1) (k + length p.steps) ps (All-tail (PlanFits d) p ps fits) (All-tail (λ (q : Plan). IsBalanced q.steps) p ps balanced) (omega (arith, few)) (omega (arith, short, sum)) in
    let count : m + 1 + length ps ≡ m + length (p ∷ ps) = omega arith in
    let total : k + length p.steps + steps_in ps ≡ k + steps_in (p ∷ ps) = omega (arith, sum) in
    let all = runs_joined d (outside m k) (outside (m + 1) (k + length p.steps)) (outside (m + 1 + length ps) (k + length p.steps + steps_in ps)) (plan_lines d p) (script_lines d ps) own rest in
    subst (λ x. Runs d (outside m k) (script_lines d (p ∷ ps)) (outside (m + length (p ∷ ps)) x)) total (subst (λ x. Runs d (outside m k) (script_lines d (p ∷ ps)) (outside x (k + length p.steps + steps_in ps))) count all)

abbrev pub start : State
start = outside 0 0

-- where it stands behind a beginning
abbrev pub state_of : Beginning → State
state_of (whole ps) = outside (length ps) (steps_in ps)
state_of (part ps p n) = inside (length ps) (steps_in ps + length p.steps) n

abbrev pub standing_in : State → Standing
standing_in (outside m k) = between m
standing_in (inside m k n) = within k n

pub standing_is : (b : Beginning) → standing_of b ≡ standing_in (state_of b)
standing_is (whole ps) = refl
standing_is (part ps p n) = refl

pub script_runs : (d : Declaration) (ps : List Plan) → IsScript d ps → Runs d start (script_lines d ps) (outside (length ps) (steps_in ps))
script_runs d ps s =
    let few = s.lawful.few_processes in
    let short = s.lawful.few_steps in
    let all = plans_run d 0 0 ps s.fits s.lawful.balanced (omega (arith, few)) (omega (arith, short)) in
    let count : 0 + length ps ≡ length ps = omega arith in
    let total : 0 + steps_in ps ≡ steps_in ps = omega arith in
    subst (λ x. Runs d start (script_lines d ps) (outside (length ps) x)) total (subst (λ x. Runs d start (script_lines d ps) (outside x (0 + steps_in ps))) count all)

pub beginning_runs : (d : Declaration) (b : Beginning) → IsBeginning d b → Runs d start (beginning_lines d b) (state_of b)
beginning_runs d (whole ps) s = script_runs d ps s
beginning_runs d (part ps p n) s =
    runs_joined d start (outside (length ps) (steps_in ps)) (inside (length ps) (steps_in ps + length p.steps) n) (script_lines d ps) (opening_lines d p) (script_runs d ps s.script) (opening_runs d (length ps) (steps_in ps) p n s.few_processes s.fits.fits s.leads s.few_steps)
