-- Lines are those of one script: each has one step, and each process ends at its first end.
use Rattle.std.proofs.Common.{◌≡◌, ◌≢◌, ℕ, ◌≤◌, List, [], ◌∷◌, ◌++◌, length, All, map, refl, sym, ap, ◌∙◌, append_assoc, arith}
use Rattle.std.proofs.lemmas.List.{append-nil}
use Rattle.std.proofs.lemmas.List.Elements.{All-head, All-tail}
use Rattle.path_model.specs.Declarations.{Declaration}
use Rattle.path_decl.specs.Lawful.{AreDistinctNames}
use Rattle.path_lines.specs.LineTexts.{operation_names}
use Rattle.path_lines.proofs.CallerLemmas.{operation_once}
use Rattle.path_script.specs.declared.script.Step.{Step}
use Rattle.path_script.specs.declared.script.Step.TheVariants.{Enter, Apply, Leave}
use Rattle.path_script.specs.Scripts.{Plan}
use Rattle.path_script.specs.ScriptLines.{ScriptLine, begins, ends}
use Rattle.path_script.specs.ScriptTexts.{step_line, StepFits, plan_lines, script_lines, PlanFits}

-- a declaration whose names tell its operations apart
pub record Names (d : Declaration) : Type 0 where
  pub distinct : AreDistinctNames (operation_names d)
  pub few : length d.operations ≤ 256

-- a line is that of one step
pub step_once : (d : Declaration) (s t : Step) → Names d → StepFits d s → StepFits d t → step_line d s ≡ step_line d t → s ≡ t
step_once d (Enter a) (Enter b) names h k e = ap Enter (operation_once d a b names.distinct (let few = names.few in omega (arith, h, few)) (let few = names.few in omega (arith, k, few)) cc)
step_once d (Enter a) (Apply v) names h k e = cc
step_once d (Enter a) Leave names h k e = cc
step_once d (Apply v) (Enter a) names h k e = cc
step_once d (Apply v) (Apply w) names h k e = let i : v ≡ w = cc in ap Apply i
step_once d (Apply v) Leave names h k e = cc
step_once d Leave (Enter a) names h k e = cc
step_once d Leave (Apply v) names h k e = cc
step_once d Leave Leave names h k e = refl

-- no step ends a process
pub step_goes_on : (d : Declaration) (s : Step) → step_line d s ≢ ends
step_goes_on d (Enter a) e = cc
step_goes_on d (Apply v) e = cc
step_goes_on d Leave e = cc

same_head : {x y : ScriptLine} {xs ys : List ScriptLine} → x ∷ xs ≡ y ∷ ys → x ≡ y
same_head e = cc

same_tail : {x y : ScriptLine} {xs ys : List ScriptLine} → x ∷ xs ≡ y ∷ ys → xs ≡ ys
same_tail e = cc

-- where steps with their end begin with other steps, they are those and more
steps_cut : (d : Declaration) (ss ts : List Step) (ys zs : List ScriptLine) → Names d → All (StepFits d) ss → All (StepFits d) ts → map (step_line d) ss ++ ends ∷ ys ≡ map (step_line d) ts ++ zs
    → (us : List Step) × (ss ≡ ts ++ us) × (zs ≡ map (step_line d) us ++ ends ∷ ys)
steps_cut d ss [] ys zs names h k e = (ss, refl, sym e)
steps_cut d [] (t ∷ ts) ys zs names h k e = absurd (step_goes_on d t (sym (same_head e)))
steps_cut d (s ∷ ss) (t ∷ ts) ys zs names h k e =
    let p = steps_cut d ss ts ys zs names (All-tail (StepFits d) s ss h) (All-tail (StepFits d) t ts k) (same_tail e) in
    let same : s ≡ t = step_once d s t names (All-head (StepFits d) s ss h) (All-head (StepFits d) t ts k) (same_head e) in
    let rest = p.1 in (p.0, cc, p.2)

-- the lines of a process in front of others
plan_first : (d : Declaration) (p : Plan) (ls : List ScriptLine) → plan_lines d p ++ ls ≡ begins p.name ∷ (map (step_line d) p.steps ++ ends ∷ ls)
plan_first d p ls = ap (λ x. begins p.name ∷ x) (append_assoc (map (step_line d) p.steps) (ends ∷ []) ls)

-- processes of one name and the same steps are one
plan_same : (p q : Plan) → p.name ≡ q.name → p.steps ≡ q.steps → p ≡ q
plan_same p q e f = ap (λ (n : List ℕ). let r : Plan = record { name = n; steps = p.steps } in r) e ∙ ap (λ (s : List Step). let r : Plan = record { name = q.name; steps = s } in r) f

-- nothing but the end stands before an end
no_more : (d : Declaration) (us : List Step) (xs ys : List ScriptLine) → ends ∷ xs ≡ map (step_line d) us ++ ends ∷ ys → (us ≡ []) × (xs ≡ ys)
no_more d [] xs ys e = (refl, same_tail e)
no_more d (u ∷ us) xs ys e = absurd (step_goes_on d u (sym (same_head e)))

-- lines are those of one list of processes
pub script_once : (d : Declaration) (ps qs : List Plan) → Names d → All (PlanFits d) ps → All (PlanFits d) qs → script_lines d ps ≡ script_lines d qs → ps ≡ qs
script_once d [] [] names h k e = refl
script_once d [] (q ∷ qs) names h k e = cc
script_once d (p ∷ ps) [] names h k e = cc
script_once d (p ∷ ps) (q ∷ qs) names h k e =
    let fp = All-head (PlanFits d) p ps h in
    let fq = All-head (PlanFits d) q qs k in
    let split : begins p.name ∷ (map (step_line d) p.steps ++ ends ∷ script_lines d ps) ≡ begins q.name ∷ (map (step_line d) q.steps ++ ends ∷ script_lines d qs) =
    sym (plan_first d p (script_lines d ps)) ∙ e ∙ plan_first d q (script_lines d qs) in
    let r = steps_cut d p.steps q.steps (script_lines d ps) (ends ∷ script_lines d qs) names fp.fits fq.fits (same_tail split) in
    let none = no_more d r.0 (script_lines d qs) (script_lines d ps) r.2 in
    let name : p.name ≡ q.name = same_name (same_head split) in
    let steps : p.steps ≡ q.steps = r.1 ∙ ap (λ x. q.steps ++ x) none.0 ∙ append-nil q.steps in
    let same : p ≡ q = plan_same p q name steps in
    let rest : ps ≡ qs = script_once d ps qs names (All-tail (PlanFits d) p ps h) (All-tail (PlanFits d) q qs k) (sym none.1) in
    cc
  where
    same_name : {m n : List ℕ} → begins m ≡ begins n → m ≡ n
    same_name e = cc
