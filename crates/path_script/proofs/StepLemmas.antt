-- Steps, one after another: what they lead to, and how many lines they have.
use Rattle.std.proofs.Common.{◌≡◌, ℕ, ◌+◌, ◌*◌, List, [], ◌∷◌, ◌++◌, length, refl, sym, ap, subst, arith, length-append, map}
use Rattle.std.proofs.lemmas.List.{length-map}
use Rattle.std.proofs.lemmas.List.Sums.{sum_by-cons}
use Rattle.path_model.specs.Declarations.{Declaration}
use Rattle.path_script.specs.declared.script.Step.{Step}
use Rattle.path_script.specs.Scripts.{Plan, MayStep, entered_after, Leads, steps_in}
use Rattle.path_script.specs.ScriptLines.{ends}
use Rattle.path_script.specs.ScriptTexts.{step_line, opening_lines, plan_lines, script_lines}

-- one step more
pub leads_more : (n : ℕ) (steps : List Step) (m : ℕ) (s : Step) → Leads n steps m → MayStep m s → Leads n (steps ++ s ∷ []) (entered_after m s)
leads_more n [] m s e may = (subst (λ k. MayStep k s) (sym e) may, ap (λ k. entered_after k s) e)
leads_more n (t ∷ rest) m s h may = (h.0, leads_more (entered_after n t) rest m s h.1 may)

-- how many lines processes have
pub length-opening : (d : Declaration) (p : Plan) → length (opening_lines d p) ≡ length p.steps + 1
length-opening d p = let n : length (map (step_line d) p.steps) ≡ length p.steps = length-map p.steps (step_line d) in omega (arith, n)

pub length-script : (d : Declaration) (ps : List Plan) → length (script_lines d ps) ≡ steps_in ps + 2 * length ps
length-script d [] = refl
length-script d (p ∷ ps) =
    let here = length-append (plan_lines d p) (script_lines d ps) in
    let own = length-append (opening_lines d p) (ends ∷ []) in
    let opening = length-opening d p in
    let rest = length-script d ps in
    let sum : steps_in (p ∷ ps) ≡ length p.steps + steps_in ps = sum_by-cons (λ (q : Plan). length q.steps) p ps in
    omega (arith, here, own, opening, rest, sum)
