-- What a caller knows of a script.
use Rattle.std.specs.Prelude.{ℕ, List, [], ◌∷◌, slice_index_or, refl}
use Rattle.std.specs.Coded.{Coded, Coded-set, code_by, coded×, coded_list, coded_ℕ, ×_prop, le_prop}
use base.Stored.{coded_sub}
use Rattle.path_script.specs.contracts.script.Step as step
use Rattle.path_script.specs.declared.script.Step.{Step}
use Rattle.path_script.specs.declared.script.Step.TheVariants.{Enter, Apply, Leave}
use Rattle.path_script.specs.Scripts.{Plan, MayStep, entered_after, Leads, LawfulScript}

MayStep-prop : (n : ℕ) (s : Step) → IsProp (MayStep n s)
MayStep-prop n (Enter a) = le_prop
MayStep-prop n (Apply v) = le_prop
MayStep-prop n Leave = le_prop

Leads-prop : (n : ℕ) (steps : List Step) (m : ℕ) → IsProp (Leads n steps m)
Leads-prop n [] m = Coded-set coded_ℕ _ _
Leads-prop n (s ∷ rest) m = ×_prop (MayStep-prop n s) (Leads-prop (entered_after n s) rest m)

-- there is at most one proof that a script is lawful
pub LawfulScript-prop : (ps : List Plan) → IsProp (LawfulScript ps)
LawfulScript-prop ps x y i = record {
  balanced = λ k p lt. Leads-prop 0 (slice_index_or ps k p).steps 0 (x.balanced k p lt) (y.balanced k p lt) i;
  few_processes = le_prop x.few_processes y.few_processes i;
  few_steps = le_prop x.few_steps y.few_steps i;
}

-- the processes in order, and what always holds of them
pub record KnownScript : Type 0 where
  pub processes : List Plan
  pub lawful : LawfulScript processes

-- a process is stored as the pair of its fields
abbrev pub plan_code : Coded Plan
plan_code =
    code_by (List ℕ × List Step) (coded× (coded_list coded_ℕ) (coded_list step.the_row.coded))
    (λ p. (p.name, p.steps)) (λ p. record { name = p.0; steps = p.1 }) (λ _. refl)

-- a script is stored as its processes
abbrev pub known_code : Coded KnownScript
known_code =
    code_by ((ps : List Plan) × LawfulScript ps) (coded_sub (coded_list plan_code) LawfulScript LawfulScript-prop)
    (λ k. (k.processes, k.lawful)) (λ p. record { processes = p.0; lawful = p.1 }) (λ _. refl)
