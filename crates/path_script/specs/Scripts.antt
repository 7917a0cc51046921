-- Processes and their steps, and what always holds of a script.
use Rattle.std.specs.Prelude.{◌≡◌, ℕ, ◌+◌, ◌-◌, ◌<◌, ◌≤◌, List, [], ◌∷◌, length, All}
use Rattle.std.specs.List.{sum_by}
use Rattle.path_script.specs.declared.script.Step.{Step}
use Rattle.path_script.specs.declared.script.Step.TheVariants.{Enter, Apply, Leave}

-- a process: its name, and its steps in order
pub record Plan : Type 0 where
  pub name : List ℕ
  pub steps : List Step

-- the step can be taken when n operations are entered
abbrev pub MayStep : ℕ → Step → Type 0
MayStep n (Enter a) = n < 16
MayStep n (Apply v) = 0 < n
MayStep n Leave = 0 < n

-- how many operations are entered after it
abbrev pub entered_after : ℕ → Step → ℕ
entered_after n (Enter a) = n + 1
entered_after n (Apply v) = n
entered_after n Leave = n - 1

-- with n entered, the steps can be taken one after another, and then m are entered
abbrev pub Leads : ℕ → List Step → ℕ → Type 0
Leads n [] m = n ≡ m
Leads n (s ∷ rest) m = MayStep n s × Leads (entered_after n s) rest m

-- only what was entered is used and left, at most 16 are entered at once, and at the end all are left
abbrev pub IsBalanced : List Step → Type 0
IsBalanced steps = Leads 0 steps 0

-- how many steps all processes have together
abbrev pub steps_in : List Plan → ℕ
steps_in ps = sum_by (λ p. length p.steps) ps

-- Each process is balanced; there are at most 16, and at most 4,096 steps in all.
pub record LawfulScript (ps : List Plan) : Type 0 where
  pub balanced : All (λ p. IsBalanced p.steps) ps
  pub few_processes : length ps ≤ 16
  pub few_steps : steps_in ps ≤ 4096
