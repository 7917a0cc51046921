-- A script of which some steps have been taken.
use Rattle.std.proofs.Common.{◌≡◌, ℕ, ◌+◌, ◌≤◌, ◌<◌, List, [], ◌∷◌, ◌++◌, length, drop, get_or, refl, sym, subst, append_assoc, drop-cons, add-one}
use Rattle.std.proofs.lemmas.List.{at_drop_all}
use Rattle.path_model.specs.declared.ids.ActId.{ActId}
use Rattle.path_workers.specs.declared.answer.Receipt.{Receipt}
use Rattle.path_script.specs.declared.script.Step.{Step}
use Rattle.path_script.specs.declared.script.Step.TheVariants.{Leave}
use Rattle.path_script.specs.Scripts.{MayStep, entered_after, Leads}
use Rattle.path_run.specs.declared.outcome.End.{End}
use Rattle.path_run.specs.declared.outcome.End.TheVariants as ends
use Rattle.path_run.specs.Runs.{Finishes, IsRun}
use Rattle.path_run.specs.Runs.IsRun.{done, gave_up}
use Rattle.path_run.specs.Inner.Parts.{Adds, After, Closes}

-- what has come of the steps before a place
abbrev pub Goes : List Step → ℕ → List ActId → List Receipt → Type 0
Goes all i held old = (rs : List Receipt) (end : End) → IsRun (drop i all) held rs end → IsRun all [] (old ++ rs) end

pub next_step : (steps : List Step) (i : ℕ) (d : Step) → i < length steps → drop i steps ≡ get_or steps i d ∷ drop (i + 1) steps
next_step steps i d lt = rw (add-one, drop-cons steps i d) refl

pub next_act : (acts : List ActId) (i : ℕ) (d : ActId) → i < length acts → drop i acts ≡ get_or acts i d ∷ drop (i + 1) acts
next_act acts i d lt = rw (add-one, drop-cons acts i d) refl

-- the step is refused
pub stopped_at : (all : List Step) (i : ℕ) (held : List ActId) (old : List Receipt) → i < length all → Goes all i held old
    → (rs : List Receipt) → Finishes held rs → IsRun all [] (old ++ rs) ends.Stopped
stopped_at all i held old lt goes rs fin =
    goes rs ends.Stopped (subst (λ (ss : List Step). IsRun ss held rs ends.Stopped) (sym (next_step all i Leave lt)) (gave_up (get_or all i Leave) (drop (i + 1) all) held rs ends.Stopped refl fin))

-- all steps were taken
pub done_at : (all : List Step) (i : ℕ) (held : List ActId) (old : List Receipt) → length all ≤ i → Leads (length held) (drop i all) 0 → Goes all i held old
    → (rs : List Receipt) → rs ≡ [] → IsRun all [] (old ++ rs) ends.Done
done_at all i held old le leads goes rs none =
    let behind : drop i all ≡ [] = at_drop_all (λ (ss : List Step). ss) all i le in
    let left : held ≡ [] = no_more held (subst (λ (ss : List Step). Leads (length held) ss 0) behind leads) in
    goes rs ends.Done (subst (λ (ss : List Step). IsRun ss held rs ends.Done) (sym behind) (subst (λ (h : List ActId). IsRun [] h rs ends.Done) (sym left) (subst (λ (xs : List Receipt). IsRun [] [] xs ends.Done) (sym none) done)))
  where
    no_more : (held : List ActId) → length held ≡ 0 → held ≡ []
    no_more [] e = refl
    no_more (a ∷ held) e = cc

-- the step is behind the process
pub goes_on : (all : List Step) (i : ℕ) (d : Step) (held then : List ActId) (old new g : List Receipt) → i < length all → Goes all i held old
    → new ≡ old ++ g → Adds (get_or all i d) held then g → Goes all (i + 1) then new
goes_on all i d held then old new g lt goes is adds rs end run =
    subst (λ (xs : List Receipt). IsRun all [] (xs ++ rs) end) (sym is) (subst (λ (xs : List Receipt). IsRun all [] xs end) (sym (append_assoc old g rs))
    (goes (g ++ rs) end (subst (λ (ss : List Step). IsRun ss held (g ++ rs) end) (sym (next_step all i d lt)) (adds (drop (i + 1) all) rs end run))))

-- the step ends it
pub ends_at : (all : List Step) (i : ℕ) (d : Step) (held : List ActId) (end : End) (old new g : List Receipt) → i < length all → Goes all i held old
    → new ≡ old ++ g → Closes (get_or all i d) held end g → (rs : List Receipt) → After end held rs → IsRun all [] (new ++ rs) end
ends_at all i d held end old new g lt goes is closes rs after =
    subst (λ (xs : List Receipt). IsRun all [] (xs ++ rs) end) (sym is) (subst (λ (xs : List Receipt). IsRun all [] xs end) (sym (append_assoc old g rs))
    (goes (g ++ rs) end (subst (λ (ss : List Step). IsRun ss held (g ++ rs) end) (sym (next_step all i d lt)) (closes (drop (i + 1) all) rs after))))

-- what the script allows next
pub may_step : (all : List Step) (i n : ℕ) (d : Step) → i < length all → Leads n (drop i all) 0 → MayStep n (get_or all i d) × Leads (entered_after n (get_or all i d)) (drop (i + 1) all) 0
may_step all i n d lt leads = subst (λ (ss : List Step). Leads n ss 0) (next_step all i d lt) leads
