-- What processes hand back, one after another.
use Rattle.std.proofs.Common.{rules, arith, ◌≡◌, ℕ, ◌+◌, ◌<◌, List, [], ◌∷◌, ◌++◌, length, sym, subst, get_or, below_more}
use Rattle.std.proofs.lemmas.List.{get_or_append_left, get_or_push}
use Rattle.path_workers.specs.Attempts.{Held}
use Rattle.path_script.specs.declared.script.Step.{Step}
use Rattle.path_run.specs.declared.outcome.End.{End}
use Rattle.path_run.specs.Runs.{IsRun}

-- what a worker of this number and these steps hands back
abbrev pub Out : ℕ × List Step → Held → End → Type 0
Out b h e = (h.worker ≡ b.0) × IsRun b.1 [] h.receipts e

-- so many items of the first list, after the first `done` of them, are those of the second list
abbrev pub Left : {X : Type 0} → List X → ℕ → List X → ℕ → Type 0
Left all done rest count = (k : ℕ) (d : _) → k < count → get_or rest k d ≡ get_or all (done + k) d

pub next_of : {X : Type 0} (all rest left : List X) (done n count : ℕ) (x : X) → Left all done rest n → (rest ≡ x ∷ left) × (count + 1 ≡ n) → (d : X) → x ≡ get_or all done d
next_of all rest left done n count x was step d = let h = was 0 d (omega arith) in let is = step.0 in grind rules

pub left_after : {X : Type 0} (all rest left : List X) (done now n count : ℕ) (x : X) → now ≡ done + 1 → Left all done rest n → (rest ≡ x ∷ left) × (count + 1 ≡ n) → Left all now left count
left_after all rest left done now n count x grown was step = λ k d lt. let h = was (k + 1) d (omega arith) in let is = step.0 in grind rules

-- what holds of each item, and of one more behind them, holds of all of these
pub grown_each : {X : Type 0} (P : ℕ → X → Type 0) (old : List X) (x : X) (n : ℕ) → length old ≡ n → ((k : ℕ) (d : X) → k < n → P k (get_or old k d)) → P n x → (k : ℕ) (d : X) → k < n + 1 → P k (get_or (old ++ x ∷ []) k d)
grown_each {X} P old x n len was here k d lt =
    below_more (λ (i : ℕ). (e : X) → P i (get_or (old ++ x ∷ []) i e)) n (λ i low e. subst (P i) (sym (get_or_append_left old (x ∷ []) e i (omega (arith, low, len)))) (was i e low))
    (λ e. subst (P n) (sym (get_or_push old x e n len)) here) k lt d
