-- A prologue or an epilogue leaves as many semaphores and counters as there were; so does a pass over terms.
use Rattle.std.proofs.Common.{◌≡◌, ◌==◌, ◌<◌, ◌+◌, ◌-◌, ℕ, List, ◌∷◌, length, get_or, drop, refl, sym, ap, ◌∙◌, subst, Option, Some, None}
use Rattle.std.proofs.lemmas.List.{length-set}
use Rattle.std.proofs.lemmas.Bool.{cond_both}
use Rattle.path_code.specs.declared.terms.Prologue.{Prologue}
use Rattle.path_code.specs.declared.terms.Prologue.TheVariants.{P, PP, PPN}
use Rattle.path_code.specs.declared.terms.Epilogue.{Epilogue}
use Rattle.path_code.specs.declared.terms.Epilogue.TheVariants.{V, VV, VVN}
use Rattle.path_gate.specs.declared.gate.Term.{Term}
use Rattle.path_gate.specs.Levels.{Levels, taken, given, entered, left, started, finished}
use Rattle.path_gate.proofs.Runs.{drop_more}

abbrev pub SamePlaces : Levels → Levels → Type 0
SamePlaces v w = (length v.semaphores ≡ length w.semaphores) × (length v.counters ≡ length w.counters)

entered_places : (c q : ℕ) (v : Levels) → SamePlaces (entered c q v) v
entered_places c q v = (
  cond_both (get_or v.counters c 0 == 0) (taken v.semaphores q) v.semaphores (λ xs. length xs ≡ length v.semaphores) (λ _. length-set v.semaphores q (get_or v.semaphores q 0 - 1)) (λ _. refl),
  length-set v.counters c (get_or v.counters c 0 + 1),
)

left_places : (c q : ℕ) (v : Levels) → SamePlaces (left c q v) v
left_places c q v = (
  cond_both (get_or v.counters c 0 == 1) (given v.semaphores q) v.semaphores (λ xs. length xs ≡ length v.semaphores) (λ _. length-set v.semaphores q (get_or v.semaphores q 0 + 1)) (λ _. refl),
  length-set v.counters c (get_or v.counters c 0 - 1),
)

pub started_places : (p : Option Prologue) (v : Levels) → SamePlaces (started p v) v
started_places None v = (refl, refl)
started_places (Some (P q)) v = (length-set v.semaphores q (get_or v.semaphores q 0 - 1), refl)
started_places (Some (PP c q)) v = entered_places c q v
started_places (Some (PPN c q u)) v =
    let e = entered_places c q (record v { semaphores = taken v.semaphores u }) in (e.0 ∙ length-set v.semaphores u (get_or v.semaphores u 0 - 1), e.1)

pub finished_places : (e : Option Epilogue) (v : Levels) → SamePlaces (finished e v) v
finished_places None v = (refl, refl)
finished_places (Some (V q)) v = (length-set v.semaphores q (get_or v.semaphores q 0 + 1), refl)
finished_places (Some (VV c q)) v = left_places c q v
finished_places (Some (VVN c q u)) v =
    let w : Levels = left c q v in
    let l = left_places c q v in (length-set w.semaphores u (get_or w.semaphores u 0 + 1) ∙ l.0, l.1)

-- a pass over terms goes on by one of them: what is left to do, and that it can be done
module _ (move : Term → Levels → Levels) (all : List Term → Levels → Levels) (Can : List Term → Levels → Type 0) (more : (t : Term) (ts : List Term) (v : Levels) → all (t ∷ ts) v ≡ all ts (move t v))
    (later : (t : Term) (ts : List Term) (v : Levels) → Can (t ∷ ts) v → Can ts (move t v)) (same : (t : Term) (v : Levels) → SamePlaces (move t v) v) where
  pub passed : (terms : List Term) (i : ℕ) (d : Term) (begun before after end : Levels) → i < length terms → after ≡ move (get_or terms i d) before → all (drop i terms) before ≡ end → Can (drop i terms) before → SamePlaces before begun
      → (all (drop (i + 1) terms) after ≡ end) × Can (drop (i + 1) terms) after × SamePlaces after begun
  passed terms i d begun before after end l now left can places =
      let t : Term = get_or terms i d in
      let next : drop i terms ≡ t ∷ drop (i + 1) terms = drop_more terms i d l in (
        ap (all (drop (i + 1) terms)) now ∙ sym (more t (drop (i + 1) terms) before) ∙ ap (λ ts. all ts before) (sym next) ∙ left,
        subst (Can (drop (i + 1) terms)) (sym now) (later t (drop (i + 1) terms) before (subst (λ ts. Can ts before) next can)),
        (ap (λ (v : Levels). length v.semaphores) now ∙ (same t before).0 ∙ places.0, ap (λ (v : Levels). length v.counters) now ∙ (same t before).1 ∙ places.1),
      )
