-- What one step adds to the receipts of a process.
use Rattle.std.proofs.Common.{◌≡◌, ◌≢◌, inl, inr, ℕ, ◌+◌, ◌<◌, suc, List, [], ◌∷◌, ◌++◌, length, drop, get_or, true, refl, sym, ap, ◌∙◌, subst, append_assoc, drop-cons, add-one}
use Rattle.std.specs.Prelude.{Option, Some, None, ◌↔◌}
use Rattle.std.proofs.lemmas.List.{append-nil}
use Rattle.path_model.specs.declared.ids.OpId.{OpId}
use Rattle.path_model.specs.declared.ids.ActId.{ActId}
use Rattle.path_model.specs.declared.ids.PathId.{PathId}
use Rattle.path_model.specs.declared.journal.Verb.{Verb}
use Rattle.path_model.specs.declared.journal.Attempt.{Attempt}
use Rattle.path_model.specs.declared.journal.Attempt.TheVariants.{Start, Apply, Finish}
use Rattle.path_model.specs.declared.journal.Reply.{Reply}
use Rattle.path_model.specs.declared.journal.Reply.TheVariants.{Started, Blocked, Used, Finished, NoRoom}
use Rattle.path_workers.specs.declared.answer.Receipt.{Receipt}
use Rattle.path_workers.specs.Attempts.{receipts_then, may_get}
use Rattle.path_script.specs.declared.script.Step.{Step}
use Rattle.path_script.specs.declared.script.Step.TheVariants.{Enter, Apply as Use, Leave}
use Rattle.path_run.specs.declared.outcome.End.{End}
use Rattle.path_run.specs.declared.outcome.End.TheVariants as ends
use Rattle.path_run.specs.Runs.{note, Asks, IsFault, IsRun}
use Rattle.path_run.specs.Runs.Asks.{enters, uses, leaves}
use Rattle.path_run.specs.Runs.IsRun.{entered, blocked, used, left, stalled, faulted, gave_up}
use Rattle.path_run.specs.Inner.Parts.{Gains, Adds, Closes, AreTries}

-- there is a receipt where the reply isn't for want of room
gained_one : (attempt : Attempt) (q : Reply) (g : List Receipt) → Gains attempt q g → q ≢ NoRoom → (place : ℕ) × (g ≡ note place attempt q ∷ [])
gained_one attempt q g gains room = elim gains [
  | inl none ↦ absurd (room none.0)
  | inr one ↦ one.2
]

-- and it may be got
gained_kind : (attempt : Attempt) (q : Reply) (g : List Receipt) → Gains attempt q g → q ≢ NoRoom → may_get attempt q ≡ true
gained_kind attempt q g gains room = elim gains [
  | inl none ↦ absurd (room none.0)
  | inr one ↦ one.1
]

pub used_adds : (verb : Verb) (act : ActId) (q : Reply) (x : ℕ) (g : List Receipt) → Gains (Apply act verb) q g → q ≡ Used x → (held : List ActId) → Adds (Use verb) (act ∷ held) (act ∷ held) g
used_adds verb act q x g gains is held steps rs end run =
    let one = gained_one (Apply act verb) (Used x) g (subst (λ r. Gains (Apply act verb) r g) is gains) (λ e. cc) in
    subst (λ (g' : List Receipt). IsRun (Use verb ∷ steps) (act ∷ held) (g' ++ rs) end) (sym one.1) (used verb steps act held one.0 x rs end run)

pub left_adds : (act : ActId) (q : Reply) (g : List Receipt) → Gains (Finish act) q g → q ≡ Finished → (held : List ActId) → Adds Leave (act ∷ held) held g
left_adds act q g gains is held steps rs end run =
    let one = gained_one (Finish act) Finished g (subst (λ r. Gains (Finish act) r g) is gains) (λ e. cc) in
    subst (λ (g' : List Receipt). IsRun (Leave ∷ steps) (act ∷ held) (g' ++ rs) end) (sym one.1) (left steps act held one.0 rs end run)

pub entered_adds : (op : OpId) (q : Reply) (act : ActId) (g : List Receipt) → Gains (Start op) q g → q ≡ Started act → (held : List ActId) → Adds (Enter op) held (act ∷ held) g
entered_adds op q act g gains is held steps rs end run =
    let one = gained_one (Start op) (Started act) g (subst (λ r. Gains (Start op) r g) is gains) (λ e. cc) in
    subst (λ (g' : List Receipt). IsRun (Enter op ∷ steps) held (g' ++ rs) end) (sym one.1) (entered op steps held one.0 act rs end run)

pub blocked_tries : (op : OpId) (q : Reply) (path : PathId) (g : List Receipt) → Gains (Start op) q g → q ≡ Blocked path → AreTries op g
blocked_tries op q path g gains is steps held rs end run =
    let one = gained_one (Start op) (Blocked path) g (subst (λ r. Gains (Start op) r g) is gains) (λ e. cc) in
    subst (λ (g' : List Receipt). IsRun (Enter op ∷ steps) held (g' ++ rs) end) (sym one.1) (blocked op steps held one.0 path rs end run)

pub stalled_closes : (op : OpId) (q : Reply) (path : PathId) (g : List Receipt) → Gains (Start op) q g → q ≡ Blocked path → (held : List ActId) → Closes (Enter op) held (ends.Stalled op) g
stalled_closes op q path g gains is held steps rs none =
    let one = gained_one (Start op) (Blocked path) g (subst (λ r. Gains (Start op) r g) is gains) (λ e. cc) in
    subst (λ (g' : List Receipt). IsRun (Enter op ∷ steps) held (g' ++ rs) (ends.Stalled op)) (sym one.1)
    (subst (λ (rs' : List Receipt). IsRun (Enter op ∷ steps) held (note one.0 (Start op) (Blocked path) ∷ rs') (ends.Stalled op)) (sym none) (stalled op steps held one.0 path))

pub memory_closes : (step : Step) (g : List Receipt) → g ≡ [] → (held : List ActId) → Closes step held ends.NoMemory g
memory_closes step g none held steps rs after =
    subst (λ (g' : List Receipt). IsRun (step ∷ steps) held (g' ++ rs) ends.NoMemory) (sym none) (gave_up step steps held rs ends.NoMemory refl after)

pub room_closes : (step : Step) (attempt : Attempt) (q : Reply) (g : List Receipt) → Gains attempt q g → q ≡ NoRoom → (held : List ActId) → Closes step held ends.NoRoom g
room_closes step attempt q g gains is held steps rs after =
    let none : g ≡ [] = elim gains [
      | inl none ↦ none.1
      | inr one ↦ absurd (one.0 is)
    ] in
    subst (λ (g' : List Receipt). IsRun (step ∷ steps) held (g' ++ rs) ends.NoRoom) (sym none) (gave_up step steps held rs ends.NoRoom refl after)

fault_closes : (step : Step) (attempt : Attempt) (q : Reply) (g : List Receipt) (held : List ActId) → Asks step held attempt → Gains attempt q g → q ≢ NoRoom → IsFault step q → Closes step held (ends.Faulted q) g
fault_closes step attempt q g held asks gains room fault steps rs after =
    let one = gained_one attempt q g gains room in
    subst (λ (g' : List Receipt). IsRun (step ∷ steps) held (g' ++ rs) (ends.Faulted q)) (sym one.1)
    (faulted step steps held one.0 attempt q rs asks (gained_kind attempt q g gains room) fault after)

pub enter_fault : (op : OpId) (q : Reply) (g : List Receipt) → Gains (Start op) q g → q ≢ NoRoom → ((act : ActId) → q ≢ Started act) → ((path : PathId) → q ≢ Blocked path)
    → (held : List ActId) → Closes (Enter op) held (ends.Faulted q) g
enter_fault op q g gains room s b held = fault_closes (Enter op) (Start op) q g held (enters op held) gains room (room, s, b)

pub use_fault : (verb : Verb) (act : ActId) (q : Reply) (g : List Receipt) → Gains (Apply act verb) q g → q ≢ NoRoom → ((x : ℕ) → q ≢ Used x)
    → (held : List ActId) → Closes (Use verb) (act ∷ held) (ends.Faulted q) g
use_fault verb act q g gains room u held = fault_closes (Use verb) (Apply act verb) q g (act ∷ held) (uses verb act held) gains room (room, u)

pub leave_fault : (act : ActId) (q : Reply) (g : List Receipt) → Gains (Finish act) q g → q ≢ NoRoom → q ≢ Finished → (held : List ActId) → Closes Leave (act ∷ held) (ends.Faulted q) g
leave_fault act q g gains room f held = fault_closes Leave (Finish act) q g (act ∷ held) (leaves act held) gains room (room, f)

-- tries before what comes then
pub tries_add : (op : OpId) (g h : List Receipt) (held then : List ActId) → AreTries op g → Adds (Enter op) held then h → Adds (Enter op) held then (g ++ h)
tries_add op g h held then tries adds steps rs end run =
    subst (λ (xs : List Receipt). IsRun (Enter op ∷ steps) held xs end) (sym (append_assoc g h rs)) (tries steps held (h ++ rs) end (adds steps rs end run))

pub tries_close : (op : OpId) (g h : List Receipt) (held : List ActId) (end : End) → AreTries op g → Closes (Enter op) held end h → Closes (Enter op) held end (g ++ h)
tries_close op g h held end tries closes steps rs after =
    subst (λ (xs : List Receipt). IsRun (Enter op ∷ steps) held xs end) (sym (append_assoc g h rs)) (tries steps held (h ++ rs) end (closes steps rs after))

pub tries_more : (op : OpId) (g h : List Receipt) → AreTries op g → AreTries op h → AreTries op (g ++ h)
tries_more op g h tries more steps held rs end run =
    subst (λ (xs : List Receipt). IsRun (Enter op ∷ steps) held xs end) (sym (append_assoc g h rs)) (tries steps held (h ++ rs) end (more steps held rs end run))

-- what an attempt gains, by its reply
pub gains_then : (old new : List Receipt) (attempt : Attempt) (place : Option ℕ) (q : Reply) → new ≡ receipts_then old attempt place q → ((place ≡ None) ↔ (q ≡ NoRoom))
    → may_get attempt q ≡ true → (g : List Receipt) × (new ≡ old ++ g) × Gains attempt q g
gains_then old new attempt None q is room may = ([], is ∙ sym (append-nil old), inl (room.0 refl, refl))
gains_then old new attempt (Some p) q is room may = (note p attempt q ∷ [], is, inr ((λ none. let e : Some p ≡ None = room.1 none in cc), may, (p, refl)))

pub next_step : (steps : List Step) (i : ℕ) (s d : Step) → i < length steps → get_or steps i d ≡ s → drop i steps ≡ s ∷ drop (i + 1) steps
next_step steps i s d lt is = rw (add-one, drop-cons steps i d) (ap (λ (x : Step). x ∷ drop (suc i) steps) is)
