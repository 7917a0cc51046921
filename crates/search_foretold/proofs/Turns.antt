-- What the next receipt of a process says of its next step.
use Rattle.std.proofs.Common.{◌≡◌, ◌≢◌, ◌⊎◌, ◌==◌, ◌&&◌, ℕ, true, false, List, [], ◌∷◌, map, refl, sym, ap, ◌∙◌, subst, inl, inr}
use Rattle.std.proofs.lemmas.Bool.{eqb-true, and_parts}
use Rattle.path_model.specs.declared.ids.OpId.{OpId}
use Rattle.path_model.specs.declared.ids.ActId.{ActId}
use Rattle.path_model.specs.declared.ids.PathId.{PathId}
use Rattle.path_model.specs.declared.journal.Verb.{Verb}
use Rattle.path_model.specs.declared.journal.Verb.TheVariants.{Put, Take, Look, Add}
use Rattle.path_model.specs.declared.journal.Attempt.{Attempt}
use Rattle.path_model.specs.declared.journal.Attempt.TheVariants.{Start, Apply, Finish}
use Rattle.path_model.specs.declared.journal.Reply.{Reply}
use Rattle.path_model.specs.declared.journal.Reply.TheVariants.{Started, Blocked, UnknownOperation, Used, NotOffered, Empty, Full, Overflow}
use Rattle.path_model.specs.declared.journal.Reply.TheVariants.{DeviceFailed, Finished, Stale, NotYours, NoRoom}
use Rattle.path_model.specs.declared.journal.Line.{Line}
use Rattle.path_model.specs.declared.journal.Activation.{Activation}
use Rattle.path_workers.specs.declared.answer.Receipt.{Receipt}
use Rattle.path_workers.specs.Settled.{same_verb, same_attempt, same_reply, is_copy}
use Rattle.path_script.specs.declared.script.Step.{Step}
use Rattle.path_script.specs.declared.script.Step.TheVariants.{Enter, Apply as Use, Leave}
use Rattle.search_schedules.specs.Schedules as schedules
use Rattle.path_run.specs.declared.outcome.End.{End}
use Rattle.path_run.specs.declared.outcome.End.TheVariants as ends
use Rattle.path_run.specs.Runs.{Asks, IsFault, gives_up, IsRun}
use Rattle.search_foretold.specs.Foretold.{is_unforeseen}

-- a copy has the line's attempt and reply
number_act : (m n : ActId) → (m.0 == n.0) ≡ true → m ≡ n
number_act m n h = ap (λ k. let a : ActId = record { 0 = k } in a) (eqb-true m.0 n.0 h)

number_op : (m n : OpId) → (m.0 == n.0) ≡ true → m ≡ n
number_op m n h = ap (λ k. let a : OpId = record { 0 = k } in a) (eqb-true m.0 n.0 h)

number_path : (m n : PathId) → (m.0 == n.0) ≡ true → m ≡ n
number_path m n h = ap (λ k. let a : PathId = record { 0 = k } in a) (eqb-true m.0 n.0 h)

verb_is : (v w : Verb) → same_verb v w ≡ true → v ≡ w
verb_is (Put x) (Put y) h = ap Put (eqb-true x y h)
verb_is Take Take h = refl
verb_is Look Look h = refl
verb_is (Add x) (Add y) h = ap Add (eqb-true x y h)
verb_is v w h = absurd (cc)

attempt_is : (a b : Attempt) → same_attempt a b ≡ true → a ≡ b
attempt_is (Start a) (Start b) h = ap Start (number_op a b h)
attempt_is (Apply m v) (Apply n w) h =
    let both = and_parts (m.0 == n.0) (same_verb v w) h in
    ap (λ k. Apply k v) (number_act m n both.0) ∙ ap (Apply n) (verb_is v w both.1)
attempt_is (Finish m) (Finish n) h = ap Finish (number_act m n h)
attempt_is a b h = absurd (cc)

reply_is : (r s : Reply) → same_reply r s ≡ true → r ≡ s
reply_is (Started m) (Started n) h = ap Started (number_act m n h)
reply_is (Blocked p) (Blocked q) h = ap Blocked (number_path p q h)
reply_is UnknownOperation UnknownOperation h = refl
reply_is (Used x) (Used y) h = ap Used (eqb-true x y h)
reply_is NotOffered NotOffered h = refl
reply_is Empty Empty h = refl
reply_is Full Full h = refl
reply_is Overflow Overflow h = refl
reply_is DeviceFailed DeviceFailed h = refl
reply_is Finished Finished h = refl
reply_is Stale Stale h = refl
reply_is NotYours NotYours h = refl
reply_is NoRoom NoRoom h = refl
reply_is r s h = absurd (cc)

pub copy_is : (k : ℕ) (l : Line) (r : Receipt) → is_copy k l r ≡ true → (r.attempt ≡ l.attempt) × (r.reply ≡ l.reply)
copy_is k l r h =
    let both = and_parts (r.place == k) (same_attempt l.attempt r.attempt && same_reply l.reply r.reply) h in
    let parts = and_parts (same_attempt l.attempt r.attempt) (same_reply l.reply r.reply) both.1 in
    (sym (attempt_is l.attempt r.attempt parts.0), sym (reply_is l.reply r.reply parts.1))

-- the numbers of what is entered
abbrev pub numbers : List Activation → List ActId
numbers entered = map (λ a. a.act) entered

-- what is left of a run: it goes on, or the process has stalled before this step
abbrev pub Goes : List Step → List ActId → List Receipt → End → Type 0
Goes steps entered rs end =
    IsRun steps entered rs end ⊎ ((op : OpId) × (rest : List Step) × (steps ≡ Enter op ∷ rest) × (rs ≡ []) × (end ≡ ends.Stalled op))

-- a process that still has these steps to take and has entered these activations makes this attempt and gets this reply; these receipts
-- and this end follow
pub data Turn (steps : List Step) (entered : List Activation) (rs : List Receipt) (end : End) : Attempt → Reply → Type 0 where
  starts :
      (op : OpId) (rest : List Step) (act : ActId) → steps ≡ Enter op ∷ rest → Goes rest (act ∷ numbers entered) rs end
      → Turn steps entered rs end (Start op) (Started act)
  waits : (op : OpId) (path : PathId) → Goes steps (numbers entered) rs end → Turn steps entered rs end (Start op) (Blocked path)
  uses :
      (verb : Verb) (rest : List Step) (a : Activation) (below : List Activation) (x : ℕ)
      → steps ≡ Use verb ∷ rest → entered ≡ a ∷ below → Goes rest (numbers entered) rs end
      → Turn steps entered rs end (Apply a.act verb) (Used x)
  leaves :
      (rest : List Step) (a : Activation) (below : List Activation) → steps ≡ Leave ∷ rest → entered ≡ a ∷ below
      → Goes rest (numbers below) rs end → Turn steps entered rs end (Finish a.act) Finished
  faults :
      (step : Step) (rest : List Step) (attempt : Attempt) (reply : Reply) → steps ≡ step ∷ rest
      → schedules.Asks step entered attempt → IsFault step reply → reply ≢ DeviceFailed → Turn steps entered rs end attempt reply

-- what the first receipt says, if there is one
abbrev pub FirstTurn : List Step → List Activation → List Receipt → End → Type 0
FirstTurn steps entered [] end = Unit {0}
FirstTurn steps entered (r ∷ rs) end = Turn steps entered rs end r.attempt r.reply

asks_same : (step : Step) (held : List ActId) (attempt : Attempt) (entered : List Activation) → Asks step held attempt → held ≡ numbers entered → schedules.Asks step entered attempt
asks_same _ _ _ entered (Asks.enters op held) same = refl
asks_same _ _ _ [] (Asks.uses verb act held) same = absurd (cc)
asks_same _ _ _ (a ∷ below) (Asks.uses verb act held) same = (let number : act ≡ a.act = cc in ap (λ n. Apply n verb) number)
asks_same _ _ _ [] (Asks.leaves act held) same = absurd (cc)
asks_same _ _ _ (a ∷ below) (Asks.leaves act held) same = (let number : act ≡ a.act = cc in ap Finish number)

uses_own : (verb : Verb) (steps : List Step) (act : ActId) (held : List ActId) (x : ℕ) (rs : List Receipt) (end : End) (entered : List Activation)
    → IsRun steps (act ∷ held) rs end → act ∷ held ≡ numbers entered → Turn (Use verb ∷ steps) entered rs end (Apply act verb) (Used x)
uses_own verb steps act held x rs end [] run same = absurd (cc)
uses_own verb steps act held x rs end (a ∷ below) run same =
    let number : act ≡ a.act = cc in
    subst (λ n. Turn (Use verb ∷ steps) (a ∷ below) rs end (Apply n verb) (Used x)) (sym number)
    (Turn.uses verb steps a below x refl refl (inl (subst (λ ns. IsRun steps ns rs end) same run)))

leaves_own : (steps : List Step) (act : ActId) (held : List ActId) (rs : List Receipt) (end : End) (entered : List Activation)
    → IsRun steps held rs end → act ∷ held ≡ numbers entered → Turn (Leave ∷ steps) entered rs end (Finish act) Finished
leaves_own steps act held rs end [] run same = absurd (cc)
leaves_own steps act held rs end (a ∷ below) run same =
    let number : act ≡ a.act = cc in
    let others : held ≡ numbers below = cc in
    subst (λ n. Turn (Leave ∷ steps) (a ∷ below) rs end (Finish n) Finished) (sym number)
    (Turn.leaves steps a below refl refl (inl (subst (λ ns. IsRun steps ns rs end) others run)))

-- who gives up is ended by something unforeseen, as is whom a failing device ends
gave_up_unforeseen : (end : End) → gives_up end ≡ true → is_unforeseen end ≡ false → ⊥
gave_up_unforeseen ends.NoRoom g f = cc
gave_up_unforeseen ends.Stopped g f = cc
gave_up_unforeseen ends.NoMemory g f = cc
gave_up_unforeseen end g f = cc

not_failed : (reply : Reply) → is_unforeseen (ends.Faulted reply) ≡ false → reply ≢ DeviceFailed
not_failed reply f same = absurd (let h : is_unforeseen (ends.Faulted DeviceFailed) ≡ false = subst (λ r. is_unforeseen (ends.Faulted r) ≡ false) same f in cc)

run_turn : (steps : List Step) (held : List ActId) (rs : List Receipt) (end : End) (entered : List Activation) → IsRun steps held rs end → held ≡ numbers entered → is_unforeseen end ≡ false → FirstTurn steps entered rs end
run_turn _ _ _ _ entered IsRun.done same f = tt
run_turn _ _ _ _ entered (IsRun.not_started steps) same f = tt
run_turn _ _ _ _ entered (IsRun.entered op steps held place act rs end run) same f =
    Turn.starts op steps act refl (subst (λ ns. Goes steps (act ∷ ns) rs end) same (inl run))
run_turn _ _ _ _ entered (IsRun.blocked op steps held place path rs end run) same f = Turn.waits op path (subst (λ ns. Goes (Enter op ∷ steps) ns rs end) same (inl run))
run_turn _ _ _ _ entered (IsRun.used verb steps act held place x rs end run) same f = uses_own verb steps act held x rs end entered run same
run_turn _ _ _ _ entered (IsRun.left steps act held place rs end run) same f = leaves_own steps act held rs end entered run same
run_turn _ _ _ _ entered (IsRun.stalled op steps held place path) same f = Turn.waits op path (inr (op, steps, refl, refl, refl))
run_turn _ _ _ _ entered (IsRun.faulted step steps held place attempt reply rs asks may fault rest) same f =
    Turn.faults step steps attempt reply refl (asks_same step held attempt entered asks same) fault (not_failed reply f)
run_turn _ _ _ _ entered (IsRun.gave_up step steps held rs end gives rest) same f = absurd (gave_up_unforeseen end gives f)

-- the first receipt of what is left of a run
pub turn : (steps : List Step) (entered : List Activation) (rs : List Receipt) (end : End) → Goes steps (numbers entered) rs end → is_unforeseen end ≡ false → FirstTurn steps entered rs end
turn steps entered rs end (inl run) f = run_turn steps (numbers entered) rs end entered run refl f
turn steps entered rs end (inr stalled) f = subst (λ xs. FirstTurn steps entered xs end) (sym stalled.3) tt

-- without a receipt left the process is done, or stalled before a step that enters
abbrev pub Stopped : List Step → End → Type 0
Stopped steps end = ((steps ≡ []) × (end ≡ ends.Done)) ⊎ ((op : OpId) × (rest : List Step) × (steps ≡ Enter op ∷ rest) × (end ≡ ends.Stalled op))

run_stopped : (steps : List Step) (held : List ActId) (rs : List Receipt) (end : End) → IsRun steps held rs end → rs ≡ [] → is_unforeseen end ≡ false → Stopped steps end
run_stopped _ _ _ _ IsRun.done none f = inl (refl, refl)
run_stopped _ _ _ _ (IsRun.not_started steps) none f = absurd (cc)
run_stopped _ _ _ _ (IsRun.entered op steps held place act rs end run) none f = absurd (cc)
run_stopped _ _ _ _ (IsRun.blocked op steps held place path rs end run) none f = absurd (cc)
run_stopped _ _ _ _ (IsRun.used verb steps act held place x rs end run) none f = absurd (cc)
run_stopped _ _ _ _ (IsRun.left steps act held place rs end run) none f = absurd (cc)
run_stopped _ _ _ _ (IsRun.stalled op steps held place path) none f = absurd (cc)
run_stopped _ _ _ _ (IsRun.faulted step steps held place attempt reply rs asks may fault rest) none f = absurd (cc)
run_stopped _ _ _ _ (IsRun.gave_up step steps held rs end gives rest) none f = absurd (gave_up_unforeseen end gives f)

pub stopped : (steps : List Step) (held : List ActId) (rs : List Receipt) (end : End) → Goes steps held rs end → rs ≡ [] → is_unforeseen end ≡ false → Stopped steps end
stopped steps held rs end (inl run) none f = run_stopped steps held rs end run none f
stopped steps held rs end (inr stalled) none f = inr (stalled.0, stalled.1, stalled.2, stalled.4)
