-- From line to line of a run's journal: the lines so far without the blocked ones are those of a schedule.
use Rattle.std.proofs.Common.{◌≡◌, ◌≢◌, ◌<◌, ◌≤◌, ◌+◌, ℕ, false, true, List, [], ◌∷◌, ◌++◌, length, Some, refl, sym, ap, ◌∙◌, subst, inl, inr, arith, append_assoc, append-nil, length-append}
use Rattle.std.specs.Prelude.{All, slice_get}
use Rattle.std.proofs.lemmas.Bool.{cases_eq}
use Rattle.std.proofs.lemmas.List.Elements.{All-push, All-head, All-tail}
use Rattle.path_model.specs.declared.ids.OpId.{OpId}
use Rattle.path_model.specs.declared.ids.ActId.{ActId}
use Rattle.path_model.specs.declared.ids.PathId.{PathId}
use Rattle.path_model.specs.declared.journal.Verb.{Verb}
use Rattle.path_model.specs.declared.journal.Attempt.{Attempt}
use Rattle.path_model.specs.declared.journal.Attempt.TheVariants.{Start, Apply, Finish}
use Rattle.path_model.specs.declared.journal.Reply.{Reply}
use Rattle.path_model.specs.declared.journal.Reply.TheVariants.{Started, Blocked, Used, DeviceFailed, Finished}
use Rattle.path_model.specs.declared.journal.Line.{Line}
use Rattle.path_model.specs.declared.journal.Activation.{Activation}
use Rattle.path_model.specs.Declarations.{Declaration}
use Rattle.path_model.specs.Journals.{live, begun_in, activation_of}
use Rattle.path_model.specs.Owed.{Judge, by_words, OwedToStart, OwedToUse, OwedToFinish, Owed}
use Rattle.path_model.specs.Honest.{IsHonestFrom, IsHonest}
use Rattle.path_model.proofs.CallerLemmas.{line_of, honest_more, begun_more}
use Rattle.path_workers.specs.declared.answer.Receipt.{Receipt}
use Rattle.path_script.specs.declared.script.Step.{Step}
use Rattle.path_script.specs.declared.script.Step.TheVariants.{Enter, Apply as Use, Leave}
use Rattle.path_script.specs.Scripts.{Plan}
use Rattle.search_schedules.specs.Schedules.{Place, at_first, Asks, Enters, Leads, steps_of, own_openings, ample, IsSchedule, is_refusal}
use Rattle.search_schedules.proofs.CallerLemmas.{law_refuses, leads_own, leads_other}
use Rattle.search_schedules.proofs.CallerLemmas.{AreLive, alive_more, started_keeps, begun_next, started_found, used_keeps, finished_keeps, others_differ}
use Rattle.path_run.specs.declared.outcome.End.{End}
use Rattle.path_run.specs.Runs.{IsFault}
use Rattle.search_foretold.specs.Foretold.{is_unforeseen, EveryScheduleEndsDone}
use Rattle.search_foretold.proofs.Copies.{Matches}
use Rattle.search_foretold.proofs.Alike.{Alike, alike_both, alike_blocked, owed_alike}
use Rattle.search_foretold.proofs.Turns.{copy_is, numbers, Goes, Turn, FirstTurn, turn}

-- a process with these steps is somewhere in its script after the lines that were kept, and what is left of its run matches the lines to
-- come, the first of which has this place
pub record IsUnderway (steps : List Step) (w : ℕ) (kept : List Line) (k : ℕ) (ls : List Line) (end : End) : Type 0 where
  pub place : Place
  pub leads : Leads steps w at_first kept place
  pub alive : AreLive kept w (begun_in kept) place.entered
  pub before : List Step
  pub left : List Step
  pub parts : steps ≡ before ++ left
  pub taken : place.taken ≡ length before
  pub receipts : List Receipt
  pub matches : Matches w k ls receipts
  pub goes : Goes left (numbers place.entered) receipts end

-- the next step is the first of those that are left
seam : (before rest : List Step) (s : Step) → slice_get (before ++ s ∷ rest) (length before) ≡ Some s
seam [] rest s = refl
seam (b ∷ before) rest s = seam before rest s

pub next_of : (steps before rest : List Step) (s : Step) (k : ℕ) → steps ≡ before ++ s ∷ rest → k ≡ length before → slice_get steps k ≡ Some s
next_of steps before rest s k parts at =
    subst (λ xs. slice_get xs k ≡ Some s) (sym parts) (subst (λ n. slice_get (before ++ s ∷ rest) n ≡ Some s) (sym at) (seam before rest s))

-- a higher end
alive_below : (ls : List Line) (w end later : ℕ) (held : List Activation) → end ≤ later → AreLive ls w end held → AreLive ls w later held
alive_below ls w end later held le h = alive_more ls ls w end later held le (λ a found own low. found) h

-- a line that takes none of its steps leaves a process where it is
stays : (steps : List Step) (w : ℕ) (kept : List Line) (k : ℕ) (l : Line) (ls : List Line) (end : End) (u : IsUnderway steps w kept k (l ∷ ls) end) (next : List Line)
    → Leads steps w at_first next u.place → AreLive next w (begun_in next) u.place.entered
    → (receipts : List Receipt) → Matches w (k + 1) ls receipts → Goes u.left (numbers u.place.entered) receipts end → IsUnderway steps w next (k + 1) ls end
stays steps w kept k l ls end u next leads alive receipts matches goes = record {
  place = u.place;
  leads = leads;
  alive = alive;
  before = u.before;
  left = u.left;
  parts = u.parts;
  taken = u.taken;
  receipts = receipts;
  matches = matches;
  goes = goes;
}

-- another's line has none of its receipts
other_matches : (w k : ℕ) (l : Line) (ls : List Line) (rs : List Receipt) → l.worker ≢ w → Matches w k (l ∷ ls) rs → Matches w (k + 1) ls rs
other_matches w k l ls rs other (inl m) = m.1
other_matches w k l ls rs other (inr m) = absurd (other m.0)

-- its own line takes it one step further
own_line : (steps : List Step) (w : ℕ) (kept : List Line) (k : ℕ) (l : Line) (ls : List Line) (end : End) (u : IsUnderway steps w kept k (l ∷ ls) end) → l.worker ≡ w
    → (s : Step) (rest : List Step) (entered : List Activation) (receipts : List Receipt) → u.left ≡ s ∷ rest → Asks s u.place.entered l.attempt
    → Enters w s u.place.entered l.reply entered → AreLive (kept ++ l ∷ []) w (begun_in (kept ++ l ∷ [])) entered
    → Matches w (k + 1) ls receipts → Goes rest (numbers entered) receipts end → IsUnderway steps w (kept ++ l ∷ []) (k + 1) ls end
own_line steps w kept k l ls end u own s rest entered receipts next asks enters alive matches goes =
    let q : Place = record { taken = u.place.taken + 1; entered = entered } in
    let parts : steps ≡ u.before ++ s ∷ rest = u.parts ∙ ap (λ xs. u.before ++ xs) next in
    record {
      place = q;
      leads = leads_own steps w at_first kept l u.place q u.leads own
          (record { step = s; next = next_of steps u.before rest s u.place.taken parts u.taken; asks = asks; enters = enters; one_more = refl });
      alive = alive;
      before = u.before ++ s ∷ [];
      left = rest;
      parts = parts ∙ sym (append_assoc u.before (s ∷ []) rest);
      taken = (let longer = length-append u.before (s ∷ []) in let taken = u.taken in omega (arith, longer, taken));
      receipts = receipts;
      matches = matches;
      goes = goes;
    }

-- a fault that is owed, and isn't a failing device's, refuses the step for good: what was entered and not left is live and the worker's own
module _ (d : Declaration) (room : ℕ) (openings : List (List ℕ)) (kept : List Line) (w end : ℕ) where
  start_refused : (op : OpId) (reply : Reply) → IsFault (Enter op) reply → OwedToStart (by_words d) d room kept op reply → is_refusal reply ≡ true
  start_refused op _ fault (OwedToStart.no_room l) = absurd (fault.0 refl)
  start_refused op _ fault (OwedToStart.unknown l k) = refl
  start_refused op _ fault (OwedToStart.blocked p l k f) = absurd (fault.2 p refl)
  start_refused op _ fault (OwedToStart.started n l k f e) = absurd (fault.1 n refl)

  own_found : (a x : Activation) → activation_of a.act (live kept) ≡ Some a → a.worker ≡ w → activation_of a.act (live kept) ≡ Some x → x.worker ≡ w
  own_found a x found own other = let same : x ≡ a = cc in ap (λ (y : Activation). y.worker) same ∙ own

  use_refused : (verb : Verb) (a : Activation) (reply : Reply) → IsFault (Use verb) reply → reply ≢ DeviceFailed → activation_of a.act (live kept) ≡ Some a → a.worker ≡ w
      → OwedToUse d room openings kept w a.act verb reply → is_refusal reply ≡ true
  use_refused verb a _ fault unfailed found own (OwedToUse.no_room l) = absurd (fault.0 refl)
  use_refused verb a _ fault unfailed found own (OwedToUse.stale l k) = absurd (cc)
  use_refused verb a _ fault unfailed found own (OwedToUse.not_yours x l k o) = absurd (o (own_found a x found own k))
  use_refused verb a _ fault unfailed found own (OwedToUse.refused x r l k is) = law_refuses _ verb _ r is
  use_refused verb a _ fault unfailed found own (OwedToUse.served x y rest l k is) = absurd (fault.1 y refl)
  use_refused verb a _ fault unfailed found own (OwedToUse.failed x y rest l k is) = absurd (unfailed refl)

  finish_refused : (a : Activation) (reply : Reply) → IsFault Leave reply → activation_of a.act (live kept) ≡ Some a → a.worker ≡ w → OwedToFinish d room kept w a.act reply → is_refusal reply ≡ true
  finish_refused a _ fault found own (OwedToFinish.finished x k) = absurd (fault.1 refl)
  finish_refused a _ fault found own (OwedToFinish.no_room k l) = absurd (fault.0 refl)
  finish_refused a _ fault found own (OwedToFinish.stale l k) = absurd (cc)
  finish_refused a _ fault found own (OwedToFinish.not_yours x l k o) = absurd (o (own_found a x found own k))

  fault_refused : (step : Step) (entered : List Activation) (attempt : Attempt) (reply : Reply) → Asks step entered attempt → IsFault step reply → reply ≢ DeviceFailed → AreLive kept w end entered
      → Owed d room openings kept w attempt reply → is_refusal reply ≡ true
  fault_refused (Enter op) entered attempt reply asks fault unfailed alive owed = start_refused op reply fault (subst (λ x. Owed d room openings kept w x reply) asks owed)
  fault_refused (Use verb) [] attempt reply asks fault unfailed alive owed = absurd asks
  fault_refused (Use verb) (a ∷ below) attempt reply asks fault unfailed alive owed =
      use_refused verb a reply fault unfailed alive.0 alive.1 (subst (λ x. Owed d room openings kept w x reply) asks owed)
  fault_refused Leave [] attempt reply asks fault unfailed alive owed = absurd asks
  fault_refused Leave (a ∷ below) attempt reply asks fault unfailed alive owed =
      finish_refused a reply fault alive.0 alive.1 (subst (λ x. Owed d room openings kept w x reply) asks owed)

started_number : (judge : Judge) (d : Declaration) (room : ℕ) (ls : List Line) (op : OpId) (reply : Reply) → OwedToStart judge d room ls op reply → (n : ActId) → reply ≡ Started n → n.0 ≡ begun_in ls
started_number judge d room ls op _ (OwedToStart.no_room l) n is = absurd (cc)
started_number judge d room ls op _ (OwedToStart.unknown l k) n is = absurd (cc)
started_number judge d room ls op _ (OwedToStart.blocked p l k f) n is = absurd (cc)
started_number judge d room ls op _ (OwedToStart.started m l k f e) n is = (let same : m ≡ n = cc in sym (ap (λ (a : ActId). a.0) same) ∙ e)

begun_finished : (ls : List Line) (w : ℕ) (n : ActId) → begun_in (ls ++ line_of w (Finish n) Finished ∷ []) ≡ begun_in ls
begun_finished ls w n = let more = begun_more ls (line_of w (Finish n) Finished) in omega (arith, more)

module _ (d : Declaration) (plans : List Plan) (room : ℕ) (small : room ≤ ample) (passes : EveryScheduleEndsDone d plans) (end_of : ℕ → End)
    (foreseen : (w : ℕ) → w < length plans → is_unforeseen (end_of w) ≡ false) where
  -- the lines so far are honest, and those that were kept are a schedule's and leave the same; the lines to come are honest behind them,
  -- the first of them has this place, and each process is underway
  pub record IsSoFar (front kept : List Line) (k : ℕ) (ls : List Line) : Type 0 where
    pub honest : IsHonestFrom (by_words d) d room (own_openings d) front ls
    pub alike : Alike d (own_openings d) front kept
    pub honest_kept : IsHonest d ample (own_openings d) kept
    pub workers : All (λ l. l.worker < length plans) kept
    pub each : (w : ℕ) → w < length plans → IsUnderway (steps_of plans w) w kept k ls (end_of w)

  pub schedule_so_far : (front kept : List Line) (k : ℕ) (ls : List Line) → IsSoFar front kept k ls → IsSchedule d plans kept
  schedule_so_far front kept k ls s = record { honest = s.honest_kept; workers = s.workers; steps = λ w lt. ((s.each w lt).place, (s.each w lt).leads) }

  module _ (front kept : List Line) (k : ℕ) (l : Line) (ls : List Line) (s : IsSoFar front kept k (l ∷ ls)) (lt : l.worker < length plans) where
    abbrev Next : Type 0
    Next = (next : List Line) × IsSoFar (front ++ l ∷ []) next (k + 1) ls

    here : IsUnderway (steps_of plans l.worker) l.worker kept k (l ∷ ls) (end_of l.worker)
    here = s.each l.worker lt

    owed_here : Owed d ample (own_openings d) kept l.worker l.attempt l.reply
    owed_here = owed_alike d (own_openings d) front kept s.alike room ample small l.worker l.attempt l.reply s.honest.0 s.honest.1

    honest_next : IsHonest d ample (own_openings d) (kept ++ l ∷ [])
    honest_next = honest_more d ample (own_openings d) kept l s.honest_kept owed_here s.honest.1

    -- the line is kept, and takes its own process one step further
    kept_line :
        IsUnderway (steps_of plans l.worker) l.worker (kept ++ l ∷ []) (k + 1) ls (end_of l.worker)
        → ((w : ℕ) → l.worker ≢ w → (held : List Activation) → AreLive kept w (begun_in kept) held → AreLive (kept ++ l ∷ []) w (begun_in (kept ++ l ∷ [])) held)
        → Next
    kept_line own others = (
      kept ++ l ∷ [],
      record {
        honest = s.honest.2;
        alike = alike_both d (own_openings d) front kept s.alike l;
        honest_kept = honest_next;
        workers = All-push (λ (m : Line). m.worker < length plans) kept l s.workers lt;
        each = λ w low. elim (cases_eq l.worker w) [
          | inl same ↦ subst (λ (v : ℕ). IsUnderway (steps_of plans v) v (kept ++ l ∷ []) (k + 1) ls (end_of v)) same own
          | inr other ↦ (
              let u = s.each w low in
              stays (steps_of plans w) w kept k l ls (end_of w) u (kept ++ l ∷ []) (leads_other (steps_of plans w) w at_first kept l u.place u.leads other) (others w other u.place.entered u.alive) u.receipts
              (other_matches w k l ls u.receipts other u.matches) u.goes)
        ];
      },
    )

    -- a start is admitted
    module _ (op : OpId) (act : ActId) (is : line_of l.worker (Start op) (Started act) ≡ l) where
      number : act.0 ≡ begun_in kept
      number = started_number (by_words d) d ample kept op (Started act) (subst (λ (m : Line). Owed d ample (own_openings d) kept m.worker m.attempt m.reply) (sym is) owed_here) act refl

      begun_started : begun_in (kept ++ l ∷ []) ≡ begun_in kept + 1
      begun_started = ap (λ (m : Line). begun_in (kept ++ m ∷ [])) (sym is) ∙ begun_next d ample (own_openings d) kept s.honest_kept l.worker op act number

      started_alive : (w : ℕ) (held : List Activation) → AreLive kept w (begun_in kept) held → AreLive (kept ++ l ∷ []) w (begun_in kept) held
      started_alive w held h =
          subst (λ (m : Line). AreLive (kept ++ m ∷ []) w (begun_in kept) held) is (started_keeps d ample (own_openings d) kept s.honest_kept l.worker op act number w held h)

      started : (rest : List Step) (receipts : List Receipt) → here.left ≡ Enter op ∷ rest → Matches l.worker (k + 1) ls receipts → Goes rest (act ∷ numbers here.place.entered) receipts (end_of l.worker) → Next
      started rest receipts next matches goes =
          let a : Activation = record { act = act; worker = l.worker; op = op } in
          let found = started_found d ample (own_openings d) kept s.honest_kept l.worker op act number (subst (λ (m : Line). IsHonest d ample (own_openings d) (kept ++ m ∷ [])) (sym is) honest_next) in
          kept_line
          (own_line (steps_of plans l.worker) l.worker kept k l ls (end_of l.worker) here refl (Enter op) rest (a ∷ here.place.entered) receipts next
          (sym (ap (λ (m : Line). m.attempt) is))
          (subst (λ r. Enters l.worker (Enter op) here.place.entered r (a ∷ here.place.entered)) (ap (λ (m : Line). m.reply) is) refl) (
            subst (λ (m : Line). activation_of act (live (kept ++ m ∷ [])) ≡ Some a) is found,
            refl,
            (let more = begun_started in let n = number in omega (arith, more, n)),
            subst (λ (n : ℕ). AreLive (kept ++ l ∷ []) l.worker n here.place.entered) (sym number) (started_alive l.worker here.place.entered here.alive),
          )
          matches goes)
          (λ w other held h. alive_below (kept ++ l ∷ []) w (begun_in kept) (begun_in (kept ++ l ∷ [])) held (let more = begun_started in omega (arith, more)) (started_alive w held h))

    -- a use is served
    used : (verb : Verb) (a : Activation) (below : List Activation) (x : ℕ) → line_of l.worker (Apply a.act verb) (Used x) ≡ l → (rest : List Step) (receipts : List Receipt) → here.left ≡ Use verb ∷ rest
        → here.place.entered ≡ a ∷ below → Matches l.worker (k + 1) ls receipts → Goes rest (numbers here.place.entered) receipts (end_of l.worker) → Next
    used verb a below x is rest receipts next entered matches goes =
        let alive = (λ (w : ℕ) (held : List Activation) (h : AreLive kept w (begun_in kept) held). subst (λ (m : Line). AreLive (kept ++ m ∷ []) w (begun_in (kept ++ m ∷ [])) held) is (used_keeps kept l.worker a.act verb (Used x) w held h)) in
        kept_line
        (own_line (steps_of plans l.worker) l.worker kept k l ls (end_of l.worker) here refl (Use verb) rest here.place.entered receipts next
        (subst (λ e. Asks (Use verb) e l.attempt) (sym entered) (sym (ap (λ (m : Line). m.attempt) is)))
        (subst (λ r. Enters l.worker (Use verb) here.place.entered r here.place.entered) (ap (λ (m : Line). m.reply) is) (subst (λ e. Enters l.worker (Use verb) e (Used x) e) (sym entered) refl))
        (alive l.worker here.place.entered here.alive)
        matches goes)
        (λ w other held h. alive w held h)

    -- an activation is left
    left : (a : Activation) (below : List Activation) → line_of l.worker (Finish a.act) Finished ≡ l → (rest : List Step) (receipts : List Receipt) → here.left ≡ Leave ∷ rest
        → here.place.entered ≡ a ∷ below → Matches l.worker (k + 1) ls receipts → Goes rest (numbers below) receipts (end_of l.worker) → Next
    left a below is rest receipts next entered matches goes =
        let h : AreLive kept l.worker (begun_in kept) (a ∷ below) = subst (AreLive kept l.worker (begun_in kept)) entered here.alive in
        let begun : begun_in (kept ++ l ∷ []) ≡ begun_in kept = ap (λ (m : Line). begun_in (kept ++ m ∷ [])) (sym is) ∙ begun_finished kept l.worker a.act in
        kept_line
        (own_line (steps_of plans l.worker) l.worker kept k l ls (end_of l.worker) here refl Leave rest below receipts next
        (subst (λ e. Asks Leave e l.attempt) (sym entered) (sym (ap (λ (m : Line). m.attempt) is)))
        (subst (λ r. Enters l.worker Leave here.place.entered r below) (ap (λ (m : Line). m.reply) is) (subst (λ e. Enters l.worker Leave e Finished below) (sym entered) refl))
        (alive_below (kept ++ l ∷ []) l.worker a.act.0 (begun_in (kept ++ l ∷ [])) below (let low = h.2 in omega (arith, low, begun))
        (subst (λ (m : Line). AreLive (kept ++ m ∷ []) l.worker a.act.0 below) is
        (finished_keeps kept l.worker a.act l.worker a.act.0 below (λ b found own low same. omega (arith, low, same)) h.3)))
        matches goes)
        (λ w other held alive.
        alive_below (kept ++ l ∷ []) w (begun_in kept) (begun_in (kept ++ l ∷ [])) held (omega (arith, begun))
        (subst (λ (m : Line). AreLive (kept ++ m ∷ []) w (begun_in kept) held) is
        (finished_keeps kept l.worker a.act w (begun_in kept) held (λ b found own low. others_differ kept a.act a w h.0 (λ same. other (sym h.1 ∙ same)) b found own) alive)))

    -- a start is blocked
    blocked : (op : OpId) (path : PathId) → line_of l.worker (Start op) (Blocked path) ≡ l → (receipts : List Receipt) → Matches l.worker (k + 1) ls receipts
        → Goes here.left (numbers here.place.entered) receipts (end_of l.worker) → Next
    blocked op path is receipts matches goes = (
      kept,
      record {
        honest = s.honest.2;
        alike = subst (λ (m : Line). Alike d (own_openings d) (front ++ m ∷ []) kept) is (alike_blocked d (own_openings d) front kept s.alike l.worker op path);
        honest_kept = s.honest_kept;
        workers = s.workers;
        each = λ w low. elim (cases_eq l.worker w) [
          | inl same ↦ subst (λ (v : ℕ). IsUnderway (steps_of plans v) v kept (k + 1) ls (end_of v)) same
              (stays (steps_of plans l.worker) l.worker kept k l ls (end_of l.worker) here kept here.leads here.alive receipts matches goes)
          | inr other ↦ (
              let u = s.each w low in
              stays (steps_of plans w) w kept k l ls (end_of w) u kept u.leads u.alive u.receipts (other_matches w k l ls u.receipts other u.matches) u.goes)
        ];
      },
    )

    -- a fault is against what every schedule shows
    no_fault : (step : Step) (rest : List Step) → here.left ≡ step ∷ rest → Asks step here.place.entered l.attempt → IsFault step l.reply → l.reply ≢ DeviceFailed → ⊥
    no_fault step rest next asks fault unfailed =
        (passes kept (schedule_so_far front kept k (l ∷ ls) s)).unrefused l.worker l.attempt l.reply
        (record {
          within = lt;
          place = here.place;
          leads = here.leads;
          step = step;
          next = next_of (steps_of plans l.worker) here.before rest step here.place.taken (here.parts ∙ ap (λ xs. here.before ++ xs) next) here.taken;
          asks = asks;
          owed = owed_here;
          refusal = fault_refused d ample (own_openings d) kept l.worker (begun_in kept) step here.place.entered l.attempt l.reply asks fault unfailed here.alive owed_here;
        })

    turned : (attempt : Attempt) (reply : Reply) (receipts : List Receipt) → line_of l.worker attempt reply ≡ l → Matches l.worker (k + 1) ls receipts
        → Turn here.left here.place.entered receipts (end_of l.worker) attempt reply → Next
    turned _ _ receipts is matches (Turn.starts op rest act next goes) = started op act is rest receipts next matches goes
    turned _ _ receipts is matches (Turn.waits op path goes) = blocked op path is receipts matches goes
    turned _ _ receipts is matches (Turn.uses verb rest a below x next entered goes) = used verb a below x is rest receipts next entered matches goes
    turned _ _ receipts is matches (Turn.leaves rest a below next entered goes) = left a below is rest receipts next entered matches goes
    turned _ _ receipts is matches (Turn.faults step rest attempt reply next asks fault unfailed) = absurd
        (no_fault step rest next (subst (Asks step here.place.entered) (ap (λ (m : Line). m.attempt) is) asks) (subst (IsFault step) (ap (λ (m : Line). m.reply) is) fault)
        (λ same. unfailed (ap (λ (m : Line). m.reply) is ∙ same)))

    -- the next line
    next_line : Next
    next_line = go here.matches
      where
        go : Matches l.worker k (l ∷ ls) here.receipts → Next
        go (inl other) = absurd (other.0 refl)
        go (inr own) =
            let m = own.1 in
            let copy = copy_is k l m.0 m.3 in
            turned m.0.attempt m.0.reply m.1 (λ i. line_of l.worker (copy.0 i) (copy.1 i)) m.4
            (subst (λ rs. FirstTurn here.left here.place.entered rs (end_of l.worker)) m.2 (turn here.left here.place.entered here.receipts (end_of l.worker) here.goes (foreseen l.worker lt)))

  -- all lines to come
  pub all_lines : (front kept : List Line) (k : ℕ) (ls : List Line) → IsSoFar front kept k ls → All (λ l. l.worker < length plans) ls → (last : List Line) × (n : ℕ) × IsSoFar (front ++ ls) last n []
  all_lines front kept k [] s below = (kept, k, subst (λ xs. IsSoFar xs kept k []) (sym (append-nil front)) s)
  all_lines front kept k (l ∷ ls) s below =
      let next = next_line front kept k l ls s (All-head (λ (m : Line). m.worker < length plans) l ls below) in
      let rest = all_lines (front ++ l ∷ []) next.0 (k + 1) ls next.1 (All-tail (λ (m : Line). m.worker < length plans) l ls below) in
      (rest.0, rest.1, subst (λ xs. IsSoFar xs rest.0 rest.1 []) (append_assoc front (l ∷ []) ls) rest.2)
