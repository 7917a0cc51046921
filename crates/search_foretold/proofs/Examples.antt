-- A worked example: a process that enters an operation and leaves it again. Every schedule of it ends done, and it has a run that is foreseen.
use Rattle.std.proofs.Common.{◌≡◌, ◌⊎◌, ◌<◌, ℕ, suc, zero, true, false, List, [], ◌∷◌, length, get_or, Some, None, refl, subst, inl, inr, arith}
use Rattle.std.specs.Prelude.{All, slice_get}
use Rattle.std.proofs.lemmas.List.Elements.{All-nil, All-cons}
use Rattle.path_model.specs.declared.ids.OpId.{OpId}
use Rattle.path_model.specs.declared.ids.ActId.{ActId}
use Rattle.path_model.specs.declared.resource.Law.TheVariants.{Cell}
use Rattle.path_model.specs.declared.journal.Attempt.{Attempt}
use Rattle.path_model.specs.declared.journal.Attempt.TheVariants.{Start, Finish}
use Rattle.path_model.specs.declared.journal.Reply.{Reply}
use Rattle.path_model.specs.declared.journal.Reply.TheVariants.{Started, Finished}
use Rattle.path_model.specs.declared.journal.Line.{Line}
use Rattle.path_model.specs.declared.journal.Activation.{Activation}
use Rattle.path_model.specs.Declarations.{Resource, Operation, Declaration}
use Rattle.path_model.specs.Owed.{by_words, OwedToStart, OwedToFinish, Owed}
use Rattle.path_model.proofs.CallerLemmas.{line_of}
use Rattle.path_lex.specs.declared.token.Class.TheVariants.{Letter}
use Rattle.path_lex.specs.Bytes.{class_of}
use Rattle.path_lex.specs.Names.{reserved_of, IsName}
use Rattle.path_decl.specs.Lawful.{CapacityFits, Lawful}
use Rattle.path_system.specs.Accounts.{Account, IsSystem}
use Rattle.path_workers.specs.Attempts.{Held}
use Rattle.path_workers.specs.Settled.{AllCopied}
use Rattle.path_script.specs.declared.script.Step.{Step}
use Rattle.path_script.specs.declared.script.Step.TheVariants.{Enter, Leave}
use Rattle.path_script.specs.Scripts.{Plan}
use Rattle.search_schedules.specs.Schedules.{Asks, ample, is_refusal, own_openings, steps_of, IsStalled, IsRefused}
use Rattle.path_run.specs.declared.outcome.End.TheVariants as ends
use Rattle.path_run.specs.Runs.{note, IsRun, EachRuns}
use Rattle.path_run.specs.Lines.{AreInOrder, EachIsOrderly, EachIsBlockedNow}
use Rattle.search_foretold.specs.Foretold.{is_unforeseen, EveryScheduleEndsDone, IsForeseenRun}

abbrev visit : OpId
visit = record { 0 = 0 }

abbrev first : ActId
first = record { 0 = 0 }

-- resource room cell operation visit end, with letters for the names
abbrev declaration : Declaration
declaration = record {
  resources = record { name = 114 ∷ []; law = Cell } ∷ [];
  operations = record { name = 118 ∷ []; resource = 0 } ∷ [];
  paths = [];
}

-- process visitor enter visit leave end
abbrev plans : List Plan
plans = record { name = 118 ∷ []; steps = Enter visit ∷ Leave ∷ [] } ∷ []

-- the steps of any process of the script
steps_are : (w k : ℕ) (s : Step) → w < length plans → slice_get (steps_of plans w) k ≡ Some s → (s ≡ Enter visit) ⊎ (s ≡ Leave)
steps_are zero zero s lt next = inl (cc)
steps_are zero (suc zero) s lt next = inr (cc)
steps_are zero (suc (suc k)) s lt next = absurd (cc)
steps_are (suc w) k s lt next = absurd (omega (arith, lt))

start_passes : (room : ℕ) (ls : List Line) (reply : Reply) → OwedToStart (by_words declaration) declaration room ls visit reply → is_refusal reply ≡ true → ⊥
start_passes room ls _ (OwedToStart.no_room l) refusal = cc
start_passes room ls _ (OwedToStart.unknown l k) refusal = omega (arith, k)
start_passes room ls _ (OwedToStart.blocked p l k f) refusal = cc
start_passes room ls _ (OwedToStart.started n l k f e) refusal = cc

finish_passes : (room : ℕ) (ls : List Line) (w : ℕ) (n : ActId) (reply : Reply) → OwedToFinish declaration room ls w n reply → is_refusal reply ≡ true → ⊥
finish_passes room ls w n _ (OwedToFinish.finished a o) refusal = cc
finish_passes room ls w n _ (OwedToFinish.no_room o l) refusal = cc
finish_passes room ls w n _ (OwedToFinish.stale l k) refusal = cc
finish_passes room ls w n _ (OwedToFinish.not_yours a l k o) refusal = cc

step_passes : (ls : List Line) (w : ℕ) (attempt : Attempt) (reply : Reply) (s : Step) (entered : List Activation) → (s ≡ Enter visit) ⊎ (s ≡ Leave) → Asks s entered attempt
    → Owed declaration ample (own_openings declaration) ls w attempt reply → is_refusal reply ≡ true → ⊥
step_passes ls w attempt reply s entered (inl enters) asks owed refusal =
    let is : attempt ≡ Start visit = subst (λ x. Asks x entered attempt) enters asks in
    start_passes ample ls reply (subst (λ x. Owed declaration ample (own_openings declaration) ls w x reply) is owed) refusal
step_passes ls w attempt reply s [] (inr leaves) asks owed refusal = subst (λ x. Asks x [] attempt) leaves asks
step_passes ls w attempt reply s (a ∷ below) (inr leaves) asks owed refusal =
    let is : attempt ≡ Finish a.act = subst (λ x. Asks x (a ∷ below) attempt) leaves asks in
    finish_passes ample ls w a.act reply (subst (λ x. Owed declaration ample (own_openings declaration) ls w x reply) is owed) refusal

unstalled : (ls : List Line) → IsStalled declaration plans ls → ⊥
unstalled ls stalled =
    let who = stalled.somebody in
    elim (stalled.nobody_goes_on who.0 who.1 who.2 who.3) [
      | inl ended ↦ who.4 ended
      | inr blocked ↦ blocked.3
    ]

unrefused : (ls : List Line) (w : ℕ) (attempt : Attempt) (reply : Reply) → IsRefused declaration plans ls w attempt reply → ⊥
unrefused ls w attempt reply r = step_passes ls w attempt reply r.step r.place.entered (steps_are w r.place.taken r.step r.within r.next) r.asks r.owed r.refusal

every_schedule_ends_done : EveryScheduleEndsDone declaration plans
every_schedule_ends_done ls schedule = record { unstalled = unstalled ls; unrefused = unrefused ls }

abbrev before : Account
before = record { declaration = declaration; room = 4; opened = None; openings = own_openings declaration; earlier = []; journal = []; failures = 0 ∷ [] }

abbrev journal : List Line
journal = line_of 0 (Start visit) (Started first) ∷ line_of 0 (Finish first) Finished ∷ []

abbrev after : Account
after = record before { journal = journal }

abbrev passes : List Held
passes = record { worker = 0; receipts = note 0 (Start visit) (Started first) ∷ note 1 (Finish first) Finished ∷ [] } ∷ []

is_name : (b : ℕ) → class_of b ≡ Letter → reserved_of (b ∷ []) ≡ None → IsName (b ∷ [])
is_name b letter free = record { word = (letter, tt); short = omega arith; free = free }

room_name : IsName (114 ∷ [])
unfolding class_of reserved_of
room_name = is_name 114 refl refl

visit_name : IsName (118 ∷ [])
unfolding class_of reserved_of
visit_name = is_name 118 refl refl

lawful : Lawful declaration
lawful = record {
  resource_names = record { each = All-cons IsName (114 ∷ []) [] room_name (All-nil IsName); distinct = λ i j d low lt. absurd (omega (arith, low, lt)) };
  operation_names = record { each = All-cons IsName (118 ∷ []) [] visit_name (All-nil IsName); distinct = λ i j d low lt. absurd (omega (arith, low, lt)) };
  well_formed = tt;
  named = λ k p lt. absurd (omega (arith, lt));
  few_names = λ k p lt. absurd (omega (arith, lt));
  few_resources = omega arith;
  few_operations = omega arith;
  few_paths = omega arith;
  operations = All-cons (λ (o : Operation). o.resource < 1) (record { name = 118 ∷ []; resource = 0 }) [] (omega arith) (All-nil (λ (o : Operation). o.resource < 1));
  paths = λ k p lt. absurd (omega (arith, lt));
  capacities = All-cons (λ (r : Resource). CapacityFits r.law) (record { name = 114 ∷ []; law = Cell }) [] tt (All-nil (λ (r : Resource). CapacityFits r.law));
  bounded = tt;
}

visit_starts : Owed declaration 4 (own_openings declaration) [] 0 (Start visit) (Started first)
visit_starts = OwedToStart.started first (omega arith) (omega arith) tt refl

visit_finishes : Owed declaration 4 (own_openings declaration) (line_of 0 (Start visit) (Started first) ∷ []) 0 (Finish first) Finished
visit_finishes = OwedToFinish.finished (record { act = first; worker = 0; op = visit }) (record { found = refl; own = refl })

system : IsSystem after
system = record {
  first = refl;
  lawful = lawful;
  good_room = (omega arith, omega arith);
  honest = ((visit_starts, (λ e. cc), (visit_finishes, (λ e. cc), tt)), tt);
  room = omega arith;
}

runs : EachRuns plans passes (ends.Done ∷ [])
runs zero p h e lt = (
  refl,
  IsRun.entered visit (Leave ∷ []) [] 0 first (note 1 (Finish first) Finished ∷ []) ends.Done (IsRun.left [] first [] 1 [] ends.Done IsRun.done),
)
runs (suc i) p h e lt = absurd (omega (arith, lt))

copied : AllCopied 0 journal passes
copied zero l low lt = refl
copied (suc zero) l low lt = refl
copied (suc (suc k)) l low lt = absurd (omega (arith, lt))

orderly : EachIsOrderly journal passes (ends.Done ∷ [])
orderly zero h e lt = (ordered, tt)
  where
    ordered : AreInOrder journal (get_or passes 0 h).receipts
    ordered zero r low lt = (omega arith, λ b c. absurd (cc))
    ordered (suc i) r low lt = absurd (omega (arith, lt))
orderly (suc i) h e lt = absurd (omega (arith, lt))

not_blocked : EachIsBlockedNow declaration journal (ends.Done ∷ [])
not_blocked zero e lt = tt
not_blocked (suc i) e lt = absurd (omega (arith, lt))

foreseen : All (λ e. is_unforeseen e ≡ false) (ends.Done ∷ [])
foreseen = All-cons (λ e. is_unforeseen e ≡ false) ends.Done [] refl (All-nil (λ e. is_unforeseen e ≡ false))

a_run : IsForeseenRun declaration plans (ends.Done ∷ [])
a_run = record {
  before = before;
  after = after;
  passes = passes;
  new_system = record { declaration = refl; openings = refl; earlier = refl; journal = refl };
  run = record {
    later = record { declaration = refl; room = refl; openings = refl; earlier = refl; more = journal; journal = refl };
    passes = refl;
    ends = refl;
    runs = runs;
    judged = record { settled = (refl, copied); orderly = orderly; blocked = not_blocked; system = system };
  };
  foreseen = foreseen;
}
