-- How the processes of a run have ended, where every schedule of its script ends done.
use Rattle.std.proofs.Common.{◌≡◌, ◌⊎◌, ◌<◌, ◌≤◌, ◌+◌, ℕ, suc, false, List, [], ◌∷◌, ◌++◌, length, get_or, Some, refl, sym, ap, ◌∙◌, subst, inl, inr, arith, add-one, append-nil, length-append}
use Rattle.std.specs.Prelude.{All}
use Rattle.std.proofs.lemmas.List.{get_or_default}
use Rattle.path_model.specs.declared.ids.OpId.{OpId}
use Rattle.path_model.specs.declared.journal.Line.{Line}
use Rattle.path_model.specs.Declarations.{Declaration}
use Rattle.path_model.specs.Owed.{by_words}
use Rattle.path_model.specs.Honest.{IsHonest}
use Rattle.path_model.specs.Segments.{joined, AreHonest}
use Rattle.path_model.proofs.CallerLemmas.{one_segment_is_a_journal}
use Rattle.path_workers.specs.declared.answer.Receipt.{Receipt}
use Rattle.path_workers.specs.Attempts.{Held}
use Rattle.path_workers.specs.Settled.{IsSettled}
use Rattle.path_script.specs.declared.script.Step.{Step}
use Rattle.path_script.specs.declared.script.Step.TheVariants.{Enter}
use Rattle.path_script.specs.Scripts.{Plan}
use Rattle.search_schedules.specs.Schedules.{Place, at_first, Leads, steps_of, own_openings, ample, HasEnded, IsBlocked}
use Rattle.search_schedules.proofs.CallerLemmas.{leads_one}
use Rattle.path_run.specs.declared.outcome.End.{End}
use Rattle.path_run.specs.declared.outcome.End.TheVariants as ends
use Rattle.path_run.specs.Lines.{AreInOrder, IsBlockedNow}
use Rattle.path_run.specs.Ended.{IsSettledRun}
use Rattle.search_foretold.specs.Foretold.{is_unforeseen, EveryScheduleEndsDone, IsForeseenRun, RunsEndAsForetold}
use Rattle.search_foretold.proofs.Copies.{Rises, receipts_at, workers_within, each_matches}
use Rattle.search_foretold.proofs.Alike.{alike_first}
use Rattle.search_foretold.proofs.Turns.{Stopped, stopped}
use Rattle.search_foretold.proofs.Walking.{next_of, IsSoFar, schedule_so_far, all_lines as all_kept}

-- each of the receipts has a lower place than the next one, so the places rise
rises_from : (low : ℕ) (rs : List Receipt) → ((d : Receipt) → 0 < length rs → low ≤ (get_or rs 0 d).place)
    → ((i : ℕ) (d : Receipt) → suc i < length rs → (get_or rs i d).place < (get_or rs (suc i) d).place) → Rises low rs
rises_from low [] first next = tt
rises_from low (r ∷ rs) first next =
    (first r (omega arith), rises_from (r.place + 1) rs (λ d lt. (let k = next 0 d (omega (arith, lt)) in omega (arith, k))) (λ i d lt. next (suc i) d (omega (arith, lt))))

in_order_rises : (lines : List Line) (rs : List Receipt) → AreInOrder lines rs → Rises 0 rs
in_order_rises lines rs order =
    rises_from 0 rs (λ d lt. omega arith)
    (λ i d lt. subst (λ (j : ℕ). (get_or rs i d).place < (get_or rs j d).place) (add-one i) (order i d (omega (arith, lt)) (omega (arith, lt))).0)

module _ (d : Declaration) (plans : List Plan) (room : ℕ) (small : room ≤ ample) (passes : EveryScheduleEndsDone d plans) (end_of : ℕ → End)
    (foreseen : (w : ℕ) → w < length plans → is_unforeseen (end_of w) ≡ false) (journal last : List Line) (k : ℕ)
    (s : IsSoFar d plans room small passes end_of foreseen journal last k [])
    (blocked : (w : ℕ) → w < length plans → IsBlockedNow d journal (end_of w)) where
  -- where each process stopped
  stop : (w : ℕ) (lt : w < length plans) → Stopped (s.each w lt).left (end_of w)
  stop w lt = let u = s.each w lt in stopped u.left _ u.receipts (end_of w) u.goes u.matches (foreseen w lt)

  -- a process that is done has taken all its steps
  has_ended : (w : ℕ) (lt : w < length plans) → (s.each w lt).left ≡ [] → HasEnded (steps_of plans w) (s.each w lt).place
  has_ended w lt none = let u = s.each w lt in u.taken ∙ sym (ap length (u.parts ∙ ap (λ xs. u.before ++ xs) none ∙ append-nil u.before))

  -- a process that stalled has not, and is blocked
  not_ended : (w : ℕ) (lt : w < length plans) (op : OpId) (rest : List Step) → (s.each w lt).left ≡ Enter op ∷ rest → HasEnded (steps_of plans w) (s.each w lt).place → ⊥
  not_ended w lt op rest next ended =
      let u = s.each w lt in
      let parts = ap length (u.parts ∙ ap (λ xs. u.before ++ xs) next) in
      let longer = length-append u.before (Enter op ∷ rest) in
      let taken = u.taken in
      omega (arith, parts, longer, taken, ended)

  is_blocked : (w : ℕ) (lt : w < length plans) (op : OpId) (rest : List Step) → (s.each w lt).left ≡ Enter op ∷ rest → end_of w ≡ ends.Stalled op → IsBlocked d last (steps_of plans w) (s.each w lt).place
  is_blocked w lt op rest next end =
      let u = s.each w lt in
      let now : IsBlockedNow d journal (ends.Stalled op) = subst (IsBlockedNow d journal) end (blocked w lt) in
      (op, now.0, next_of (steps_of plans w) u.before rest (Enter op) u.place.taken (u.parts ∙ ap (λ xs. u.before ++ xs) next) u.taken, subst (λ h. by_words d h op (Some now.0)) (sym s.alike.same_history) now.1)

  goes_on_or_not : (w : ℕ) (lt : w < length plans) → HasEnded (steps_of plans w) (s.each w lt).place ⊎ IsBlocked d last (steps_of plans w) (s.each w lt).place
  goes_on_or_not w lt = elim (stop w lt) [
    | inl done ↦ inl (has_ended w lt done.0)
    | inr stalled ↦ inr (is_blocked w lt stalled.0 stalled.1 stalled.2 stalled.3)
  ]

  nobody_goes_on : (w : ℕ) (p : Place) → w < length plans → Leads (steps_of plans w) w at_first last p → HasEnded (steps_of plans w) p ⊎ IsBlocked d last (steps_of plans w) p
  nobody_goes_on w p lt leads =
      subst (λ (q : Place). HasEnded (steps_of plans w) q ⊎ IsBlocked d last (steps_of plans w) q)
      (leads_one (steps_of plans w) w at_first last (s.each w lt).place p (s.each w lt).leads leads) (goes_on_or_not w lt)

  -- so nobody stalled
  pub all_done : (w : ℕ) → w < length plans → end_of w ≡ ends.Done
  all_done w lt = elim (stop w lt) [
    | inl done ↦ done.1
    | inr stalled ↦ absurd ((passes last (schedule_so_far d plans room small passes end_of foreseen journal last k [] s)).unstalled (record {
      somebody = (w, (s.each w lt).place, lt, (s.each w lt).leads, not_ended w lt stalled.0 stalled.1 stalled.2);
      nobody_goes_on = nobody_goes_on;
    }))
  ]

module _ (d : Declaration) (plans : List Plan) (es : List End) (passes : EveryScheduleEndsDone d plans) (r : IsForeseenRun d plans es) where
  judged : IsSettledRun r.before r.after r.passes es
  judged = r.run.judged

  abbrev journal : List Line
  journal = r.after.journal

  abbrev end_of : ℕ → End
  end_of w = get_or es w ends.Done

  foreseen : (w : ℕ) → w < length plans → is_unforeseen (end_of w) ≡ false
  foreseen w lt = r.foreseen w ends.Done (let n = r.run.ends in omega (arith, n, lt))

  small : r.after.room ≤ ample
  small = judged.system.good_room.1

  declaration : r.after.declaration ≡ d
  declaration = r.run.later.declaration ∙ r.new_system.declaration

  openings : r.after.openings ≡ own_openings d
  openings = r.run.later.openings ∙ r.new_system.openings

  earlier : r.after.earlier ≡ []
  earlier = r.run.later.earlier ∙ r.new_system.earlier

  -- the journal is honest from its first line on
  honest : IsHonest d r.after.room (own_openings d) journal
  honest =
      (one_segment_is_a_journal d r.after.room (own_openings d) journal).0
      (subst (λ (x : Declaration). AreHonest x r.after.room (own_openings d) (journal ∷ [])) declaration
      (subst (λ (os : List (List ℕ)). AreHonest r.after.declaration r.after.room os (journal ∷ [])) openings
      (subst (λ (ss : List (List Line)). AreHonest r.after.declaration r.after.room r.after.openings (ss ++ journal ∷ [])) earlier judged.system.honest)))

  settled : IsSettled 0 journal r.passes
  settled = subst (λ (ls : List Line). IsSettled (length ls) journal r.passes) r.new_system.journal judged.settled

  own : (i : ℕ) (h : Held) → i < length r.passes → (get_or r.passes i h).worker ≡ i
  own i h lt = (r.run.runs i (record { name = []; steps = [] }) h ends.Done (let n = r.run.passes in omega (arith, n, lt))).0

  rises : (w : ℕ) → w < length r.passes → Rises 0 (receipts_at r.passes w)
  rises w lt = in_order_rises journal (receipts_at r.passes w) (judged.orderly w (record { worker = w; receipts = [] }) ends.Done lt).0

  -- at first
  begin : IsSoFar d plans r.after.room small passes end_of foreseen [] [] 0 journal
  begin = record {
    honest = honest;
    alike = alike_first d (own_openings d);
    honest_kept = tt;
    workers = λ k l lt. absurd (omega (arith, lt));
    each = λ w lt. record {
      place = at_first;
      leads = refl;
      alive = tt;
      before = [];
      left = steps_of plans w;
      parts = refl;
      taken = refl;
      receipts = receipts_at r.passes w;
      matches = each_matches r.passes journal settled own rises w (let n = r.run.passes in omega (arith, n, lt));
      goes = inl (r.run.runs w (record { name = []; steps = [] }) (record { worker = w; receipts = [] }) ends.Done lt).1;
    };
  }

  within : All (λ l. l.worker < length plans) journal
  within = λ k l lt. (let low = workers_within r.passes journal settled own rises k l lt in let n = r.run.passes in omega (arith, n, low))

  blocked : (w : ℕ) → w < length plans → IsBlockedNow d journal (end_of w)
  blocked w lt =
      subst (λ (x : Declaration). IsBlockedNow x journal (end_of w)) declaration
      (subst (λ (ss : List (List Line)). IsBlockedNow r.after.declaration (joined ss ++ journal) (end_of w)) earlier (judged.blocked w ends.Done (let n = r.run.ends in omega (arith, n, lt))))

  pub each_done : All (λ e. e ≡ ends.Done) es
  each_done = λ i e lt.
      let within_plans : i < length plans = (let n = r.run.ends in omega (arith, n, lt)) in
      let kept = all_kept d plans r.after.room small passes end_of foreseen [] [] 0 journal begin within in
      get_or_default es i e ends.Done lt
      ∙ all_done d plans r.after.room small passes end_of foreseen journal kept.0 kept.1 kept.2 blocked i within_plans

pub runs_end_as_foretold : RunsEndAsForetold
runs_end_as_foretold d plans es passes r = each_done d plans es passes r
