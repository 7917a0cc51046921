-- With the line of a step, what is left is that of the journal.
use Rattle.std.proofs.Common.{◌≡◌, ◌≢◌, ℕ, ◌+◌, ◌<◌, ◌≤◌, Bool, true, false, cond, List, [], ◌∷◌, ◌++◌, All, length, get_or, arith, refl, ap, sym, subst, ◌∙◌, Option, Some, None, inl, inr, eq-eqb, ne_eqb}
use Rattle.std.specs.Prelude.{◌==◌, ◌||◌, nat_le, not}
use Rattle.std.proofs.Math.ListN.{set}
use Rattle.std.proofs.lemmas.Bool.{cases_eq, cond-true, cond-false}
use Rattle.std.proofs.lemmas.Bool.Decides.{nat_tests}
use Rattle.std.proofs.lemmas.List.{length-set, get_or-set_same, get_or-set_other}
use Rattle.std.proofs.lemmas.List.Elements.{All-cons, All-append, All-filter}
use Rattle.path_model.specs.declared.ids.OpId.{OpId}
use Rattle.path_model.specs.declared.ids.ActId.{ActId}
use Rattle.path_model.specs.declared.resource.Law.{Law}
use Rattle.path_model.specs.declared.resource.Law.TheVariants.{Cell, Tally, Queue}
use Rattle.path_model.specs.declared.journal.Verb.{Verb}
use Rattle.path_model.specs.declared.journal.Verb.TheVariants.{Put, Take, Look, Add}
use Rattle.path_model.specs.declared.journal.Attempt.{Attempt}
use Rattle.path_model.specs.declared.journal.Attempt.TheVariants.{Start, Apply, Finish}
use Rattle.path_model.specs.declared.journal.Reply.{Reply}
use Rattle.path_model.specs.declared.journal.Reply.TheVariants.{Started, Blocked, UnknownOperation, Used, NotOffered, Empty, Full, Overflow, DeviceFailed, Finished, Stale, NotYours, NoRoom}
use Rattle.path_model.specs.declared.journal.Line.{Line}
use Rattle.path_model.specs.declared.journal.Activation.{Activation}
use Rattle.path_model.specs.Declarations.{Declaration, resource_of, law_of}
use Rattle.path_model.specs.Devices.{Outcome, serves, refuses, outcome_of, contents_left}
use Rattle.path_model.specs.Journals.{IsQuiet, activation_of, admitted_history, without}
use Rattle.path_model.specs.Contents.{contents_after, line_applied, verb_applied}
use Rattle.path_model.proofs.CallerLemmas.{begun_more, begun_quiet, live_quiet, history_quiet, contents_more, quiet_use, quiet_reply, line_of, honest_more, more_room_keeps_honest, live_started, live_finished, live_found, history_started, history_finished}
use Rattle.path_model.specs.Places.{has_room, has_place, wanted_places}
use Rattle.path_decl.specs.Lawful.{Lawful}
use Rattle.path_gate.proofs.CallerLemmas.{both_left}
use Rattle.path_gate.specs.Standings.{IsAt}
use Rattle.path_state.specs.States.{WereOwed}
use Rattle.path_step.specs.Steps.{Present, Register, Acts, held_at, MayStart, IsStarted, IsOver, MovesStart, MovesUse, MovesFinish, Moves, Answers, can_take}
use Rattle.path_step.specs.Presents.{IsLeftBy}
use Rattle.path_step.proofs.Answered.{owed_inside, found_live, resource_in}

-- a refusal is none of the replies to what is served
pub record IsRefusal (reply : Reply) : Type 0 where
  pub not_used : (x : ℕ) → reply ≢ Used x
  pub not_failed : reply ≢ DeviceFailed

refusal_by : (r told : Reply) → refuses told ≡ refuses r → IsRefusal told → IsRefusal r
refusal_by r told is plain = let same : r ≡ told = cc in record { not_used = λ x e. plain.not_used x (sym same ∙ e); not_failed = λ e. plain.not_failed (sym same ∙ e) }

served_or : (b : Bool) (x : ℕ) (rest : List ℕ) (r told : Reply) → cond b (serves x rest) (refuses told) ≡ refuses r → IsRefusal told → IsRefusal r
served_or true x rest r told is plain = absurd (cc)
served_or false x rest r told is plain = refusal_by r told is plain

not_offered : IsRefusal NotOffered
not_offered = record { not_used = λ x e. cc; not_failed = λ e. cc }

empty : IsRefusal Empty
empty = record { not_used = λ x e. cc; not_failed = λ e. cc }

full : IsRefusal Full
full = record { not_used = λ x e. cc; not_failed = λ e. cc }

overflow : IsRefusal Overflow
overflow = record { not_used = λ x e. cc; not_failed = λ e. cc }

-- what a law refuses with
pub refusal_of : (law : Law) (verb : Verb) (held : List ℕ) (r : Reply) → outcome_of law verb held ≡ refuses r → IsRefusal r
refusal_of Cell (Put x) held r is = absurd (cc)
refusal_of Cell Take held r is = refusal_by r NotOffered is not_offered
refusal_of Cell Look held r is = absurd (cc)
refusal_of Cell (Add x) held r is = refusal_by r NotOffered is not_offered
refusal_of Tally (Put x) held r is = refusal_by r NotOffered is not_offered
refusal_of Tally Take held r is = refusal_by r NotOffered is not_offered
refusal_of Tally Look held r is = absurd (cc)
refusal_of Tally (Add x) held r is = served_or _ _ _ r Overflow is overflow
refusal_of (Queue n) (Put x) held r is = served_or _ _ _ r Full is full
refusal_of (Queue n) Take [] r is = refusal_by r Empty is empty
refusal_of (Queue n) Take (x ∷ held) r is = absurd (cc)
refusal_of (Queue n) Look [] r is = refusal_by r Empty is empty
refusal_of (Queue n) Look (x ∷ held) r is = absurd (cc)
refusal_of (Queue n) (Add x) held r is = refusal_by r NotOffered is not_offered

or_more : (a b c : Bool) → (a ≡ true → b ≡ true) → (a || c) ≡ true → (b || c) ≡ true
or_more true b c to e = ap (λ x. x || c) (to refl)
or_more false true c to e = refl
or_more false false c to e = e

fits_more : (m room more : ℕ) → room ≤ more → nat_le m room ≡ true → nat_le m more ≡ true
fits_more m room more wider fits = grind (arith, nat_tests)

-- what has room has it in more, too
roomier : (room more lines : ℕ) (live : List Activation) (w : ℕ) (attempt : Attempt) → room ≤ more → has_room room lines live w attempt ≡ true → has_room more lines live w attempt ≡ true
roomier room more lines live w attempt wider has =
    or_more _ _ (has_place live w attempt) (fits_more (lines + length live + wanted_places attempt) room more wider) has

module _ (d : Declaration) (lawful : Lawful d) (old : Present) (before : List (List ℕ)) (room : ℕ) (openings : List (List ℕ)) (journal : List Line) (s : IsLeftBy old before d openings journal) where
  -- a line that moves nothing
  still_quiet : (w : ℕ) (attempt : Attempt) (reply : Reply) → IsQuiet w attempt reply
      → ((r : ℕ) → line_applied d r journal attempt reply (contents_after d openings journal r) ≡ contents_after d openings journal r)
      → WereOwed d openings (journal ++ line_of w attempt reply ∷ []) → IsLeftBy old before d openings (journal ++ line_of w attempt reply ∷ [])
  still_quiet w attempt reply quiet kept honest = record {
    honest = honest;
    paths = s.paths;
    at = subst (IsAt old.standing) (sym (history_quiet journal (line_of w attempt reply) quiet)) s.at;
    live = s.live ∙ sym (live_quiet journal (line_of w attempt reply) quiet);
    begun = s.begun ∙ sym (begun_quiet journal (line_of w attempt reply) quiet);
    declared = s.declared;
    one_each = s.one_each;
    held = λ r within. contents_more d openings journal (line_of w attempt reply) r ∙ kept r ∙ s.held r within;
  }

  -- a start that was admitted
  now_started : (w : ℕ) (a : OpId) (n : ActId) (new : Present) → MayStart (length d.operations) old a n → IsStarted old w a n new
      → WereOwed d openings (journal ++ line_of w (Start a) (Started n) ∷ []) → IsLeftBy new before d openings (journal ++ line_of w (Start a) (Started n) ∷ [])
  now_started w a n new may m honest =
      let line : Line = line_of w (Start a) (Started n) in
      let begun = begun_more journal line in
      record {
        honest = honest;
        paths = m.standing.paths ∙ s.paths;
        at = subst (IsAt new.standing) (sym (history_started journal w a n)) (m.standing.moved (admitted_history journal) s.at);
        live = ap (λ b. b.live) m.register ∙ ap (λ xs. xs ++ record { act = n; worker = w; op = a } ∷ []) s.live ∙ sym (live_started d s.honest.0 openings journal s.honest.1 w a n (may.number ∙ s.begun));
        begun = (let k = ap (λ (b : Register). b.begun) m.register in let l = s.begun in omega (arith, k, l, begun));
        declared = subst (λ (b : Register). All (λ a. a.op.0 < length d.operations) b.live) (sym m.register)
            (All-append (λ (a : Activation). a.op.0 < length d.operations) old.register.live _ s.declared
            (All-cons (λ (a : Activation). a.op.0 < length d.operations) (record { act = n; worker = w; op = a }) [] may.declared (λ k d h. absurd (omega arith))));
        one_each = s.one_each;
        held = λ r within. contents_more d openings journal line r ∙ s.held r within;
      }

  -- a finish of one's own live activation
  now_over : (w : ℕ) (n : ActId) (a : Activation) (reply : Reply) (new : Present) → activation_of n old.register.live ≡ Some a → IsOver old n a reply new
      → WereOwed d openings (journal ++ line_of w (Finish n) Finished ∷ []) → IsLeftBy new before d openings (journal ++ line_of w (Finish n) Finished ∷ [])
  now_over w n a reply new is m honest =
      let line : Line = line_of w (Finish n) Finished in
      let found = found_live d lawful old before room openings journal s n (Some a) is in
      let begun = begun_more journal line in
      record {
        honest = honest;
        paths = m.standing.paths ∙ s.paths;
        at = subst (IsAt new.standing) (sym (history_finished journal w n a found)) (m.standing.moved (admitted_history journal) s.at);
        live = ap (λ b. b.live) m.register ∙ ap (without n) s.live ∙ sym (live_finished journal w n);
        begun = (let k = ap (λ (b : Register). b.begun) m.register in let l = s.begun in omega (arith, k, l, begun));
        declared = subst (λ (b : Register). All (λ a. a.op.0 < length d.operations) b.live) (sym m.register)
            (All-filter (λ (a : Activation). not (a.act.0 == n.0)) (λ (a : Activation). a.op.0 < length d.operations) old.register.live s.declared);
        one_each = s.one_each;
        held = λ r within. contents_more d openings journal line r ∙ s.held r within;
      }

  -- a use changes the contents of one resource, as the line says
  now_used : (w : ℕ) (n : ActId) (verb : Verb) (reply : Reply) (r : ℕ) (left : List ℕ) → r < length d.resources
      → line_applied d r journal (Apply n verb) reply (contents_after d openings journal r) ≡ left
      → ((q : ℕ) → q ≢ r → line_applied d q journal (Apply n verb) reply (contents_after d openings journal q) ≡ contents_after d openings journal q)
      → WereOwed d openings (journal ++ line_of w (Apply n verb) reply ∷ [])
      → IsLeftBy old (set before r left) d openings (journal ++ line_of w (Apply n verb) reply ∷ [])
  now_used w n verb reply r left inside here others honest =
      let line : Line = line_of w (Apply n verb) reply in
      let quiet = quiet_use w n verb reply in
      record {
        honest = honest;
        paths = s.paths;
        at = subst (IsAt old.standing) (sym (history_quiet journal line quiet)) s.at;
        live = s.live ∙ sym (live_quiet journal line quiet);
        begun = s.begun ∙ sym (begun_quiet journal line quiet);
        declared = s.declared;
        one_each = length-set before r left ∙ s.one_each;
        held = λ q within. contents_more d openings journal line q ∙ elim (cases_eq q r) [
          | inl same ↦ subst (λ k. line_applied d k journal (Apply n verb) reply (contents_after d openings journal k) ≡ get_or (set before r left) k []) (sym same)
              (here ∙ sym (get_or-set_same before r left [] (let k = s.one_each in omega (arith, inside, k))))
          | inr other ↦ others q other ∙ s.held q within ∙ sym (get_or-set_other before r q left [] other)
        ];
      }

  -- what a line of a served verb applies
  applied_here : (n : ActId) (verb : Verb) (a : Activation) (x : ℕ) → activation_of n old.register.live ≡ Some a
      → line_applied d (resource_of d a.op.0) journal (Apply n verb) (Used x) (contents_after d openings journal (resource_of d a.op.0))
      ≡ contents_left (outcome_of (law_of d (resource_of d a.op.0)) verb (held_at before (resource_of d a.op.0))) (held_at before (resource_of d a.op.0))
  applied_here n verb a x is =
      let r : ℕ = resource_of d a.op.0 in
      let held : List ℕ = contents_after d openings journal r in
      let within = resource_in d lawful old before room openings journal s n a is in
      ap (λ o. verb_applied d r verb o held) (live_found journal n a (found_live d lawful old before room openings journal s n (Some a) is))
      ∙ cond-true _ _ _ (eq-eqb r r refl)
      ∙ ap (λ c. contents_left (outcome_of (law_of d r) verb c) c) (s.held r within)

  applied_other : (n : ActId) (verb : Verb) (a : Activation) (x : ℕ) → activation_of n old.register.live ≡ Some a → (q : ℕ) → q ≢ resource_of d a.op.0
      → line_applied d q journal (Apply n verb) (Used x) (contents_after d openings journal q) ≡ contents_after d openings journal q
  applied_other n verb a x is q other =
      ap (λ o. verb_applied d q verb o (contents_after d openings journal q)) (live_found journal n a (found_live d lawful old before room openings journal s n (Some a) is))
      ∙ cond-false _ _ _ (ne_eqb (resource_of d a.op.0) q (λ same. other (sym same)))

  -- a verb that isn't served applies nothing
  unserved : (r : ℕ) (n : ActId) (verb : Verb) (reply : Reply) (held : List ℕ) → ((x : ℕ) → reply ≢ Used x) → line_applied d r journal (Apply n verb) reply held ≡ held
  unserved r n verb (Used x) held other = absurd (other x refl)
  unserved r n verb reply held other = refl

  -- a resource that doesn't serve keeps what it contains
  now_unserved : (w : ℕ) (n : ActId) (verb : Verb) (a : Activation) (reply : Reply) (left : List ℕ) → activation_of n old.register.live ≡ Some a
      → left ≡ held_at before (resource_of d a.op.0) → ((x : ℕ) → reply ≢ Used x)
      → WereOwed d openings (journal ++ line_of w (Apply n verb) reply ∷ [])
      → IsLeftBy old (set before (resource_of d a.op.0) left) d openings (journal ++ line_of w (Apply n verb) reply ∷ [])
  now_unserved w n verb a reply left is kept other honest =
      let within = resource_in d lawful old before room openings journal s n a is in
      now_used w n verb reply (resource_of d a.op.0) left within
      (unserved (resource_of d a.op.0) n verb reply _ other ∙ s.held (resource_of d a.op.0) within ∙ sym kept)
      (λ q apart. unserved q n verb reply _ other) honest

  -- one that serves has what the law leaves
  now_served : (w : ℕ) (n : ActId) (verb : Verb) (a : Activation) (x : ℕ) (rest : List ℕ) (reply : Reply) (left : List ℕ) → activation_of n old.register.live ≡ Some a
      → outcome_of (law_of d (resource_of d a.op.0)) verb (held_at before (resource_of d a.op.0)) ≡ serves x rest → reply ≡ Used x → left ≡ rest
      → WereOwed d openings (journal ++ line_of w (Apply n verb) reply ∷ [])
      → IsLeftBy old (set before (resource_of d a.op.0) left) d openings (journal ++ line_of w (Apply n verb) reply ∷ [])
  now_served w n verb a x rest reply left is outcome told kept honest =
      let r : ℕ = resource_of d a.op.0 in
      subst (λ y. IsLeftBy old (set before r left) d openings (journal ++ line_of w (Apply n verb) y ∷ [])) (sym told)
      (now_used w n verb (Used x) r left (resource_in d lawful old before room openings journal s n a is)
      (applied_here n verb a x is ∙ ap (λ o. contents_left o (held_at before r)) outcome ∙ sym kept)
      (applied_other n verb a x is)
      (subst (λ y. WereOwed d openings (journal ++ line_of w (Apply n verb) y ∷ [])) told honest))

  now_acted : (w : ℕ) (n : ActId) (verb : Verb) (a : Activation) (outcome : Outcome) (reply : Reply) (left : List ℕ) → activation_of n old.register.live ≡ Some a
      → outcome_of (law_of d (resource_of d a.op.0)) verb (held_at before (resource_of d a.op.0)) ≡ outcome
      → ((r : Reply) → outcome ≡ refuses r → IsRefusal r)
      → Acts outcome reply (held_at before (resource_of d a.op.0)) left
      → WereOwed d openings (journal ++ line_of w (Apply n verb) reply ∷ [])
      → IsLeftBy old (set before (resource_of d a.op.0) left) d openings (journal ++ line_of w (Apply n verb) reply ∷ [])
  now_acted w n verb a (serves x rest) reply left is outcome refusal acts honest = elim acts [
    | inl served ↦ now_served w n verb a x rest reply left is outcome served.0 served.1 honest
    | inr failed ↦ now_unserved w n verb a reply left is failed.1 (λ y e. (let told = failed.0 in cc)) honest
  ]
  now_acted w n verb a (refuses r) reply left is outcome refusal acts honest = now_unserved w n verb a reply left is acts.1 (λ y e. (refusal r refl).not_used y (sym acts.0 ∙ e)) honest

  -- a line that refuses
  still_line : (w : ℕ) (attempt : Attempt) (reply : Reply) (told : Reply) (new : Present) → reply ≡ told → new ≡ old
      → (WereOwed d openings (journal ++ line_of w attempt told ∷ []) → IsLeftBy old before d openings (journal ++ line_of w attempt told ∷ []))
      → WereOwed d openings (journal ++ line_of w attempt reply ∷ []) → IsLeftBy new before d openings (journal ++ line_of w attempt reply ∷ [])
  still_line w attempt reply told new is same quiet honest =
      subst (λ y. IsLeftBy new before d openings (journal ++ line_of w attempt y ∷ [])) (sym is)
      (subst (λ p. IsLeftBy p before d openings (journal ++ line_of w attempt told ∷ [])) (sym same)
      (quiet (subst (λ y. WereOwed d openings (journal ++ line_of w attempt y ∷ [])) is honest)))

  -- a start
  after_start : (w : ℕ) (a : OpId) (reply : Reply) (new : Present) → MovesStart (length d.operations) old w a reply new
      → WereOwed d openings (journal ++ line_of w (Start a) reply ∷ []) → IsLeftBy new before d openings (journal ++ line_of w (Start a) reply ∷ [])
  after_start w a (Started n) new m honest = now_started w a n new m.0 m.1 honest
  after_start w a (Blocked p) new m honest =
      still_line w (Start a) (Blocked p) (Blocked p) new refl m.1 (still_quiet w (Start a) (Blocked p) (quiet_reply w (Start a) (Blocked p) (λ n e. cc) (λ e. cc)) (λ r. refl)) honest
  after_start w a UnknownOperation new m honest =
      still_line w (Start a) UnknownOperation UnknownOperation new refl m.1
      (still_quiet w (Start a) UnknownOperation (quiet_reply w (Start a) UnknownOperation (λ n e. cc) (λ e. cc)) (λ r. refl)) honest
  after_start w a reply new m honest = absurd m.0

  still_use : (w : ℕ) (n : ActId) (verb : Verb) (reply told : Reply) (after : List (List ℕ)) → reply ≡ told → after ≡ before
      → ((x : ℕ) → told ≢ Used x)
      → WereOwed d openings (journal ++ line_of w (Apply n verb) reply ∷ []) → IsLeftBy old after d openings (journal ++ line_of w (Apply n verb) reply ∷ [])
  still_use w n verb reply told after is same plain honest =
      subst (λ c. IsLeftBy old c d openings (journal ++ line_of w (Apply n verb) reply ∷ [])) (sym same)
      (still_line w (Apply n verb) reply told old is refl (still_quiet w (Apply n verb) told (quiet_use w n verb told) (λ r. unserved r n verb told _ plain)) honest)

  -- a finish
  after_finish : (w : ℕ) (n : ActId) (o : Option Activation) (reply : Reply) (new : Present) → activation_of n old.register.live ≡ o → MovesFinish old w n o reply new
      → WereOwed d openings (journal ++ line_of w (Finish n) reply ∷ []) → IsLeftBy new before d openings (journal ++ line_of w (Finish n) reply ∷ [])
  after_finish w n None reply new is m honest =
      still_line w (Finish n) reply Stale new m.0 m.1 (still_quiet w (Finish n) Stale (quiet_reply w (Finish n) Stale (λ k e. cc) (λ e. cc)) (λ r. refl)) honest
  after_finish w n (Some a) reply new is m honest = elim (cases_eq a.worker w) [
    | inl own ↦ subst (λ y. IsLeftBy new before d openings (journal ++ line_of w (Finish n) y ∷ [])) (sym (m.1 own).told)
        (now_over w n a reply new is (m.1 own) (subst (λ y. WereOwed d openings (journal ++ line_of w (Finish n) y ∷ [])) (m.1 own).told honest))
    | inr other ↦ still_line w (Finish n) reply NotYours new (m.0 other).0 (m.0 other).1 (still_quiet w (Finish n) NotYours (quiet_reply w (Finish n) NotYours (λ k e. cc) (λ e. cc)) (λ r. refl)) honest
  ]

module _ {D : Type 0} (contents : D → List (List ℕ)) (asked : D → ℕ → Verb → Reply → D → Type 0) (d : Declaration) (lawful : Lawful d) (old : Present) (before : D) (room : ℕ)
    (openings : List (List ℕ)) (journal : List Line) (s : IsLeftBy old (contents before) d openings journal) where
  -- a use
  after_use : (w : ℕ) (n : ActId) (verb : Verb) (o : Option Activation) (reply : Reply) (after : D) → activation_of n old.register.live ≡ o → MovesUse contents asked d w verb o before reply after
      → WereOwed d openings (journal ++ line_of w (Apply n verb) reply ∷ []) → IsLeftBy old (contents after) d openings (journal ++ line_of w (Apply n verb) reply ∷ [])
  after_use w n verb None reply after is m honest = still_use d lawful old (contents before) room openings journal s w n verb reply Stale (contents after) m.0 (ap contents m.1) (λ x e. cc) honest
  after_use w n verb (Some a) reply after is m honest = elim (cases_eq a.worker w) [
    | inl own ↦ subst (λ c. IsLeftBy old c d openings (journal ++ line_of w (Apply n verb) reply ∷ [])) (sym (m.1 own).serves.others)
        (now_acted d lawful old (contents before) room openings journal s w n verb a _ reply (m.1 own).serves.left is refl (refusal_of (law_of d (resource_of d a.op.0)) verb (held_at (contents before) (resource_of d a.op.0))) (m.1 own).serves.acts honest)
    | inr other ↦ still_use d lawful old (contents before) room openings journal s w n verb reply NotYours (contents after) (m.0 other).0 (ap contents (m.0 other).1) (λ x e. cc) honest
  ]

  after_move : (w : ℕ) (attempt : Attempt) (reply : Reply) (new : Present) (after : D) → Moves contents asked d old before w attempt reply new after
      → WereOwed d openings (journal ++ line_of w attempt reply ∷ []) → IsLeftBy new (contents after) d openings (journal ++ line_of w attempt reply ∷ [])
  after_move w (Start a) reply new after m honest =
      subst (λ c. IsLeftBy new (contents c) d openings (journal ++ line_of w (Start a) reply ∷ [])) (sym m.1) (after_start d lawful old (contents before) room openings journal s w a reply new m.0 honest)
  after_move w (Apply n verb) reply new after m honest =
      subst (λ p. IsLeftBy p (contents after) d openings (journal ++ line_of w (Apply n verb) reply ∷ [])) (sym m.1) (after_use w n verb (activation_of n old.register.live) reply after refl m.0 honest)
  after_move w (Finish n) reply new after m honest =
      subst (λ c. IsLeftBy new (contents c) d openings (journal ++ line_of w (Finish n) reply ∷ [])) (sym m.1) (after_finish d lawful old (contents before) room openings journal s w n (activation_of n old.register.live) reply new refl m.0 honest)

  -- a room in which all lines are owed
  abbrev big : ℕ
  big = s.honest.0 + room

  -- with a line
  pub with_line_left : (w : ℕ) (attempt : Attempt) (reply : Reply) (new : Present) (after : D) → Answers contents asked d old before room (length journal) w attempt reply new after → reply ≢ NoRoom
      → IsLeftBy new (contents after) d openings (journal ++ line_of w attempt reply ∷ [])
  with_line_left w attempt reply new after answers some = go _ refl
    where
      go : (can : Bool) → can_take old room (length journal) w attempt ≡ can → IsLeftBy new (contents after) d openings (journal ++ line_of w attempt reply ∷ [])
      go true is =
          after_move w attempt reply new after (answers.inside is) (
            big,
            honest_more d big openings journal (line_of w attempt reply) (more_room_keeps_honest d s.honest.0 big openings journal (omega arith) s.honest.1)
                (owed_inside contents asked d lawful old before big openings journal s w attempt reply new after
                (roomier room big (length journal) old.register.live w attempt (omega arith) (both_left _ _ is)) (answers.inside is)) some,
          )
      go false is = absurd (some ((answers.outside is).0))
