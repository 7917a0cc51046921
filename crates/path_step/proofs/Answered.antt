-- The reply of a step is owed by the lines before it, in any room that is behind it.
use Rattle.std.proofs.Common.{◌≡◌, ◌≢◌, ℕ, ◌+◌, ◌<◌, ◌≤◌, Bool, true, false, List, [], ◌∷◌, ◌++◌, length, arith, refl, ap, sym, subst, ◌∙◌, Option, Some, None, inl, inr}
use Rattle.std.proofs.lemmas.Bool.{cases_eq}
use Rattle.path_model.specs.declared.ids.OpId.{OpId}
use Rattle.path_model.specs.declared.ids.ActId.{ActId}
use Rattle.path_model.specs.declared.history.Event.TheVariants.{Began}
use Rattle.path_model.specs.declared.journal.Verb.{Verb}
use Rattle.path_model.specs.declared.journal.Attempt.{Attempt}
use Rattle.path_model.specs.declared.journal.Attempt.TheVariants.{Start, Apply, Finish}
use Rattle.path_model.specs.declared.journal.Reply.{Reply}
use Rattle.path_model.specs.declared.journal.Reply.TheVariants.{Started, Blocked, UnknownOperation, NoRoom}
use Rattle.path_model.specs.declared.journal.Line.{Line}
use Rattle.path_model.specs.declared.journal.Activation.{Activation}
use Rattle.path_model.specs.declared.resource.Law.{Law}
use Rattle.path_model.specs.Legal as legal
use Rattle.path_model.specs.Declarations.{Declaration, paths_of, resource_of, law_of}
use Rattle.path_model.specs.Devices.{Outcome, serves, refuses, outcome_of}
use Rattle.path_model.specs.Journals.{live, activation_of, admitted_history}
use Rattle.path_model.specs.Owed.{by_words, taken, IsOwn, OwedToStart, OwedToUse, OwedToFinish, Owed, outcome_for}
use Rattle.path_model.proofs.CallerLemmas.{each_honest_journal_is_legal, live_in_progress}
use Rattle.path_decl.specs.Lawful.{Lawful}
use Rattle.path_model.specs.Places.{has_room, is_own_of, lacks_number}
use Rattle.path_gate.proofs.CallerLemmas.{both_left, left_fails, roomy, not_roomy, roomy_or, not_roomy_or, not_own, own_or_other, none_forbids, found_declared}
use Rattle.path_step.specs.Steps.{Present, Acts, AreReady, IsRunning, IsTold, held_at, TellsStart, TellsUse, TellsFinish, Tells, Foretells, MovesUse, MovesFinish, Moves, Answers, can_take}
use Rattle.path_step.specs.Presents.{IsLeftBy}

module _ (d : Declaration) (lawful : Lawful d) (old : Present) (before : List (List ℕ)) (room : ℕ) (openings : List (List ℕ)) (journal : List Line) (s : IsLeftBy old before d openings journal) where
  -- the history is legal so far
  pub legal_now : legal.Legal old.standing.paths (admitted_history journal)
  legal_now = subst (λ xs. legal.Legal xs (admitted_history journal)) (sym s.paths) (each_honest_journal_is_legal d s.honest.0 openings lawful.well_formed journal s.honest.1)

  -- who is live by the step is live by the journal
  pub found_live : (n : ActId) (o : Option Activation) → activation_of n old.register.live ≡ o → activation_of n (live journal) ≡ o
  found_live n o is = ap (activation_of n) (sym s.live) ∙ is

  pub taken_left : taken journal ≡ length journal + length old.register.live
  taken_left = ap (λ xs. length journal + length xs) (sym s.live)

  owed_start : (w : ℕ) (a : OpId) (reply : Reply) → taken journal + 2 ≤ room → TellsStart (length d.operations) old a reply → OwedToStart (by_words d) d room journal a reply
  owed_start w a (Started n) fits m =
      OwedToStart.started n fits m.declared
      (none_forbids (paths_of d) (admitted_history journal) a
      (subst (λ xs. legal.Legal xs (admitted_history journal ++ Began a ∷ [])) s.paths (m.admits (admitted_history journal) legal_now s.at)))
      (m.number ∙ s.begun)
  owed_start w a (Blocked p) fits m =
      OwedToStart.blocked p fits m.declared
      (subst (λ xs. legal.First (legal.Forbids (admitted_history journal) a) xs p.0) s.paths (m.forbids (admitted_history journal) legal_now s.at))
  owed_start w a UnknownOperation fits m = OwedToStart.unknown fits m
  owed_start w a reply fits m = absurd m

  -- the resource of what is live was declared
  pub resource_in : (n : ActId) (a : Activation) → activation_of n old.register.live ≡ Some a → resource_of d a.op.0 < length d.resources
  resource_in n a is = lawful.operations a.op.0 _ (found_declared (length d.operations) n old.register.live a s.declared is)

  pub outcome_is : (n : ActId) (a : Activation) (verb : Verb) → activation_of n old.register.live ≡ Some a
      → outcome_for d openings journal verb a ≡ outcome_of (law_of d (resource_of d a.op.0)) verb (held_at before (resource_of d a.op.0))
  outcome_is n a verb is = ap (outcome_of (law_of d (resource_of d a.op.0)) verb) (s.held (resource_of d a.op.0) (resource_in n a is))

  owed_served : (w : ℕ) (n : ActId) (verb : Verb) (a : Activation) (outcome : Outcome) (reply : Reply) (held left : List ℕ) → taken journal + 1 ≤ room
      → IsOwn journal w n a → outcome_for d openings journal verb a ≡ outcome → Acts outcome reply held left
      → OwedToUse d room openings journal w n verb reply
  owed_served w n verb a (serves x rest) reply held left fits own is acts = elim acts [
    | inl served ↦ rw served.0 (OwedToUse.served a x rest fits own is)
    | inr failed ↦ rw failed.0 (OwedToUse.failed a x rest fits own is)
  ]
  owed_served w n verb a (refuses r) reply held left fits own is acts = rw acts.0 (OwedToUse.refused a r fits own is)

  owed_told : (w : ℕ) (n : ActId) (verb : Verb) (a : Activation) (outcome : Outcome) (reply : Reply) → taken journal + 1 ≤ room
      → IsOwn journal w n a → outcome_for d openings journal verb a ≡ outcome → IsTold outcome reply → OwedToUse d room openings journal w n verb reply
  owed_told w n verb a (serves x rest) reply fits own is told = rw told (OwedToUse.served a x rest fits own is)
  owed_told w n verb a (refuses r) reply fits own is told = rw told (OwedToUse.refused a r fits own is)

  owed_told_use : (w : ℕ) (n : ActId) (verb : Verb) (o : Option Activation) (reply : Reply) → taken journal + 1 ≤ room → activation_of n old.register.live ≡ o
      → TellsUse d before w verb o reply → OwedToUse d room openings journal w n verb reply
  owed_told_use w n verb None reply fits is m = rw m (OwedToUse.stale fits (found_live n None is))
  owed_told_use w n verb (Some a) reply fits is m = elim (cases_eq a.worker w) [
    | inl own ↦ owed_told w n verb a _ reply fits (record { found = found_live n (Some a) is; own = own }) (outcome_is n a verb is) (m.1 own)
    | inr other ↦ rw (m.0 other) (OwedToUse.not_yours a fits (found_live n (Some a) is) other)
  ]

  owed_finish : (w : ℕ) (n : ActId) (o : Option Activation) (reply : Reply) → (is_own_of w o ≡ false → taken journal + 1 ≤ room)
      → activation_of n old.register.live ≡ o → TellsFinish w o reply → OwedToFinish d room journal w n reply
  owed_finish w n None reply fits is m = rw m (OwedToFinish.stale (fits refl) (found_live n None is))
  owed_finish w n (Some a) reply fits is m = elim (cases_eq a.worker w) [
    | inl own ↦ rw (m.1 own) (OwedToFinish.finished a (record { found = found_live n (Some a) is; own = own }))
    | inr other ↦ rw (m.0 other) (OwedToFinish.not_yours a (fits (not_own w a other)) (found_live n (Some a) is) other)
  ]

  tells_finish : (w : ℕ) (n : ActId) (o : Option Activation) (reply : Reply) (new : Present) → MovesFinish old w n o reply new → TellsFinish w o reply
  tells_finish w n None reply new m = m.0
  tells_finish w n (Some a) reply new m = (λ other. (m.0 other).0, λ own. (m.1 own).told)

  not_own_of : (w : ℕ) (n : ActId) → is_own_of w (activation_of n old.register.live) ≡ false → (a : Activation) → IsOwn journal w n a → ⊥
  not_own_of w n is a own =
      own_or_other w a (ap (is_own_of w) (sym own.found ∙ ap (activation_of n) (sym s.live)) ∙ is) own.own

  -- and where there is none
  owed_outside : (w : ℕ) (attempt : Attempt) → has_room room (length journal) old.register.live w attempt ≡ false → Owed d room openings journal w attempt NoRoom
  owed_outside w (Start a) has = let k = not_roomy (length journal + length old.register.live + 2) room has in OwedToStart.no_room (omega (arith, k, taken_left))
  owed_outside w (Apply n verb) has = let k = not_roomy (length journal + length old.register.live + 1) room has in OwedToUse.no_room (omega (arith, k, taken_left))
  owed_outside w (Finish n) has = let k = not_roomy_or (length journal + length old.register.live + 1) room (is_own_of w (activation_of n old.register.live)) has in OwedToFinish.no_room (not_own_of w n k.1) (omega (arith, k, taken_left))

  owed_tells : (w : ℕ) (attempt : Attempt) (reply : Reply) → has_room room (length journal) old.register.live w attempt ≡ true → Tells d old before w attempt reply → Owed d room openings journal w attempt reply
  owed_tells w (Start a) reply has m = let k = roomy (length journal + length old.register.live + 2) room has in owed_start w a reply (omega (arith, k, taken_left)) m
  owed_tells w (Apply n verb) reply has m = let k = roomy (length journal + length old.register.live + 1) room has in owed_told_use w n verb (activation_of n old.register.live) reply (omega (arith, k, taken_left)) refl m
  owed_tells w (Finish n) reply has m =
      owed_finish w n (activation_of n old.register.live) reply (λ other. let k = roomy_or (length journal + length old.register.live + 1) room (is_own_of w (activation_of n old.register.live)) has other in omega (arith, k, taken_left)) refl m

  -- what is foretold is owed, if a start has a number left
  pub foretold_is : (w : ℕ) (attempt : Attempt) (reply : Reply) → lacks_number old.register.begun attempt ≡ false → Foretells d old before room (length journal) w attempt reply → Owed d room openings journal w attempt reply
  foretold_is w attempt reply numbered tells = go _ refl
    where
      go : (can : Bool) → can_take old room (length journal) w attempt ≡ can → Owed d room openings journal w attempt reply
      go true is = owed_tells w attempt reply (both_left _ _ is) (tells.inside is)
      go false is = rw (tells.outside is) (owed_outside w attempt (left_fails _ _ is numbered))

  -- what is live was declared, and each resource has its law
  pub ready_left : (has_law : ℕ → Law → Type 0) → ((r : ℕ) → r < length d.resources → has_law r (law_of d r)) → AreReady d old.register.live before has_law
  ready_left has_law laws = record {
    within = λ n a is. found_declared (length d.operations) n old.register.live a s.declared is;
    resources = λ op declared. lawful.operations op _ declared;
    one_each = s.one_each;
    laws = laws;
  }

  -- what is live is in progress if a path names it
  pub running_left : IsRunning old.standing old.register
  running_left n a is named = let k = live_in_progress d s.honest.0 openings journal s.honest.1 n a (found_live n (Some a) is) in let p = s.at.progress a.op named in omega (arith, k, p)

module _ {D : Type 0} (contents : D → List (List ℕ)) (asked : D → ℕ → Verb → Reply → D → Type 0) (d : Declaration) (lawful : Lawful d) (old : Present) (before : D) (room : ℕ)
    (openings : List (List ℕ)) (journal : List Line) (s : IsLeftBy old (contents before) d openings journal) where
  owed_use : (w : ℕ) (n : ActId) (verb : Verb) (o : Option Activation) (reply : Reply) (after : D) → taken journal + 1 ≤ room
      → activation_of n old.register.live ≡ o → MovesUse contents asked d w verb o before reply after → OwedToUse d room openings journal w n verb reply
  owed_use w n verb None reply after fits is m = rw m.0 (OwedToUse.stale fits (found_live d lawful old (contents before) room openings journal s n None is))
  owed_use w n verb (Some a) reply after fits is m = elim (cases_eq a.worker w) [
    | inl own ↦ owed_served d lawful old (contents before) room openings journal s w n verb a _ reply _ (m.1 own).serves.left fits (record { found = found_live d lawful old (contents before) room openings journal s n (Some a) is; own = own }) (outcome_is d lawful old (contents before) room openings journal s n a verb is) (m.1 own).serves.acts
    | inr other ↦ rw ((m.0 other).0) (OwedToUse.not_yours a fits (found_live d lawful old (contents before) room openings journal s n (Some a) is) other)
  ]

  -- the reply where there is room
  pub owed_inside : (w : ℕ) (attempt : Attempt) (reply : Reply) (new : Present) (after : D) → has_room room (length journal) old.register.live w attempt ≡ true
      → Moves contents asked d old before w attempt reply new after → Owed d room openings journal w attempt reply
  owed_inside w (Start a) reply new after has m = owed_tells d lawful old (contents before) room openings journal s w (Start a) reply has m.0.0
  owed_inside w (Apply n verb) reply new after has m = let k = roomy (length journal + length old.register.live + 1) room has in owed_use w n verb (activation_of n old.register.live) reply after (omega (arith, k, taken_left d lawful old (contents before) room openings journal s)) refl m.0
  owed_inside w (Finish n) reply new after has m =
      owed_tells d lawful old (contents before) room openings journal s w (Finish n) reply has (tells_finish d lawful old (contents before) room openings journal s w n (activation_of n old.register.live) reply new m.0)

  -- the reply to what can be taken
  pub owed_taken : (w : ℕ) (attempt : Attempt) (reply : Reply) (new : Present) (after : D) → can_take old room (length journal) w attempt ≡ true
      → Answers contents asked d old before room (length journal) w attempt reply new after → Owed d room openings journal w attempt reply
  owed_taken w attempt reply new after is answers = owed_inside w attempt reply new after (both_left _ _ is) (answers.inside is)

  -- the reply of a line
  pub owed_written : (w : ℕ) (attempt : Attempt) (reply : Reply) (new : Present) (after : D) → Answers contents asked d old before room (length journal) w attempt reply new after → reply ≢ NoRoom
      → Owed d room openings journal w attempt reply
  owed_written w attempt reply new after answers some = go _ refl
    where
      go : (can : Bool) → can_take old room (length journal) w attempt ≡ can → Owed d room openings journal w attempt reply
      go true is = owed_taken w attempt reply new after is answers
      go false is = absurd (some ((answers.outside is).0))

  owed_case : (w : ℕ) (attempt : Attempt) (reply : Reply) (new : Present) (after : D) (can : Bool) → can_take old room (length journal) w attempt ≡ can
      → lacks_number old.register.begun attempt ≡ false → Answers contents asked d old before room (length journal) w attempt reply new after → Owed d room openings journal w attempt reply
  owed_case w attempt reply new after true is numbered answers = owed_taken w attempt reply new after is answers
  owed_case w attempt reply new after false is numbered answers = rw ((answers.outside is).0) (owed_outside d lawful old (contents before) room openings journal s w attempt (left_fails _ _ is numbered))

  -- each reply is owed, if a start has a number left
  pub owed_left : (w : ℕ) (attempt : Attempt) (reply : Reply) (new : Present) (after : D) → lacks_number old.register.begun attempt ≡ false
      → Answers contents asked d old before room (length journal) w attempt reply new after → Owed d room openings journal w attempt reply
  owed_left w attempt reply new after numbered answers = owed_case w attempt reply new after _ refl numbered answers
