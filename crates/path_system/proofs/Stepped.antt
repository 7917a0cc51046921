-- One step of a system: which device it asks and marks, and that its parts stay sound.
use Rattle.std.proofs.Common.{◌≡◌, ◌≢◌, ◌↔◌, ◌⊎◌, ℕ, ◌<◌, true, false, List, [], ◌∷◌, ◌++◌, length, get_or, refl, ◌+◌, Bool, arith, ap, sym, subst, append_assoc, ◌∙◌, Option, Some, None, inl, inr}
use Rattle.std.proofs.Math.ListN.{set}
use Rattle.std.proofs.lemmas.Bool.{cases_eq}
use Rattle.std.proofs.lemmas.List.{length-set, get_or-set_same, get_or-set_other}
use Rattle.path_model.specs.declared.journal.Attempt.{Attempt}
use Rattle.path_model.specs.declared.journal.Verb.{Verb}
use Rattle.path_model.specs.declared.journal.Reply.{Reply}
use Rattle.path_model.specs.declared.journal.Reply.TheVariants.{NoRoom}
use Rattle.path_model.specs.declared.journal.Line.{Line}
use Rattle.path_model.specs.Segments.{joined}
use Rattle.path_state.specs.States.{State}
use Rattle.path_model.specs.Asked.{IsAsked, resource_asked}
use Rattle.path_model.specs.Journals.{live}
use Rattle.path_model.proofs.CallerLemmas.{line_of, asked_more}
use Rattle.path_shelf.specs.States.{laws_of, state_at}
use Rattle.path_shelf.specs.Shelves.{declared_laws}
use Rattle.path_shelf.proofs.CallerLemmas.{laws_replaced}
use Rattle.path_step.specs.Steps.{asked_of}
use Rattle.path_step.proofs.CallerLemmas.{AsksNone, AsksOne, asks, asked_by_line, together_after, paths_after, few_after, without_room}
use Rattle.path_system.specs.Inner.Pasts.{one_more}
use Rattle.path_system.specs.Inner.Parts.{Marked, PartsValue, HasAnswered, HasMarked, Answers, AreMarked, AreSound, contents}

-- what is known of a device that was asked
abbrev pub Known : Type 1
Known = Marked → ℕ → Verb → Reply → Marked → Type 0

-- it is marked, whatever else is known
abbrev pub Marks : Known → Type 0
Marks known = (before : Marked) (r : ℕ) (verb : Verb) (reply : Reply) (after : Marked) → known before r verb reply after → HasMarked before r verb reply after

-- so is one that answered
pub marks_answered : (may_fail : Type 0) → Marks (HasAnswered may_fail)
marks_answered may_fail before r verb reply after known = record { law = known.acts.acts.law; others = known.acts.others; marked = known.marked }

-- and what is only marked
pub marks_itself : Marks HasMarked
marks_itself before r verb reply after known = known

module _ (known : Known) (marks : Marks known) (old : PartsValue) (room lines : ℕ) (s : AreSound old room lines) (new : PartsValue) (w : ℕ) (attempt : Attempt) (reply : Reply)
    (answers : Answers known old room lines w attempt reply new) where
  -- which device was asked
  pub asked_by : AsksNone old.declaration old.present.register.live attempt old.devices reply new.devices ⊎ AsksOne contents known old.declaration old.present.register.live attempt old.devices reply new.devices
  asked_by = asks contents known old.declaration s.lawful old.present s.together.declared old.devices w new.present new.devices room lines attempt reply answers.step

  pub marked_by : (one : AsksOne contents known old.declaration old.present.register.live attempt old.devices reply new.devices) → HasMarked old.devices one.resource one.verb reply new.devices
  marked_by one = marks old.devices one.resource one.verb reply new.devices one.served.known

  laws_kept : laws_of new.devices.states ≡ declared_laws old.declaration
  laws_kept = elim asked_by [
    | inl none ↦ ap (λ (m : Marked). laws_of m.states) none.devices ∙ s.laws
    | inr one ↦ (let marked = marked_by one in ap laws_of marked.others ∙ laws_replaced old.devices.states one.resource (state_at new.devices.states one.resource) marked.law ∙ s.laws)
  ]

  marks_counted : length new.devices.asked ≡ length old.declaration.resources
  marks_counted = elim asked_by [
    | inl none ↦ ap (λ (m : Marked). length m.asked) none.devices ∙ s.marks
    | inr one ↦ ap length (marked_by one).marked ∙ length-set old.devices.asked one.resource true ∙ s.marks
  ]

  -- sound parts stay sound
  pub sound_more : reply ≢ NoRoom → AreSound new room (lines + 1)
  sound_more some = record {
    lawful = rw answers.declaration s.lawful;
    paths = rw answers.declaration (paths_after contents known old.declaration old.present old.devices room lines w attempt reply new.present new.devices answers.step ∙ s.paths);
    together = rw answers.declaration (together_after contents known old.declaration old.present old.devices room lines w attempt reply new.present new.devices answers.step s.together);
    few = few_after contents known old.declaration old.present old.devices room lines w attempt reply new.present new.devices answers.step s.few some;
    places = answers.places ∙ s.places;
    laws = rw answers.declaration laws_kept;
    marks = rw answers.declaration marks_counted;
  }

  -- a mark that is set stays set
  pub marks_stay_set : (r : ℕ) → r < length old.declaration.resources → get_or old.devices.asked r false ≡ true → get_or new.devices.asked r false ≡ true
  marks_stay_set r within set_before = elim asked_by [
    | inl none ↦ ap (λ (m : Marked). get_or m.asked r false) none.devices ∙ set_before
    | inr one ↦
        let marked = ap (λ xs. get_or xs r false) (marked_by one).marked in
        elim (cases_eq r one.resource) [
          | inl same ↦ marked ∙ set_here one r same
          | inr other ↦ marked ∙ get_or-set_other old.devices.asked one.resource r true false other ∙ set_before
        ]
  ]
    where
      set_here : (one : AsksOne contents known old.declaration old.present.register.live attempt old.devices reply new.devices) (r : ℕ) → r ≡ one.resource → get_or (set old.devices.asked one.resource true) r false ≡ true
      set_here one r same =
          ap (λ p. get_or (set old.devices.asked one.resource true) p false) same
          ∙ get_or-set_same old.devices.asked one.resource true false (let k = s.marks in let l = one.declared in omega (arith, k, l))

  -- where the marks are those of a journal behind which this is live, they are those of the journal with the line
  module _ (journal : List Line) (is_live : old.present.register.live ≡ live journal)
      (so_far : (r : ℕ) → r < length old.declaration.resources → (get_or old.devices.asked r false ≡ true) ↔ IsAsked old.declaration journal r) where
    abbrev all : List Line
    all = journal ++ line_of w attempt reply ∷ []

    asked_here : asked_of old.declaration old.present.register.live attempt reply ≡ resource_asked old.declaration journal attempt reply
    asked_here = ap (λ xs. asked_of old.declaration xs attempt reply) is_live ∙ sym (asked_by_line old.declaration journal attempt reply)

    -- where no device was asked, the marks stay
    marks_stay : AsksNone old.declaration old.present.register.live attempt old.devices reply new.devices → (r : ℕ) → r < length old.declaration.resources
        → (get_or new.devices.asked r false ≡ true) ↔ IsAsked old.declaration all r
    marks_stay none r within =
        let more = asked_more old.declaration r journal (line_of w attempt reply) in
        let before = so_far r within in
        let same = ap (λ (m : Marked). get_or m.asked r false) none.devices in (
          (λ e. more.1 (inl (before.0 (sym same ∙ e)))),
          (λ k. elim (more.0 k) [ inl was ↦ same ∙ before.1 was | inr now ↦ absurd (no_resource (sym none.line ∙ asked_here ∙ now)) ]),
        )
      where
        no_resource : ◌≡◌ {A = Option ℕ} None (Some r) → ⊥
        no_resource e = cc

    -- and else one is set
    mark_set : AsksOne contents known old.declaration old.present.register.live attempt old.devices reply new.devices → (r : ℕ) → r < length old.declaration.resources
        → (get_or new.devices.asked r false ≡ true) ↔ IsAsked old.declaration all r
    mark_set one r within =
        let more = asked_more old.declaration r journal (line_of w attempt reply) in
        let marked = ap (λ xs. get_or xs r false) (marked_by one).marked in
        let line = sym asked_here ∙ one.line in
        elim (cases_eq r one.resource) [
          | inl same ↦ (
            (λ e. more.1 (inr (line ∙ ap Some (sym same)))),
            (λ k. marked ∙ ap (λ p. get_or (set old.devices.asked one.resource true) p false) same
                ∙ get_or-set_same old.devices.asked one.resource true false (let k = s.marks in let l = one.declared in omega (arith, k, l))),
          )
          | inr other ↦
              let stays = marked ∙ get_or-set_other old.devices.asked one.resource r true false other in
              let before = so_far r within in (
                (λ e. more.1 (inl (before.0 (sym stays ∙ e)))),
                (λ k. elim (more.0 k) [ inl was ↦ stays ∙ before.1 was | inr now ↦ absurd (other (one_resource r one.resource (sym now ∙ line))) ]),
              )
        ]
      where
        one_resource : (q r : ℕ) → Some q ≡ Some r → q ≡ r
        one_resource q r e = cc

    pub marks_more : (r : ℕ) → r < length old.declaration.resources → (get_or new.devices.asked r false ≡ true) ↔ IsAsked old.declaration all r
    marks_more r within = elim asked_by [ inl none ↦ marks_stay none r within | inr one ↦ mark_set one r within ]

  -- the marks are those of all lines, also where others came before
  pub marked_more : (opened : Option State) (earlier : List (List Line)) (present : List Line) → (opened ≡ None → old.present.register.live ≡ live (joined earlier ++ present))
      → AreMarked old.declaration old.devices.asked (record { opened = opened; earlier = earlier; present = present })
      → AreMarked old.declaration new.devices.asked (one_more (record { opened = opened; earlier = earlier; present = present }) (line_of w attempt reply))
  marked_more None earlier present lives so_far r within =
      subst (λ xs. (get_or new.devices.asked r false ≡ true) ↔ IsAsked old.declaration xs r) (append_assoc (joined earlier) present (line_of w attempt reply ∷ []))
      (marks_more (joined earlier ++ present) (lives refl) so_far r within)
  marked_more (Some state) earlier present lives so_far r within = ((λ e. tt), (λ k. marks_stay_set r within ((so_far r within).1 tt)))

-- without room all stays
pub stays : (known : Known) (old new : PartsValue) (room lines w : ℕ) (attempt : Attempt) (reply : Reply) → Answers known old room lines w attempt reply new → reply ≡ NoRoom → new ≡ old
stays known old new room lines w attempt reply answers none =
    let same = without_room contents known old.declaration old.present new.present old.devices new.devices w reply room lines attempt answers.step none in
    λ i. record { declaration = answers.declaration i; present = same.0 i; places = answers.places i; devices = same.1 i }
