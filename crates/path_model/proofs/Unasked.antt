-- Lines that ask a resource's device, and what stays while none does.
use Rattle.std.proofs.Common.{◌≡◌, ◌≢◌, ◌⊎◌, ◌↔◌, ℕ, Bool, true, false, cond, List, [], ◌∷◌, ◌++◌, get_or, Some, None, refl, sym, ap, ◌∙◌, subst, inl, inr, ne_eqb, append-nil, append_assoc}
use Rattle.std.proofs.lemmas.Bool.{cond-false}
use Rattle.path_model.specs.declared.ids.ActId.{ActId}
use Rattle.path_model.specs.declared.resource.Law.{Law}
use Rattle.path_model.specs.declared.resource.Law.TheVariants.{Cell, Tally, Queue}
use Rattle.path_model.specs.declared.journal.Verb.{Verb}
use Rattle.path_model.specs.declared.journal.Verb.TheVariants.{Put, Take, Look, Add}
use Rattle.path_model.specs.declared.journal.Attempt.{Attempt}
use Rattle.path_model.specs.declared.journal.Attempt.TheVariants.{Start, Apply, Finish}
use Rattle.path_model.specs.declared.journal.Reply.{Reply}
use Rattle.path_model.specs.declared.journal.Reply.TheVariants.{Used, Full, Overflow, DeviceFailed, NoRoom}
use Rattle.path_model.specs.declared.journal.Line.{Line}
use Rattle.path_model.specs.declared.journal.Activation.{Activation}
use Rattle.path_model.specs.Declarations.{Declaration, resource_of, law_of}
use Rattle.path_model.specs.Devices.{Outcome, serves, refuses, first_taken, first_seen, outcome_of}
use Rattle.path_model.specs.Journals.{starts, live, activation_of}
use Rattle.path_model.specs.Contents.{contents_after, line_applied, verb_applied}
use Rattle.path_model.specs.Owed.{IsOwn, outcome_for, OwedToUse, Owed}
use Rattle.path_model.specs.Honest.{IsHonest}
use Rattle.path_model.specs.Asked.{is_device_reply, its_resource, resource_asked, IsAskedFrom, IsAsked, UnaskedDevicesMayBeReplaced}
use Rattle.path_model.proofs.JournalLists.{contents_more}
use Rattle.path_model.proofs.HonestJournals.{honest_more, live_found, honest_induction}

-- a refusal of the table is a device's reply
abbrev pub RefusesAsDevice : Outcome → Type 0
RefusesAsDevice (serves x rest) = Unit {0}
RefusesAsDevice (refuses r) = is_device_reply r ≡ true

either : (b : Bool) (x : ℕ) (rest : List ℕ) (r : Reply) → is_device_reply r ≡ true → RefusesAsDevice (cond b (serves x rest) (refuses r))
either true x rest r h = tt
either false x rest r h = h

taken_as_device : (held : List ℕ) → RefusesAsDevice (first_taken held)
taken_as_device [] = refl
taken_as_device (x ∷ xs) = tt

seen_as_device : (held : List ℕ) → RefusesAsDevice (first_seen held)
seen_as_device [] = refl
seen_as_device (x ∷ xs) = tt

pub refuses_as_device : (law : Law) (verb : Verb) (held : List ℕ) → RefusesAsDevice (outcome_of law verb held)
refuses_as_device Cell (Put x) held = tt
refuses_as_device Cell Take held = refl
refuses_as_device Cell Look held = tt
refuses_as_device Cell (Add x) held = refl
refuses_as_device Tally (Put x) held = refl
refuses_as_device Tally Take held = refl
refuses_as_device Tally Look held = tt
refuses_as_device Tally (Add x) held = either _ _ _ Overflow refl
refuses_as_device (Queue n) (Put x) held = either _ _ _ Full refl
refuses_as_device (Queue n) Take held = taken_as_device held
refuses_as_device (Queue n) Look held = seen_as_device held
refuses_as_device (Queue n) (Add x) held = refl

-- a device's reply, to a use of one's own activation, asked the resource of the activation
module _ (d : Declaration) (ls : List Line) (w : ℕ) (n : ActId) (a : Activation) (own : IsOwn ls w n a) where
  pub asked_by_own : (verb : Verb) (reply : Reply) → is_device_reply reply ≡ true → resource_asked d ls (Apply n verb) reply ≡ Some (resource_of d a.op.0)
  asked_by_own verb reply is = ap (λ b. cond b (its_resource d (activation_of n (live ls))) None) is ∙ ap (its_resource d) own.found

  pub starts_own : activation_of n (starts ls) ≡ Some a
  starts_own = live_found ls n a own.found

-- a line that asks another device, or none, leaves the contents
module _ (d : Declaration) (room : ℕ) (openings : List (List ℕ)) (ls : List Line) (r : ℕ) (held : List ℕ) where
  kept_by_use : (w : ℕ) (n : ActId) (verb : Verb) (reply : Reply) → OwedToUse d room openings ls w n verb reply → resource_asked d ls (Apply n verb) reply ≢ Some r
      → line_applied d r ls (Apply n verb) reply held ≡ held
  kept_by_use w n verb _ (OwedToUse.no_room l) other = refl
  kept_by_use w n verb _ (OwedToUse.stale l k) other = refl
  kept_by_use w n verb _ (OwedToUse.not_yours a l k o) other = refl
  kept_by_use w n verb _ (OwedToUse.refused a (Used x) l own k) other =
      ap (λ o. verb_applied d r verb o held) (starts_own d ls w n a own)
      ∙ cond-false _ _ _ (ne_eqb (resource_of d a.op.0) r (λ same. other (asked_by_own d ls w n a own verb (Used x) refl ∙ ap Some same)))
  kept_by_use w n verb _ (OwedToUse.refused a reply l own k) other = refl
  kept_by_use w n verb _ (OwedToUse.served a x rest l own k) other =
      ap (λ o. verb_applied d r verb o held) (starts_own d ls w n a own)
      ∙ cond-false _ _ _ (ne_eqb (resource_of d a.op.0) r (λ same. other (asked_by_own d ls w n a own verb (Used x) refl ∙ ap Some same)))
  kept_by_use w n verb _ (OwedToUse.failed a x rest l own k) other = refl

  pub kept_unasked : (w : ℕ) (attempt : Attempt) (reply : Reply) → Owed d room openings ls w attempt reply → resource_asked d ls attempt reply ≢ Some r
      → line_applied d r ls attempt reply held ≡ held
  kept_unasked w (Start a) reply owed other = refl
  kept_unasked w (Apply n verb) reply owed other = kept_by_use w n verb reply owed other
  kept_unasked w (Finish n) reply owed other = refl

-- the same reply is owed over others' contents, where its device isn't asked
module _ (d : Declaration) (room : ℕ) (openings others : List (List ℕ)) (ls : List Line) (r : ℕ)
    (same : (q : ℕ) → q ≢ r → contents_after d others ls q ≡ contents_after d openings ls q) where
  outcome_same : (w : ℕ) (n : ActId) (verb : Verb) (a : Activation) (reply : Reply) → IsOwn ls w n a → is_device_reply reply ≡ true
      → resource_asked d ls (Apply n verb) reply ≢ Some r → outcome_for d others ls verb a ≡ outcome_for d openings ls verb a
  outcome_same w n verb a reply own is other =
      ap (outcome_of (law_of d (resource_of d a.op.0)) verb) (same (resource_of d a.op.0) (λ e. other (asked_by_own d ls w n a own verb reply is ∙ ap Some e)))

  refused_as : (o : Outcome) (reply : Reply) → RefusesAsDevice o → o ≡ refuses reply → is_device_reply reply ≡ true
  refused_as o reply h e = subst RefusesAsDevice e h

  use_same : (w : ℕ) (n : ActId) (verb : Verb) (reply : Reply) → OwedToUse d room openings ls w n verb reply → resource_asked d ls (Apply n verb) reply ≢ Some r
      → OwedToUse d room others ls w n verb reply
  use_same w n verb _ (OwedToUse.no_room l) other = OwedToUse.no_room l
  use_same w n verb _ (OwedToUse.stale l k) other = OwedToUse.stale l k
  use_same w n verb _ (OwedToUse.not_yours a l k o) other = OwedToUse.not_yours a l k o
  use_same w n verb _ (OwedToUse.refused a reply l own k) other =
      OwedToUse.refused a reply l own (outcome_same w n verb a reply own
      (refused_as _ reply (refuses_as_device (law_of d (resource_of d a.op.0)) verb (contents_after d openings ls (resource_of d a.op.0))) k) other ∙ k)
  use_same w n verb _ (OwedToUse.served a x rest l own k) other = OwedToUse.served a x rest l own (outcome_same w n verb a (Used x) own refl other ∙ k)
  use_same w n verb _ (OwedToUse.failed a x rest l own k) other = OwedToUse.failed a x rest l own (outcome_same w n verb a DeviceFailed own refl other ∙ k)

  pub owed_same : (w : ℕ) (attempt : Attempt) (reply : Reply) → Owed d room openings ls w attempt reply → resource_asked d ls attempt reply ≢ Some r
      → Owed d room others ls w attempt reply
  owed_same w (Start a) reply owed other = owed
  owed_same w (Apply n verb) reply owed other = use_same w n verb reply owed other
  owed_same w (Finish n) reply owed other = owed

-- one more line
module _ (d : Declaration) (r : ℕ) where
  asked_from_more : (before ls : List Line) (l : Line)
      → IsAskedFrom d r before (ls ++ l ∷ []) ↔ (IsAskedFrom d r before ls ⊎ (resource_asked d (before ++ ls) l.attempt l.reply ≡ Some r))
  asked_from_more before [] l = (
    (λ h. elim h [
      | inl e ↦ inr (subst (λ b. resource_asked d b l.attempt l.reply ≡ Some r) (sym (append-nil before)) e)
      | inr x ↦ absurd x
    ]),
    (λ h. elim h [
      | inl x ↦ absurd x
      | inr e ↦ inl (subst (λ b. resource_asked d b l.attempt l.reply ≡ Some r) (append-nil before) e)
    ]),
  )
  asked_from_more before (k ∷ ls) l =
      let more = asked_from_more (before ++ k ∷ []) ls l in
      let here = append_assoc before (k ∷ []) ls in (
        (λ h. elim h [
          | inl e ↦ inl (inl e)
          | inr later ↦ elim (more.0 later) [
            | inl x ↦ inl (inr x)
            | inr e ↦ inr (subst (λ b. resource_asked d b l.attempt l.reply ≡ Some r) here e)
          ]
        ]),
        (λ h. elim h [
          | inl first ↦ elim first [ inl e ↦ inl e | inr x ↦ inr (more.1 (inl x)) ]
          | inr e ↦ inr (more.1 (inr (subst (λ b. resource_asked d b l.attempt l.reply ≡ Some r) (sym here) e)))
        ]),
      )

  -- a resource's device was asked by the lines so far, or by the last
  pub asked_more : (ls : List Line) (l : Line) → IsAsked d (ls ++ l ∷ []) r ↔ (IsAsked d ls r ⊎ (resource_asked d ls l.attempt l.reply ≡ Some r))
  asked_more ls l = asked_from_more [] ls l

module _ (d : Declaration) (room : ℕ) (openings others : List (List ℕ)) (r : ℕ) (elsewhere : (q : ℕ) → q ≢ r → get_or others q [] ≡ get_or openings q []) where
  -- what the lines leave, once the opening contents are others
  record StandsOver (ls : List Line) : Type 0 where
    honest : IsHonest d room others ls
    here : contents_after d others ls r ≡ get_or others r []
    apart : (q : ℕ) → q ≢ r → contents_after d others ls q ≡ contents_after d openings ls q

  stands_more : (ls : List Line) (l : Line) → IsHonest d room openings ls → ((IsAsked d ls r → ⊥) → StandsOver ls)
      → Owed d room openings ls l.worker l.attempt l.reply → l.reply ≢ NoRoom → (IsAsked d (ls ++ l ∷ []) r → ⊥) → StandsOver (ls ++ l ∷ [])
  stands_more ls l h before owed some unasked =
      let s = before (λ k. unasked ((asked_more d r ls l).1 (inl k))) in
      let other : resource_asked d ls l.attempt l.reply ≢ Some r = (λ e. unasked ((asked_more d r ls l).1 (inr e))) in
      record {
        honest = honest_more d room others ls l s.honest (owed_same d room openings others ls r s.apart l.worker l.attempt l.reply owed other) some;
        here = contents_more d others ls l r ∙ kept_unasked d room openings ls r (contents_after d others ls r) l.worker l.attempt l.reply owed other ∙ s.here;
        apart = λ q o. contents_more d others ls l q ∙ ap (line_applied d q ls l.attempt l.reply) (s.apart q o) ∙ sym (contents_more d openings ls l q);
      }

  stands_over : (ls : List Line) → IsHonest d room openings ls → (IsAsked d ls r → ⊥) → StandsOver ls
  stands_over ls honest = honest_induction d room openings (λ ls. (IsAsked d ls r → ⊥) → StandsOver ls) (λ unasked. record { honest = tt; here = refl; apart = elsewhere }) stands_more ls honest

pub unasked_devices_may_be_replaced : UnaskedDevicesMayBeReplaced
unasked_devices_may_be_replaced d room openings others ls r elsewhere honest unasked =
    let s = stands_over d room openings others r elsewhere ls honest unasked in
    (s.honest, s.here, s.apart)
