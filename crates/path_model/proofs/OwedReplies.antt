-- One reply is owed to each attempt.
use Rattle.std.proofs.Common.{subst, ◌≡◌, ◌⊎◌, ◌==◌, ◌<◌, ◌≤◌, ◌+◌, ℕ, Bool, true, false, cond, leb, List, [], ◌∷◌, length, Option, Some, None, refl, sym, ap, ◌∙◌, inl, inr, arith}
use Rattle.std.proofs.lemmas.Bool.{cases_lt, cases_eq, le-leb, lt-leb, leb-true, leb-false, eqb-true, eqb-false, eq-eqb, ne_eqb}
use Rattle.path_model.specs.declared.ids.OpId.{OpId}
use Rattle.path_model.specs.declared.ids.ActId.{ActId}
use Rattle.path_model.specs.declared.ids.PathId.{PathId}
use Rattle.path_model.specs.declared.journal.Verb.{Verb}
use Rattle.path_model.specs.declared.journal.Attempt.TheVariants.{Start, Apply, Finish}
use Rattle.path_model.specs.declared.journal.Reply.{Reply}
use Rattle.path_model.specs.declared.journal.Reply.TheVariants.{Started, Blocked, UnknownOperation, Used, DeviceFailed, Finished, Stale, NotYours, NoRoom}
use Rattle.path_model.specs.declared.journal.Line.{Line}
use Rattle.path_model.specs.declared.journal.Activation.{Activation}
use Rattle.path_model.specs.Legal as legal
use Rattle.path_model.specs.Declarations.{Declaration, paths_of}
use Rattle.path_model.specs.Devices.{Outcome, serves, refuses}
use Rattle.path_model.specs.Journals.{begun_in, live, activation_of, admitted_history}
use Rattle.path_model.specs.Owed.{taken, by_words, IsOwn, outcome_for, OwedToStart, OwedToUse, OwedToFinish, AreSame, OneReplyIsOwed}
use Rattle.path_model.specs.Trees.{WellFormed}
use Rattle.path_model.specs.AllPaths.{after, Blocks}
use Rattle.path_model.specs.Honest.{IsHonest, EachAttemptIsOwedAReply}
use Rattle.path_model.proofs.AllPaths.{all_paths_judge}
use Rattle.path_model.proofs.Lookups.{act_same}
use Rattle.path_model.proofs.Progress.{legal_kept}

-- there is one first, or none
module _ {A : Type 0} (P : A → Type 0) where
  pub first_one : (xs : List (ℕ × A)) (p q : ℕ) → legal.First P xs p → legal.First P xs q → p ≡ q
  first_one [] p q f g = absurd f
  first_one (x ∷ xs) p q (inl f) (inl g) = f.1 ∙ sym g.1
  first_one (x ∷ xs) p q (inl f) (inr g) = absurd (g.0 f.0)
  first_one (x ∷ xs) p q (inr f) (inl g) = absurd (f.0 g.0)
  first_one (x ∷ xs) p q (inr f) (inr g) = first_one xs p q f.1 g.1

  pub first_or_none : (xs : List (ℕ × A)) (p : ℕ) → legal.First P xs p → legal.NoneOf P xs → ⊥
  first_or_none [] p f n = f
  first_or_none (x ∷ xs) p (inl f) n = n.0 f.0
  first_or_none (x ∷ xs) p (inr f) n = first_or_none xs p f.1 n.1

some_same : (a b : Activation) → Some a ≡ Some b → a ≡ b
some_same a b e = cc

some_none : (a : Activation) → Some a ≡ None → ⊥
some_none a e = cc

path_same : (p q : PathId) → p.0 ≡ q.0 → p ≡ q
path_same p q e = ap (λ k. let a : PathId = record { 0 = k } in a) e

module _ (d : Declaration) (room : ℕ) (ls : List Line) (a : OpId) where
  one_to_start : (r s : Reply) → OwedToStart (by_words d) d room ls a r → OwedToStart (by_words d) d room ls a s → r ≡ s
  one_to_start _ _ (OwedToStart.no_room l) (OwedToStart.no_room m) = refl
  one_to_start _ _ (OwedToStart.no_room l) (OwedToStart.unknown m k) = absurd (omega (arith, l, m))
  one_to_start _ _ (OwedToStart.no_room l) (OwedToStart.blocked p m k f) = absurd (omega (arith, l, m))
  one_to_start _ _ (OwedToStart.no_room l) (OwedToStart.started n m k f e) = absurd (omega (arith, l, m))
  one_to_start _ _ (OwedToStart.unknown l k) (OwedToStart.no_room m) = absurd (omega (arith, l, m))
  one_to_start _ _ (OwedToStart.unknown l k) (OwedToStart.unknown m k') = refl
  one_to_start _ _ (OwedToStart.unknown l k) (OwedToStart.blocked p m k' f) = absurd (omega (arith, k, k'))
  one_to_start _ _ (OwedToStart.unknown l k) (OwedToStart.started n m k' f e) = absurd (omega (arith, k, k'))
  one_to_start _ _ (OwedToStart.blocked p l k f) (OwedToStart.no_room m) = absurd (omega (arith, l, m))
  one_to_start _ _ (OwedToStart.blocked p l k f) (OwedToStart.unknown m k') = absurd (omega (arith, k, k'))
  one_to_start _ _ (OwedToStart.blocked p l k f) (OwedToStart.blocked q m k' g) =
      ap (λ x. Blocked x) (path_same p q (first_one (legal.Forbids (admitted_history ls) a) (paths_of d) p.0 q.0 f g))
  one_to_start _ _ (OwedToStart.blocked p l k f) (OwedToStart.started n m k' g e) = absurd (first_or_none (legal.Forbids (admitted_history ls) a) (paths_of d) p.0 f g)
  one_to_start _ _ (OwedToStart.started n l k f e) (OwedToStart.no_room m) = absurd (omega (arith, l, m))
  one_to_start _ _ (OwedToStart.started n l k f e) (OwedToStart.unknown m k') = absurd (omega (arith, k, k'))
  one_to_start _ _ (OwedToStart.started n l k f e) (OwedToStart.blocked q m k' g) = absurd (first_or_none (legal.Forbids (admitted_history ls) a) (paths_of d) q.0 g f)
  one_to_start _ _ (OwedToStart.started n l k f e) (OwedToStart.started n' m k' f' e') = ap (λ x. Started x) (act_same n n' (e ∙ sym e'))

-- the reply that the outcome of a device's law allows
abbrev pub OwedByLaw : Outcome → Reply → Type 0
OwedByLaw (refuses q) r = r ≡ q
OwedByLaw (serves x after) r = (r ≡ Used x) ⊎ (r ≡ DeviceFailed)

one_by_law : (o : Outcome) (r s : Reply) → OwedByLaw o r → OwedByLaw o s → AreSame r s
one_by_law (refuses q) r s e f = inl (e ∙ sym f)
one_by_law (serves x after) r s (inl e) (inl f) = inl (e ∙ sym f)
one_by_law (serves x after) r s (inl e) (inr f) = inr (inl (x, e, f))
one_by_law (serves x after) r s (inr e) (inl f) = inr (inr (x, e, f))
one_by_law (serves x after) r s (inr e) (inr f) = inl (e ∙ sym f)

module _ (d : Declaration) (room : ℕ) (openings : List (List ℕ)) (ls : List Line) (w : ℕ) (n : ActId) where
  -- the table of a use, by whether there is room, and by what is live
  abbrev pub UseBy : Verb → Bool → Option Activation → Reply → Type 0
  UseBy verb false o r = r ≡ NoRoom
  UseBy verb true None r = r ≡ Stale
  UseBy verb true (Some a) r = cond (a.worker == w) (OwedByLaw (outcome_for d openings ls verb a) r) (r ≡ NotYours)

  use_by : (verb : Verb) (r : Reply) → OwedToUse d room openings ls w n verb r → UseBy verb (leb (taken ls + 1) room) (activation_of n (live ls)) r
  use_by verb _ (OwedToUse.no_room l) = rw (lt-leb (taken ls + 1) room l) refl
  use_by verb _ (OwedToUse.stale l k) = rw (le-leb (taken ls + 1) room l, k) refl
  use_by verb _ (OwedToUse.not_yours a l k o) = rw (le-leb (taken ls + 1) room l, k, ne_eqb a.worker w o) refl
  use_by verb _ (OwedToUse.refused a r l k o) = rw (le-leb (taken ls + 1) room l, k.found, eq-eqb a.worker w k.own, o) refl
  use_by verb _ (OwedToUse.served a x after l k o) = rw (le-leb (taken ls + 1) room l, k.found, eq-eqb a.worker w k.own, o) (inl refl)
  use_by verb _ (OwedToUse.failed a x after l k o) = rw (le-leb (taken ls + 1) room l, k.found, eq-eqb a.worker w k.own, o) (inr refl)

  law_from : (verb : Verb) (a : Activation) (r : Reply) → taken ls + 1 ≤ room → IsOwn ls w n a → (o : Outcome) → outcome_for d openings ls verb a ≡ o → OwedByLaw o r → OwedToUse d room openings ls w n verb r
  law_from verb a r l own (refuses q) e k = subst (OwedToUse d room openings ls w n verb) (sym k) (OwedToUse.refused a q l own e)
  law_from verb a r l own (serves x after) e (inl k) = subst (OwedToUse d room openings ls w n verb) (sym k) (OwedToUse.served a x after l own e)
  law_from verb a r l own (serves x after) e (inr k) = subst (OwedToUse d room openings ls w n verb) (sym k) (OwedToUse.failed a x after l own e)

  owner_from : (verb : Verb) (a : Activation) (r : Reply) → taken ls + 1 ≤ room → activation_of n (live ls) ≡ Some a → (t : Bool) → (a.worker == w) ≡ t → cond t (OwedByLaw (outcome_for d openings ls verb a) r) (r ≡ NotYours) → OwedToUse d room openings ls w n verb r
  owner_from verb a r l e true t k = law_from verb a r l (record { found = e; own = eqb-true a.worker w t }) (outcome_for d openings ls verb a) refl k
  owner_from verb a r l e false t k = subst (OwedToUse d room openings ls w n verb) (sym k) (OwedToUse.not_yours a l e (λ q. eqb-false a.worker w t q))

  -- the other way round: what the table says is owed
  pub use_from : (verb : Verb) (r : Reply) (t : Bool) → leb (taken ls + 1) room ≡ t → (o : Option Activation) → activation_of n (live ls) ≡ o → UseBy verb t o r → OwedToUse d room openings ls w n verb r
  use_from verb r false t o e k = subst (OwedToUse d room openings ls w n verb) (sym k) (OwedToUse.no_room (leb-false (taken ls + 1) room t))
  use_from verb r true t None e k = subst (OwedToUse d room openings ls w n verb) (sym k) (OwedToUse.stale (leb-true (taken ls + 1) room t) e)
  use_from verb r true t (Some a) e k = owner_from verb a r (leb-true (taken ls + 1) room t) e (a.worker == w) refl k

  one_by_owner : (verb : Verb) (a : Activation) (t : Bool) (r s : Reply) → cond t (OwedByLaw (outcome_for d openings ls verb a) r) (r ≡ NotYours) → cond t (OwedByLaw (outcome_for d openings ls verb a) s) (s ≡ NotYours) → AreSame r s
  one_by_owner verb a true r s e f = one_by_law (outcome_for d openings ls verb a) r s e f
  one_by_owner verb a false r s e f = inl (e ∙ sym f)

  one_by_use : (verb : Verb) (t : Bool) (o : Option Activation) (r s : Reply) → UseBy verb t o r → UseBy verb t o s → AreSame r s
  one_by_use verb false o r s e f = inl (e ∙ sym f)
  one_by_use verb true None r s e f = inl (e ∙ sym f)
  one_by_use verb true (Some a) r s e f = one_by_owner verb a (a.worker == w) r s e f

  -- the table of a finish, by whether there is room, and by what is live
  abbrev pub FinishBy : Bool → Option Activation → Reply → Type 0
  FinishBy t None r = cond t (r ≡ Stale) (r ≡ NoRoom)
  FinishBy t (Some a) r = cond (a.worker == w) (r ≡ Finished) (cond t (r ≡ NotYours) (r ≡ NoRoom))

  finish_without_room : (o : Option Activation) → activation_of n (live ls) ≡ o → ((a : Activation) → IsOwn ls w n a → ⊥) → FinishBy false o NoRoom
  finish_without_room None e f = refl
  finish_without_room (Some a) e f = rw (ne_eqb a.worker w (λ k. f a (record { found = e; own = k }))) refl

  finish_by : (r : Reply) → OwedToFinish d room ls w n r → FinishBy (leb (taken ls + 1) room) (activation_of n (live ls)) r
  finish_by _ (OwedToFinish.finished a o) = rw (o.found, eq-eqb a.worker w o.own) refl
  finish_by _ (OwedToFinish.no_room o l) = rw (lt-leb (taken ls + 1) room l) (finish_without_room (activation_of n (live ls)) refl o)
  finish_by _ (OwedToFinish.stale l k) = rw (le-leb (taken ls + 1) room l, k) refl
  finish_by _ (OwedToFinish.not_yours a l k o) = rw (le-leb (taken ls + 1) room l, k, ne_eqb a.worker w o) refl

  of_nobody : activation_of n (live ls) ≡ None → (a : Activation) → IsOwn ls w n a → ⊥
  of_nobody e a own = some_none a (sym own.found ∙ e)

  of_another : (a : Activation) → activation_of n (live ls) ≡ Some a → (a.worker ≡ w → ⊥) → (b : Activation) → IsOwn ls w n b → ⊥
  of_another a e k b own = k (ap (λ y. y.worker) (sym (some_same b a (sym own.found ∙ e))) ∙ own.own)

  finish_other : (a : Activation) (r : Reply) → activation_of n (live ls) ≡ Some a → (a.worker ≡ w → ⊥) → (t : Bool) → leb (taken ls + 1) room ≡ t → cond t (r ≡ NotYours) (r ≡ NoRoom) → OwedToFinish d room ls w n r
  finish_other a r e k true t q = subst (OwedToFinish d room ls w n) (sym q) (OwedToFinish.not_yours a (leb-true (taken ls + 1) room t) e k)
  finish_other a r e k false t q = subst (OwedToFinish d room ls w n) (sym q) (OwedToFinish.no_room (of_another a e k) (leb-false (taken ls + 1) room t))

  finish_owner : (a : Activation) (r : Reply) → activation_of n (live ls) ≡ Some a → (t : Bool) → leb (taken ls + 1) room ≡ t → (u : Bool) → (a.worker == w) ≡ u → cond u (r ≡ Finished) (cond t (r ≡ NotYours) (r ≡ NoRoom)) → OwedToFinish d room ls w n r
  finish_owner a r e t f true u q = subst (OwedToFinish d room ls w n) (sym q) (OwedToFinish.finished a (record { found = e; own = eqb-true a.worker w u }))
  finish_owner a r e t f false u q = finish_other a r e (λ k. eqb-false a.worker w u k) t f q

  -- the other way round
  pub finish_from : (r : Reply) (t : Bool) → leb (taken ls + 1) room ≡ t → (o : Option Activation) → activation_of n (live ls) ≡ o → FinishBy t o r → OwedToFinish d room ls w n r
  finish_from r true t None e k = subst (OwedToFinish d room ls w n) (sym k) (OwedToFinish.stale (leb-true (taken ls + 1) room t) e)
  finish_from r false t None e k = subst (OwedToFinish d room ls w n) (sym k) (OwedToFinish.no_room (of_nobody e) (leb-false (taken ls + 1) room t))
  finish_from r t f (Some a) e k = finish_owner a r e t f (a.worker == w) refl k

  one_of_two : (t : Bool) (p q r s : Reply) → cond t (r ≡ p) (r ≡ q) → cond t (s ≡ p) (s ≡ q) → r ≡ s
  one_of_two true p q r s e f = e ∙ sym f
  one_of_two false p q r s e f = e ∙ sym f

  one_of_three : (t u : Bool) (o p q r s : Reply) → cond t (r ≡ o) (cond u (r ≡ p) (r ≡ q)) → cond t (s ≡ o) (cond u (s ≡ p) (s ≡ q)) → r ≡ s
  one_of_three true u o p q r s e f = e ∙ sym f
  one_of_three false u o p q r s e f = one_of_two u p q r s e f

  one_by_finish : (t : Bool) (o : Option Activation) (r s : Reply) → FinishBy t o r → FinishBy t o s → r ≡ s
  one_by_finish t None r s e f = one_of_two t Stale NoRoom r s e f
  one_by_finish t (Some a) r s e f = one_of_three (a.worker == w) t Finished NotYours NoRoom r s e f

pub one_reply_is_owed : OneReplyIsOwed
one_reply_is_owed d room openings ls w (Start a) r s o p = inl (one_to_start d room ls a r s o p)
one_reply_is_owed d room openings ls w (Apply n verb) r s o p =
    one_by_use d room openings ls w n verb (leb (taken ls + 1) room) (activation_of n (live ls)) r s (use_by d room openings ls w n verb r o) (use_by d room openings ls w n verb s p)
one_reply_is_owed d room openings ls w (Finish n) r s o p =
    inl (one_by_finish d room openings ls w n (leb (taken ls + 1) room) (activation_of n (live ls)) r s (finish_by d room openings ls w n r o) (finish_by d room openings ls w n s p))

module _ (d : Declaration) (room : ℕ) (openings : List (List ℕ)) (wf : legal.Every WellFormed (paths_of d)) (ls : List Line) (h : IsHonest d room openings ls) (w : ℕ) where
  some_to_start : (a : OpId) → (r : Reply) × OwedToStart (by_words d) d room ls a r
  some_to_start a = go (cases_lt room (taken ls + 2)) (cases_lt a.0 (length d.operations))
    where
      judge : taken ls + 2 ≤ room → a.0 < length d.operations → legal.NoneOf (Blocks a) (after (paths_of d) (admitted_history ls)) ⊎ ((p : ℕ) × legal.First (Blocks a) (after (paths_of d) (admitted_history ls)) p) → (r : Reply) × OwedToStart (by_words d) d room ls a r
      judge l k (inl n) =
          let j = all_paths_judge (paths_of d) wf (admitted_history ls) (legal_kept d room openings wf ls h) in
          (Started (record { 0 = begun_in ls }), OwedToStart.started (record { 0 = begun_in ls }) l k ((j.none a).0 n) refl)
      judge l k (inr f) =
          let j = all_paths_judge (paths_of d) wf (admitted_history ls) (legal_kept d room openings wf ls h) in
          (Blocked (record { 0 = f.0 }), OwedToStart.blocked (record { 0 = f.0 }) l k ((j.first a f.0).0 f.1))

      go : (room < taken ls + 2) ⊎ (taken ls + 2 ≤ room) → (a.0 < length d.operations) ⊎ (length d.operations ≤ a.0) → (r : Reply) × OwedToStart (by_words d) d room ls a r
      go (inl l) k = (NoRoom, OwedToStart.no_room l)
      go (inr l) (inr k) = (UnknownOperation, OwedToStart.unknown l k)
      go (inr l) (inl k) = judge l k ((all_paths_judge (paths_of d) wf (admitted_history ls) (legal_kept d room openings wf ls h)).decided a)

  some_to_use : (n : ActId) (verb : Verb) → (r : Reply) × OwedToUse d room openings ls w n verb r
  some_to_use n verb = go (cases_lt room (taken ls + 1)) (activation_of n (live ls)) refl
    where
      served : (a : Activation) → taken ls + 1 ≤ room → IsOwn ls w n a → (o : Outcome) → outcome_for d openings ls verb a ≡ o → (r : Reply) × OwedToUse d room openings ls w n verb r
      served a l own (serves x after) e = (Used x, OwedToUse.served a x after l own e)
      served a l own (refuses r) e = (r, OwedToUse.refused a r l own e)

      found : (a : Activation) → taken ls + 1 ≤ room → activation_of n (live ls) ≡ Some a → (a.worker ≡ w) ⊎ (a.worker ≡ w → ⊥) → (r : Reply) × OwedToUse d room openings ls w n verb r
      found a l e (inl k) = served a l (record { found = e; own = k }) (outcome_for d openings ls verb a) refl
      found a l e (inr k) = (NotYours, OwedToUse.not_yours a l e k)

      go : (room < taken ls + 1) ⊎ (taken ls + 1 ≤ room) → (o : Option Activation) → activation_of n (live ls) ≡ o → (r : Reply) × OwedToUse d room openings ls w n verb r
      go (inl l) o e = (NoRoom, OwedToUse.no_room l)
      go (inr l) None e = (Stale, OwedToUse.stale l e)
      go (inr l) (Some a) e = found a l e (cases_eq a.worker w)

  some_to_finish : (n : ActId) → (r : Reply) × OwedToFinish d room ls w n r
  some_to_finish n = go (cases_lt room (taken ls + 1)) (activation_of n (live ls)) refl
    where
      found : (room < taken ls + 1) ⊎ (taken ls + 1 ≤ room) → (a : Activation) → activation_of n (live ls) ≡ Some a → (a.worker ≡ w) ⊎ (a.worker ≡ w → ⊥) → (r : Reply) × OwedToFinish d room ls w n r
      found l a e (inl k) = (Finished, OwedToFinish.finished a (record { found = e; own = k }))
      found (inl l) a e (inr k) = (NoRoom, OwedToFinish.no_room (λ b own. k ((let same : b ≡ a = some_same b a (sym own.found ∙ e) in ap (λ y. y.worker) (sym same)) ∙ own.own)) l)
      found (inr l) a e (inr k) = (NotYours, OwedToFinish.not_yours a l e k)

      go : (room < taken ls + 1) ⊎ (taken ls + 1 ≤ room) → (o : Option Activation) → activation_of n (live ls) ≡ o → (r : Reply) × OwedToFinish d room ls w n r
      go l (Some a) e = found l a e (cases_eq a.worker w)
      go (inl l) None e = (NoRoom, OwedToFinish.no_room (λ b own. some_none b (sym own.found ∙ e)) l)
      go (inr l) None e = (Stale, OwedToFinish.stale l e)

pub each_attempt_is_owed_a_reply : EachAttemptIsOwedAReply
each_attempt_is_owed_a_reply d room openings wf ls h w (Start a) = some_to_start d room openings wf ls h w a
each_attempt_is_owed_a_reply d room openings wf ls h w (Apply n verb) = some_to_use d room openings wf ls h w n verb
each_attempt_is_owed_a_reply d room openings wf ls h w (Finish n) = some_to_finish d room openings wf ls h w n
