-- Honest journals, line by line: what each line starts, finishes or leaves.
use Rattle.std.proofs.Common.{◌≡◌, ◌≢◌, ◌==◌, ◌||◌, ◌⊎◌, ◌<◌, ◌≤◌, ◌+◌, ℕ, true, false, not, cond, List, [], ◌∷◌, ◌++◌, length, filter, Some, refl, sym, ap, ◌∙◌, subst, inl, inr, arith, append_assoc, append-nil, zero-add}
use Rattle.std.proofs.lemmas.Bool.{eqb-true, or_cases, false_from_ne_true}
use Rattle.std.proofs.lemmas.List.Elements.{filter-append}
use Rattle.path_model.specs.declared.ids.OpId.{OpId}
use Rattle.path_model.specs.declared.ids.ActId.{ActId}
use Rattle.path_model.specs.declared.journal.Verb.{Verb}
use Rattle.path_model.specs.declared.journal.Attempt.{Attempt}
use Rattle.path_model.specs.declared.journal.Attempt.TheVariants.{Start, Apply, Finish}
use Rattle.path_model.specs.declared.journal.Reply.{Reply}
use Rattle.path_model.specs.declared.journal.Reply.TheVariants.{Started, Finished, NoRoom}
use Rattle.path_model.specs.declared.journal.Line.{Line}
use Rattle.path_model.specs.declared.journal.Activation.{Activation}
use Rattle.path_model.specs.Legal as legal
use Rattle.path_model.specs.Declarations.{Declaration, paths_of}
use Rattle.path_model.specs.Journals.{starts, begun_in, is_finished_in, live, activation_of, without, admitted_history, IsQuiet, AreNumbered, AreCountedFrom}
use Rattle.path_model.specs.Owed.{taken, by_words, IsOwn, OwedToStart, OwedToUse, OwedToFinish, Owed}
use Rattle.path_model.specs.Honest.{IsHonestFrom, IsHonest, FrontsAreHonest, EachLiveActivationIsFound}
use Rattle.path_model.proofs.JournalLists.{starts_more, begun_more, finished_more, or_false, live_more, quiet_use, starts_quiet, begun_quiet, finished_quiet}
use Rattle.path_model.proofs.Lookups.{without_those, numbered_those, each_found, found_those, found_below, counted_more}

-- a line of its parts
abbrev pub line_of : ℕ → Attempt → Reply → Line
line_of w attempt reply = record { worker = w; attempt = attempt; reply = reply }

module _ (d : Declaration) (room : ℕ) (openings : List (List ℕ)) where
  honest_from_more : (before ls : List Line) (l : Line) → IsHonestFrom (by_words d) d room openings before ls → Owed d room openings (before ++ ls) l.worker l.attempt l.reply → l.reply ≢ NoRoom
      → IsHonestFrom (by_words d) d room openings before (ls ++ l ∷ [])
  honest_from_more before [] l h o n = (subst (λ b. Owed d room openings b l.worker l.attempt l.reply) (append-nil before) o, n, tt)
  honest_from_more before (k ∷ ls) l h o n =
      (h.0, h.1, honest_from_more (before ++ k ∷ []) ls l h.2 (subst (λ b. Owed d room openings b l.worker l.attempt l.reply) (sym (append_assoc before (k ∷ []) ls)) o) n)

  -- one more line, if it is owed
  pub honest_more : (ls : List Line) (l : Line) → IsHonest d room openings ls → Owed d room openings ls l.worker l.attempt l.reply → l.reply ≢ NoRoom → IsHonest d room openings (ls ++ l ∷ [])
  honest_more ls l h o n = honest_from_more [] ls l h o n

  honest_from_front : (before x y : List Line) → IsHonestFrom (by_words d) d room openings before (x ++ y) → IsHonestFrom (by_words d) d room openings before x
  honest_from_front before [] y h = tt
  honest_from_front before (k ∷ x) y h = (h.0, h.1, honest_from_front (before ++ k ∷ []) x y h.2)

  -- the first lines of an honest journal
  pub honest_front : (x y : List Line) → IsHonest d room openings (x ++ y) → IsHonest d room openings x
  honest_front x y h = honest_from_front [] x y h

  honest_from_last : (before ls : List Line) (l : Line) → IsHonestFrom (by_words d) d room openings before (ls ++ l ∷ []) → Owed d room openings (before ++ ls) l.worker l.attempt l.reply × (l.reply ≢ NoRoom)
  honest_from_last before [] l h = (subst (λ b. Owed d room openings b l.worker l.attempt l.reply) (sym (append-nil before)) h.0, h.1)
  honest_from_last before (k ∷ ls) l h =
      let r = honest_from_last (before ++ k ∷ []) ls l h.2 in
      (subst (λ b. Owed d room openings b l.worker l.attempt l.reply) (append_assoc before (k ∷ []) ls) r.0, r.1)

  -- its last line was owed
  pub honest_last : (ls : List Line) (l : Line) → IsHonest d room openings (ls ++ l ∷ []) → Owed d room openings ls l.worker l.attempt l.reply × (l.reply ≢ NoRoom)
  honest_last ls l h = honest_from_last [] ls l h

  module _ (P : List Line → Type 0) (first : P []) (step : (ls : List Line) (l : Line) → IsHonest d room openings ls → P ls → Owed d room openings ls l.worker l.attempt l.reply → l.reply ≢ NoRoom → P (ls ++ l ∷ [])) where
    induction_from : (before ls : List Line) → IsHonest d room openings before → P before → IsHonestFrom (by_words d) d room openings before ls → P (before ++ ls)
    induction_from before [] h p k = subst P (sym (append-nil before)) p
    induction_from before (l ∷ ls) h p k =
        subst P (append_assoc before (l ∷ []) ls) (induction_from (before ++ l ∷ []) ls (honest_more before l h k.0 k.1) (step before l h p k.0 k.1) k.2)

    -- what the empty journal has, and each owed line keeps, each honest journal has
    pub honest_induction : (ls : List Line) → IsHonest d room openings ls → P ls
    honest_induction ls h = induction_from [] ls tt first h

-- a line is a start, a finish, or quiet
pub data Kind (d : Declaration) (room : ℕ) (ls : List Line) : ℕ → Attempt → Reply → Type 0 where
  begins : (w : ℕ) (a : OpId) (n : ActId) → taken ls + 2 ≤ room → a.0 < length d.operations → legal.NoneOf (legal.Forbids (admitted_history ls) a) (paths_of d) → n.0 ≡ begun_in ls → Kind d room ls w (Start a) (Started n)
  ends : (w : ℕ) (n : ActId) (a : Activation) → IsOwn ls w n a → Kind d room ls w (Finish n) Finished
  quiet : (w : ℕ) (attempt : Attempt) (reply : Reply) → taken ls + 1 ≤ room → IsQuiet w attempt reply → Kind d room ls w attempt reply

module _ (d : Declaration) (room : ℕ) (openings : List (List ℕ)) (ls : List Line) (w : ℕ) where
  kind_of_start : (a : OpId) (reply : Reply) → OwedToStart (by_words d) d room ls a reply → reply ≢ NoRoom → Kind d room ls w (Start a) reply
  kind_of_start a _ (OwedToStart.no_room l) n = absurd (n refl)
  kind_of_start a _ (OwedToStart.unknown l k) n = quiet w (Start a) _ (omega (arith, l)) (record { starts_none = refl; finishes_none = λ m. refl; no_events = λ before. refl })
  kind_of_start a _ (OwedToStart.blocked p l k f) n = quiet w (Start a) _ (omega (arith, l)) (record { starts_none = refl; finishes_none = λ m. refl; no_events = λ before. refl })
  kind_of_start a _ (OwedToStart.started m l k f e) n = begins w a m l k f e

  kind_of_use : (m : ActId) (verb : Verb) (reply : Reply) → OwedToUse d room openings ls w m verb reply → reply ≢ NoRoom → Kind d room ls w (Apply m verb) reply
  kind_of_use m verb _ (OwedToUse.no_room l) n = absurd (n refl)
  kind_of_use m verb _ (OwedToUse.stale l k) n = quiet w (Apply m verb) _ l (quiet_use w m verb _)
  kind_of_use m verb _ (OwedToUse.not_yours a l k o) n = quiet w (Apply m verb) _ l (quiet_use w m verb _)
  kind_of_use m verb _ (OwedToUse.refused a r l k o) n = quiet w (Apply m verb) _ l (quiet_use w m verb _)
  kind_of_use m verb _ (OwedToUse.served a x after l k o) n = quiet w (Apply m verb) _ l (quiet_use w m verb _)
  kind_of_use m verb _ (OwedToUse.failed a x after l k o) n = quiet w (Apply m verb) _ l (quiet_use w m verb _)

  kind_of_finish : (m : ActId) (reply : Reply) → OwedToFinish d room ls w m reply → reply ≢ NoRoom → Kind d room ls w (Finish m) reply
  kind_of_finish m _ (OwedToFinish.finished a o) n = ends w m a o
  kind_of_finish m _ (OwedToFinish.no_room o l) n = absurd (n refl)
  kind_of_finish m _ (OwedToFinish.stale l k) n = quiet w (Finish m) _ l (record { starts_none = refl; finishes_none = λ k. refl; no_events = λ before. refl })
  kind_of_finish m _ (OwedToFinish.not_yours a l k o) n = quiet w (Finish m) _ l (record { starts_none = refl; finishes_none = λ k. refl; no_events = λ before. refl })

  pub kind_of : (attempt : Attempt) (reply : Reply) → Owed d room openings ls w attempt reply → reply ≢ NoRoom → Kind d room ls w attempt reply
  kind_of (Start a) reply o n = kind_of_start a reply o n
  kind_of (Apply m verb) reply o n = kind_of_use m verb reply o n
  kind_of (Finish m) reply o n = kind_of_finish m reply o n

-- starts are numbered in order, and what is finished was started
pub record Orderly (ls : List Line) : Type 0 where
  pub counted : AreCountedFrom 0 (starts ls)
  pub finished_begun : (n : ActId) → is_finished_in ls n ≡ true → n.0 < begun_in ls

pub orderly_numbered : (ls : List Line) → Orderly ls → AreNumbered (live ls) (begun_in ls)
orderly_numbered ls o = subst (λ m. AreNumbered (live ls) m) (zero-add (begun_in ls)) (numbered_those (is_finished_in ls) 0 0 (starts ls) (omega arith) o.counted)

-- the next start isn't finished
next_unfinished : (ls : List Line) (n : ActId) → Orderly ls → n.0 ≡ begun_in ls → is_finished_in ls n ≡ false
next_unfinished ls n o e = false_from_ne_true (is_finished_in ls n) (λ t. let k = o.finished_begun n t in omega (arith, k, e))

orderly_started : (ls : List Line) (w : ℕ) (a : OpId) (n : ActId) → n.0 ≡ begun_in ls → Orderly ls → Orderly (ls ++ line_of w (Start a) (Started n) ∷ [])
orderly_started ls w a n e o = record {
  counted = subst (AreCountedFrom 0) (sym (starts_more ls (line_of w (Start a) (Started n)))) (counted_more 0 (starts ls) (record { act = n; worker = w; op = a }) o.counted (omega (arith, e)));
  finished_begun = λ m t.
      let k = o.finished_begun m (sym (or_false (is_finished_in ls m)) ∙ sym (finished_more ls (line_of w (Start a) (Started n)) m) ∙ t) in
      let b = begun_more ls (line_of w (Start a) (Started n)) in
      omega (arith, k, b);
}

orderly_finished : (ls : List Line) (w : ℕ) (n : ActId) (a : Activation) → IsOwn ls w n a → Orderly ls → Orderly (ls ++ line_of w (Finish n) Finished ∷ [])
orderly_finished ls w n a own o = record {
  counted = subst (AreCountedFrom 0) (sym (starts_more ls l ∙ append-nil (starts ls))) o.counted;
  finished_begun = λ m t. go m (or_cases (is_finished_in ls m) (n.0 == m.0) (sym (finished_more ls l m) ∙ t));
}
  where
    l : Line
    l = line_of w (Finish n) Finished

    go : (m : ActId) → (is_finished_in ls m ≡ true) ⊎ ((n.0 == m.0) ≡ true) → m.0 < begun_in (ls ++ l ∷ [])
    go m (inl t) = let k = o.finished_begun m t in let b = begun_more ls l in omega (arith, k, b)
    go m (inr t) =
        let k = found_below n 0 (live ls) (begun_in ls) a (orderly_numbered ls o) own.found in
        let b = begun_more ls l in
        omega (arith, k, b, eqb-true n.0 m.0 t)

orderly_quiet : (ls : List Line) (l : Line) → IsQuiet l.worker l.attempt l.reply → Orderly ls → Orderly (ls ++ l ∷ [])
orderly_quiet ls l q o = record {
  counted = subst (AreCountedFrom 0) (sym (starts_quiet ls l q)) o.counted;
  finished_begun = λ m t. let k = o.finished_begun m (sym (finished_quiet ls l q m) ∙ t) in let b = begun_quiet ls l q in omega (arith, k, b);
}

orderly_step : (d : Declaration) (room : ℕ) (ls : List Line) (w : ℕ) (attempt : Attempt) (reply : Reply) → Kind d room ls w attempt reply → Orderly ls → Orderly (ls ++ line_of w attempt reply ∷ [])
orderly_step d room ls _ _ _ (begins w a n r k f e) o = orderly_started ls w a n e o
orderly_step d room ls _ _ _ (ends w n a own) o = orderly_finished ls w n a own o
orderly_step d room ls _ _ _ (quiet w attempt reply r q) o = orderly_quiet ls (line_of w attempt reply) q o

module _ (d : Declaration) (room : ℕ) (openings : List (List ℕ)) where
  pub orderly : (ls : List Line) → IsHonest d room openings ls → Orderly ls
  orderly ls h = honest_induction d room openings Orderly (record { counted = tt; finished_begun = λ n t. absurd (cc) })
      (λ ls l h o owed n. orderly_step d room ls l.worker l.attempt l.reply (kind_of d room openings ls l.worker l.attempt l.reply owed n) o) ls h

  -- the live activations are numbered in order, below the number of starts
  pub live_numbered : (ls : List Line) → IsHonest d room openings ls → AreNumbered (live ls) (begun_in ls)
  live_numbered ls h = orderly_numbered ls (orderly ls h)

  -- an admitted start is live, behind the others
  pub live_started : (ls : List Line) → IsHonest d room openings ls → (w : ℕ) (a : OpId) (n : ActId) → n.0 ≡ begun_in ls
      → live (ls ++ record { worker = w; attempt = Start a; reply = Started n } ∷ []) ≡ live ls ++ record { act = n; worker = w; op = a } ∷ []
  live_started ls h w a n e =
      live_more ls (line_of w (Start a) (Started n))
      ∙ (λ i. filter (λ x. not (or_false (is_finished_in ls x.act) i)) (starts ls ++ record { act = n; worker = w; op = a } ∷ []))
      ∙ filter-append (λ x. not (is_finished_in ls x.act)) (starts ls) (record { act = n; worker = w; op = a } ∷ [])
      ∙ ap (λ b. live ls ++ cond (not b) (record { act = n; worker = w; op = a } ∷ []) []) (next_unfinished ls n (orderly ls h) e)

-- a finish takes its activation away
pub live_finished : (ls : List Line) (w : ℕ) (n : ActId) → live (ls ++ record { worker = w; attempt = Finish n; reply = Finished } ∷ []) ≡ without n (live ls)
live_finished ls w n =
    live_more ls (line_of w (Finish n) Finished)
    ∙ ap (λ xs. filter (λ a. not (is_finished_in ls a.act || (n.0 == a.act.0))) xs) (append-nil (starts ls))
    ∙ without_those (is_finished_in ls) n (starts ls)

-- each live activation is found by its number
pub each_live_activation_is_found : EachLiveActivationIsFound
each_live_activation_is_found d room openings ls h = λ k e l. (each_found 0 (live ls) (begun_in ls) (live_numbered d room openings ls h) k e l).1

pub fronts_are_honest : FrontsAreHonest
fronts_are_honest d room openings x y h = honest_front d room openings x y h

-- what is found among the live is found among the starts
pub live_found : (ls : List Line) (n : ActId) (a : Activation) → activation_of n (live ls) ≡ Some a → activation_of n (starts ls) ≡ Some a
live_found ls n a e = (found_those (is_finished_in ls) n (starts ls) a e).0
