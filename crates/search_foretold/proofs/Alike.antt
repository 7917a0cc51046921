-- Two journals leave the same where one of them lacks some lines of the other that start, finish and use nothing.
use Rattle.std.proofs.Common.{◌≡◌, ◌≢◌, ◌≤◌, ◌||◌, ℕ, Bool, true, false, not, List, [], ◌∷◌, ◌++◌, length, filter, Some, None, refl, sym, ap, ◌∙◌, subst, arith, append_assoc, append-nil, length-append}
use Rattle.path_model.specs.declared.ids.OpId.{OpId}
use Rattle.path_model.specs.declared.ids.ActId.{ActId}
use Rattle.path_model.specs.declared.ids.PathId.{PathId}
use Rattle.path_model.specs.declared.journal.Verb.{Verb}
use Rattle.path_model.specs.declared.journal.Attempt.{Attempt}
use Rattle.path_model.specs.declared.journal.Attempt.TheVariants.{Start, Apply, Finish}
use Rattle.path_model.specs.declared.journal.Reply.{Reply}
use Rattle.path_model.specs.declared.journal.Reply.TheVariants.{Started, Blocked, Used, Finished, NoRoom}
use Rattle.path_model.specs.declared.journal.Line.{Line}
use Rattle.path_model.specs.declared.journal.Activation.{Activation}
use Rattle.path_model.specs.Declarations.{Declaration, resource_of, law_of}
use Rattle.path_model.specs.Devices.{outcome_of}
use Rattle.path_model.specs.Journals.{started_by, starts, begun_in, finishes, is_finished_in, live, activation_of, ended_events, events_of_line, history_from, admitted_history}
use Rattle.path_model.specs.Contents.{verb_applied, line_applied, contents_after}
use Rattle.path_model.specs.Owed.{taken, by_words, IsOwn, outcome_for, OwedToStart, OwedToUse, OwedToFinish, Owed}
use Rattle.path_model.proofs.CallerLemmas.{line_of, contents_more}

-- both start and finish the same, have the same history, and leave the same contents; what was kept has no more lines
pub record Alike (d : Declaration) (openings : List (List ℕ)) (front kept : List Line) : Type 0 where
  pub no_longer : length kept ≤ length front
  pub same_starts : starts kept ≡ starts front
  pub same_finishes : (n : ActId) → is_finished_in kept n ≡ is_finished_in front n
  pub same_history : admitted_history kept ≡ admitted_history front
  pub same_contents : (r : ℕ) → contents_after d openings kept r ≡ contents_after d openings front r

-- one more line
starts_more : (ls : List Line) (l : Line) → starts (ls ++ l ∷ []) ≡ starts ls ++ started_by l.worker l.attempt l.reply
starts_more [] l = append-nil (started_by l.worker l.attempt l.reply)
starts_more (k ∷ ls) l =
    ap (λ x. started_by k.worker k.attempt k.reply ++ x) (starts_more ls l) ∙ sym (append_assoc (started_by k.worker k.attempt k.reply) (starts ls) (started_by l.worker l.attempt l.reply))

or_same : (x y z : Bool) → (x || (y || z)) ≡ ((x || y) || z)
or_same true y z = refl
or_same false y z = refl

or_false : (x : Bool) → (x || false) ≡ x
or_false true = refl
or_false false = refl

finished_more : (ls : List Line) (l : Line) (n : ActId) → is_finished_in (ls ++ l ∷ []) n ≡ (is_finished_in ls n || finishes n l.attempt l.reply)
finished_more [] l n = or_false (finishes n l.attempt l.reply)
finished_more (k ∷ ls) l n =
    ap (λ x. finishes n k.attempt k.reply || x) (finished_more ls l n) ∙ or_same (finishes n k.attempt k.reply) (is_finished_in ls n) (finishes n l.attempt l.reply)

history_from_more : (before ls : List Line) (l : Line) → history_from before (ls ++ l ∷ []) ≡ history_from before ls ++ events_of_line (before ++ ls) l.attempt l.reply
history_from_more before [] l =
    append-nil (events_of_line before l.attempt l.reply) ∙ ap (λ b. events_of_line b l.attempt l.reply) (sym (append-nil before))
history_from_more before (k ∷ ls) l =
    ap (λ x. events_of_line before k.attempt k.reply ++ x) (history_from_more (before ++ k ∷ []) ls l)
    ∙ sym (append_assoc (events_of_line before k.attempt k.reply) (history_from (before ++ k ∷ []) ls) (events_of_line ((before ++ k ∷ []) ++ ls) l.attempt l.reply))
    ∙ ap (λ b. (events_of_line before k.attempt k.reply ++ history_from (before ++ k ∷ []) ls) ++ events_of_line b l.attempt l.reply) (append_assoc before (k ∷ []) ls)

history_more : (ls : List Line) (l : Line) → admitted_history (ls ++ l ∷ []) ≡ admitted_history ls ++ events_of_line ls l.attempt l.reply
history_more ls l = history_from_more [] ls l

-- what a line adds depends on the starts before it alone
events_same : (x y : List Line) (attempt : Attempt) (reply : Reply) → starts x ≡ starts y → events_of_line x attempt reply ≡ events_of_line y attempt reply
events_same x y (Finish n) Finished same = ap (λ s. ended_events (activation_of n s)) same
events_same x y (Finish n) reply same = refl
events_same x y (Start a) (Started n) same = refl
events_same x y (Start a) reply same = refl
events_same x y (Apply n verb) reply same = refl

applied_same : (d : Declaration) (r : ℕ) (x y : List Line) (attempt : Attempt) (reply : Reply) (held : List ℕ) → starts x ≡ starts y
    → line_applied d r x attempt reply held ≡ line_applied d r y attempt reply held
applied_same d r x y (Apply n verb) (Used z) held same = ap (λ s. verb_applied d r verb (activation_of n s) held) same
applied_same d r x y (Apply n verb) reply held same = refl
applied_same d r x y (Start a) reply held same = refl
applied_same d r x y (Finish n) reply held same = refl

module _ (d : Declaration) (openings : List (List ℕ)) where
  pub alike_first : Alike d openings [] []
  alike_first = record { no_longer = omega arith; same_starts = refl; same_finishes = λ n. refl; same_history = refl; same_contents = λ r. refl }

  module _ (front kept : List Line) (a : Alike d openings front kept) where
    pub alike_live : live kept ≡ live front
    alike_live = λ i. filter (λ x. not (a.same_finishes x.act i)) (a.same_starts i)

    pub alike_begun : begun_in kept ≡ begun_in front
    alike_begun = ap length a.same_starts

    -- the same line more in both
    pub alike_both : (l : Line) → Alike d openings (front ++ l ∷ []) (kept ++ l ∷ [])
    alike_both l = record {
      no_longer =
          let short = length-append kept (l ∷ []) in
          let long = length-append front (l ∷ []) in
          let fewer = a.no_longer in
          omega (arith, short, long, fewer);
      same_starts = starts_more kept l ∙ ap (λ x. x ++ started_by l.worker l.attempt l.reply) a.same_starts ∙ sym (starts_more front l);
      same_finishes = λ n. finished_more kept l n ∙ ap (λ b. b || finishes n l.attempt l.reply) (a.same_finishes n) ∙ sym (finished_more front l n);
      same_history =
          history_more kept l ∙ ap (λ h. h ++ events_of_line kept l.attempt l.reply) a.same_history
          ∙ ap (λ e. admitted_history front ++ e) (events_same kept front l.attempt l.reply a.same_starts) ∙ sym (history_more front l);
      same_contents = λ r.
          contents_more d openings kept l r ∙ ap (λ held. line_applied d r kept l.attempt l.reply held) (a.same_contents r)
          ∙ applied_same d r kept front l.attempt l.reply (contents_after d openings front r) a.same_starts ∙ sym (contents_more d openings front l r);
    }

    -- a blocked start more in the longer one
    pub alike_blocked : (w : ℕ) (op : OpId) (path : PathId) → Alike d openings (front ++ line_of w (Start op) (Blocked path) ∷ []) kept
    alike_blocked w op path =
        let l : Line = line_of w (Start op) (Blocked path) in
        record {
          no_longer = (let long = length-append front (l ∷ []) in let fewer = a.no_longer in omega (arith, long, fewer));
          same_starts = a.same_starts ∙ sym (starts_more front l ∙ append-nil (starts front));
          same_finishes = λ n. a.same_finishes n ∙ sym (finished_more front l n ∙ or_false (is_finished_in front n));
          same_history = a.same_history ∙ sym (history_more front l ∙ append-nil (admitted_history front));
          same_contents = λ r. a.same_contents r ∙ sym (contents_more d openings front l r);
        }

    -- what is owed behind one of them is owed behind the other, in as much room or more
    module _ (room more : ℕ) (wider : room ≤ more) (w : ℕ) where
      taken_less : taken kept ≤ taken front
      taken_less = let l = ap length alike_live in let fewer = a.no_longer in omega (arith, l, fewer)

      start_alike : (op : OpId) (r : Reply) → OwedToStart (by_words d) d room front op r → r ≢ NoRoom → OwedToStart (by_words d) d more kept op r
      start_alike op _ (OwedToStart.no_room l) some = absurd (some refl)
      start_alike op _ (OwedToStart.unknown l k) some = OwedToStart.unknown (let t = taken_less in omega (arith, l, wider, t)) k
      start_alike op _ (OwedToStart.blocked p l k f) some =
          OwedToStart.blocked p (let t = taken_less in omega (arith, l, wider, t)) k (subst (λ h. by_words d h op (Some p)) (sym a.same_history) f)
      start_alike op _ (OwedToStart.started n l k f e) some =
          OwedToStart.started n (let t = taken_less in omega (arith, l, wider, t)) k (subst (λ h. by_words d h op None) (sym a.same_history) f) (e ∙ sym alike_begun)

      own_alike : (n : ActId) (x : Activation) → IsOwn front w n x → IsOwn kept w n x
      own_alike n x o = record { found = ap (activation_of n) alike_live ∙ o.found; own = o.own }

      outcome_alike : (verb : Verb) (x : Activation) → outcome_for d openings kept verb x ≡ outcome_for d openings front verb x
      outcome_alike verb x = ap (λ held. outcome_of (law_of d (resource_of d x.op.0)) verb held) (a.same_contents (resource_of d x.op.0))

      use_alike : (n : ActId) (verb : Verb) (r : Reply) → OwedToUse d room openings front w n verb r → r ≢ NoRoom → OwedToUse d more openings kept w n verb r
      use_alike n verb _ (OwedToUse.no_room l) some = absurd (some refl)
      use_alike n verb _ (OwedToUse.stale l k) some = OwedToUse.stale (let t = taken_less in omega (arith, l, wider, t)) (ap (activation_of n) alike_live ∙ k)
      use_alike n verb _ (OwedToUse.not_yours x l k o) some = OwedToUse.not_yours x (let t = taken_less in omega (arith, l, wider, t)) (ap (activation_of n) alike_live ∙ k) o
      use_alike n verb _ (OwedToUse.refused x r l k o) some = OwedToUse.refused x r (let t = taken_less in omega (arith, l, wider, t)) (own_alike n x k) (outcome_alike verb x ∙ o)
      use_alike n verb _ (OwedToUse.served x y rest l k o) some = OwedToUse.served x y rest (let t = taken_less in omega (arith, l, wider, t)) (own_alike n x k) (outcome_alike verb x ∙ o)
      use_alike n verb _ (OwedToUse.failed x y rest l k o) some = OwedToUse.failed x y rest (let t = taken_less in omega (arith, l, wider, t)) (own_alike n x k) (outcome_alike verb x ∙ o)

      finish_alike : (n : ActId) (r : Reply) → OwedToFinish d room front w n r → r ≢ NoRoom → OwedToFinish d more kept w n r
      finish_alike n _ (OwedToFinish.finished x k) some = OwedToFinish.finished x (own_alike n x k)
      finish_alike n _ (OwedToFinish.no_room k l) some = absurd (some refl)
      finish_alike n _ (OwedToFinish.stale l k) some = OwedToFinish.stale (let t = taken_less in omega (arith, l, wider, t)) (ap (activation_of n) alike_live ∙ k)
      finish_alike n _ (OwedToFinish.not_yours x l k o) some = OwedToFinish.not_yours x (let t = taken_less in omega (arith, l, wider, t)) (ap (activation_of n) alike_live ∙ k) o

      pub owed_alike : (attempt : Attempt) (r : Reply) → Owed d room openings front w attempt r → r ≢ NoRoom → Owed d more openings kept w attempt r
      owed_alike (Start op) r o some = start_alike op r o some
      owed_alike (Apply n verb) r o some = use_alike n verb r o some
      owed_alike (Finish n) r o some = finish_alike n r o some
