-- What is frozen stays frozen, and a finish comes between a blocked start and the next admitted one.
use Rattle.std.proofs.Common.{◌≡◌, ◌⊎◌, ℕ, List, [], ◌∷◌, ◌++◌, Some, refl, sym, ap, ◌∙◌, subst, inl, inr, append_assoc, append-nil}
use Rattle.std.proofs.lemmas.List.Elements.{All-nil, All-cons}
use Rattle.path_model.specs.declared.ids.OpId.{OpId}
use Rattle.path_model.specs.declared.ids.ActId.{ActId}
use Rattle.path_model.specs.declared.ids.PathId.{PathId}
use Rattle.path_model.specs.declared.history.Event.{Event}
use Rattle.path_model.specs.declared.history.Event.TheVariants.{Began, Ended}
use Rattle.path_model.specs.declared.journal.Verb.{Verb}
use Rattle.path_model.specs.declared.journal.Attempt.{Attempt}
use Rattle.path_model.specs.declared.journal.Attempt.TheVariants.{Start, Apply, Finish}
use Rattle.path_model.specs.declared.journal.Reply.{Reply}
use Rattle.path_model.specs.declared.journal.Reply.TheVariants.{Started, Blocked, Finished}
use Rattle.path_model.specs.declared.journal.Line.{Line}
use Rattle.path_model.specs.declared.journal.Activation.{Activation}
use Rattle.path_model.specs.Trees.{WellFormed}
use Rattle.path_model.specs.Histories.{HasFinish}
use Rattle.path_model.specs.Legal as legal
use Rattle.path_model.specs.AllPaths.{after, Blocks}
use Rattle.path_model.specs.Declarations.{Declaration, trees, paths_of}
use Rattle.path_model.specs.Journals.{live, activation_of, events_of_line, history_from, admitted_history}
use Rattle.path_model.specs.Owed.{by_words, IsOwn, OwedToStart, OwedToUse, OwedToFinish, Owed}
use Rattle.path_model.specs.Honest.{IsHonest}
use Rattle.path_model.specs.Stuck.{IsFrozen, IsAdmission, FrozenStaysFrozen, StartablesMayStart, LiveActivationsMayFinish, HasFinishLine, FinishesComeBetween}
use Rattle.path_model.proofs.AllPaths.{all_paths_judge, finishes_unblock}
use Rattle.path_model.proofs.JournalLists.{live_quiet, history_quiet}
use Rattle.path_model.proofs.HonestJournals.{line_of, Kind, begins, ends, quiet, kind_of, honest_front, honest_last}
use Rattle.path_model.proofs.Progress.{legal_kept}

module _ (d : Declaration) (room : ℕ) (openings : List (List ℕ)) (wf : legal.Every WellFormed (paths_of d)) (ls : List Line) (h : IsHonest d room openings ls) where
  -- where no path forbids a start, it keeps the history legal; and the other way round
  pub free_legal : (a : OpId) → legal.NoneOf (legal.Forbids (admitted_history ls) a) (paths_of d) → legal.Legal (paths_of d) (admitted_history ls ++ Began a ∷ [])
  free_legal a f = let j = all_paths_judge (paths_of d) wf (admitted_history ls) (legal_kept d room openings wf ls h) in (j.starts a).0 ((j.none a).1 f)

  pub legal_free : (a : OpId) → legal.Legal (paths_of d) (admitted_history ls ++ Began a ∷ []) → legal.NoneOf (legal.Forbids (admitted_history ls) a) (paths_of d)
  legal_free a l = let j = all_paths_judge (paths_of d) wf (admitted_history ls) (legal_kept d room openings wf ls h) in (j.none a).0 ((j.starts a).1 l)

  nothing_own : live ls ≡ [] → (w : ℕ) (n : ActId) (a : Activation) → IsOwn ls w n a → ⊥
  nothing_own e w n a own = let f : activation_of n [] ≡ Some a = subst (λ x. activation_of n x ≡ Some a) e own.found in cc

  start_refused : IsFrozen d ls → (a : OpId) (reply : Reply) → OwedToStart (by_words d) d room ls a reply → IsAdmission reply → ⊥
  start_refused f a _ (OwedToStart.no_room l) k = k
  start_refused f a _ (OwedToStart.unknown l m) k = k
  start_refused f a _ (OwedToStart.blocked p l m x) k = k
  start_refused f a _ (OwedToStart.started n l m free e) k = f.nothing_startable a (record { declared = m; legal = free_legal a free })

  use_refused : IsFrozen d ls → (w : ℕ) (n : ActId) (verb : Verb) (reply : Reply) → OwedToUse d room openings ls w n verb reply → IsAdmission reply → ⊥
  use_refused f w n verb _ (OwedToUse.no_room l) k = k
  use_refused f w n verb _ (OwedToUse.stale l e) k = k
  use_refused f w n verb _ (OwedToUse.not_yours a l e o) k = k
  use_refused f w n verb _ (OwedToUse.refused a r l own e) k = nothing_own f.nothing_live w n a own
  use_refused f w n verb _ (OwedToUse.served a x after l own e) k = nothing_own f.nothing_live w n a own
  use_refused f w n verb _ (OwedToUse.failed a x after l own e) k = k

  finish_refused : IsFrozen d ls → (w : ℕ) (n : ActId) (reply : Reply) → OwedToFinish d room ls w n reply → IsAdmission reply → ⊥
  finish_refused f w n _ (OwedToFinish.finished a own) k = nothing_own f.nothing_live w n a own
  finish_refused f w n _ (OwedToFinish.no_room o l) k = k
  finish_refused f w n _ (OwedToFinish.stale l e) k = k
  finish_refused f w n _ (OwedToFinish.not_yours a l e o) k = k

  refused : IsFrozen d ls → (w : ℕ) (attempt : Attempt) (reply : Reply) → Owed d room openings ls w attempt reply → IsAdmission reply → ⊥
  refused f w (Start a) reply o k = start_refused f a reply o k
  refused f w (Apply n verb) reply o k = use_refused f w n verb reply o k
  refused f w (Finish n) reply o k = finish_refused f w n reply o k

  still_frozen : IsFrozen d ls → (w : ℕ) (attempt : Attempt) (reply : Reply) → Kind d room ls w attempt reply → IsFrozen d (ls ++ line_of w attempt reply ∷ [])
  still_frozen f _ _ _ (begins w a n r m free e) = absurd (f.nothing_startable a (record { declared = m; legal = free_legal a free }))
  still_frozen f _ _ _ (ends w n a own) = absurd (nothing_own f.nothing_live w n a own)
  still_frozen f _ _ _ (quiet w attempt reply r q) = record {
    nothing_live = live_quiet ls (line_of w attempt reply) q ∙ f.nothing_live;
    nothing_startable = λ a s. f.nothing_startable a (record { declared = s.declared; legal = subst (λ x. legal.Legal (paths_of d) (x ++ Began a ∷ [])) (history_quiet ls (line_of w attempt reply) q) s.legal });
  }

pub frozen_stays_frozen : FrozenStaysFrozen
frozen_stays_frozen d room openings wf ls [] h f = All-nil (λ l. IsAdmission l.reply → ⊥)
frozen_stays_frozen d room openings wf ls (l ∷ more) h f =
    let grown : IsHonest d room openings ((ls ++ l ∷ []) ++ more) = subst (IsHonest d room openings) (sym (append_assoc ls (l ∷ []) more)) h in
    let front = honest_front d room openings ls (l ∷ more) h in
    let last = honest_last d room openings ls l (honest_front d room openings (ls ++ l ∷ []) more grown) in
    let still = still_frozen d room openings wf ls front f l.worker l.attempt l.reply (kind_of d room openings ls l.worker l.attempt l.reply last.0 last.1) in
    All-cons (λ l. IsAdmission l.reply → ⊥) l more (refused d room openings wf ls front f l.worker l.attempt l.reply last.0) (frozen_stays_frozen d room openings wf (ls ++ l ∷ []) more grown still)

pub startables_may_start : StartablesMayStart
startables_may_start d room openings wf ls h w a n s r e = OwedToStart.started n r s.declared (legal_free d room openings wf ls h a s.legal) e

pub live_activations_may_finish : LiveActivationsMayFinish
live_activations_may_finish d room openings ls n a e = OwedToFinish.finished a (record { found = e; own = refl })

-- the history of lines in two parts
pub history-append : (before x y : List Line) → history_from before (x ++ y) ≡ history_from before x ++ history_from (before ++ x) y
history-append before [] y = ap (λ b. history_from b y) (sym (append-nil before))
history-append before (l ∷ x) y =
    ap (λ e. events_of_line before l.attempt l.reply ++ e) (history-append (before ++ l ∷ []) x y)
    ∙ sym (append_assoc (events_of_line before l.attempt l.reply) (history_from (before ++ l ∷ []) x) (history_from ((before ++ l ∷ []) ++ x) y))
    ∙ ap (λ b. (events_of_line before l.attempt l.reply ++ history_from (before ++ l ∷ []) x) ++ history_from b y) (append_assoc before (l ∷ []) x)

finish_in : (u v : List Event) → HasFinish (u ++ v) → HasFinish u ⊎ HasFinish v
finish_in [] v f = inr f
finish_in (Began a ∷ u) v f = finish_in u v f
finish_in (Ended a ∷ u) v f = inl tt

finish_of_line : (before : List Line) (attempt : Attempt) (reply : Reply) → HasFinish (events_of_line before attempt reply) → reply ≡ Finished
finish_of_line before (Start a) (Started n) f = absurd f
finish_of_line before (Start a) reply f = absurd f
finish_of_line before (Apply n verb) reply f = absurd f
finish_of_line before (Finish n) Finished f = refl
finish_of_line before (Finish n) reply f = absurd f

finish_line : (before ls : List Line) → HasFinish (history_from before ls) → HasFinishLine ls
finish_line before [] f = f
finish_line before (l ∷ ls) f = elim (finish_in (events_of_line before l.attempt l.reply) (history_from (before ++ l ∷ []) ls) f) [
  | inl k ↦ inl (finish_of_line before l.attempt l.reply k)
  | inr k ↦ inr (finish_line (before ++ l ∷ []) ls k)
]

blocked_first : (d : Declaration) (room : ℕ) (ls : List Line) (a : OpId) (p : PathId) → OwedToStart (by_words d) d room ls a (Blocked p) → legal.First (legal.Forbids (admitted_history ls) a) (paths_of d) p.0
blocked_first d room ls a p (OwedToStart.blocked q l k f) = f

started_free : (d : Declaration) (room : ℕ) (ls : List Line) (a : OpId) (n : ActId) → OwedToStart (by_words d) d room ls a (Started n) → legal.NoneOf (legal.Forbids (admitted_history ls) a) (paths_of d)
started_free d room ls a n (OwedToStart.started m l k f e) = f

pub finishes_come_between : FinishesComeBetween
finishes_come_between d room openings wf x y v w a p n h =
    finish_line (x ++ b ∷ []) y (finishes_unblock (trees d) wf (admitted_history x) (history_from (x ++ b ∷ []) y) a p.0 blocks legal_after)
  where
    b : Line
    b = line_of v (Start a) (Blocked p)

    s : Line
    s = line_of w (Start a) (Started n)

    all : IsHonest d room openings ((x ++ b ∷ y) ++ s ∷ [])
    all = subst (IsHonest d room openings) (sym (append_assoc x (b ∷ y) (s ∷ []))) h

    front : IsHonest d room openings x
    front = honest_front d room openings x (b ∷ (y ++ s ∷ [])) h

    most : IsHonest d room openings (x ++ b ∷ y)
    most = honest_front d room openings (x ++ b ∷ y) (s ∷ []) all

    upto : IsHonest d room openings (x ++ b ∷ [])
    upto = honest_front d room openings (x ++ b ∷ []) y (subst (IsHonest d room openings) (sym (append_assoc x (b ∷ []) y)) most)

    blocks : legal.First (Blocks a) (after (paths_of d) (admitted_history x)) p.0
    blocks = ((all_paths_judge (paths_of d) wf (admitted_history x) (legal_kept d room openings wf x front)).first a p.0).1 (blocked_first d room x a p (honest_last d room openings x b upto).0)

    legal_after : legal.Legal (paths_of d) ((admitted_history x ++ history_from (x ++ b ∷ []) y) ++ Began a ∷ [])
    legal_after = subst (λ e. legal.Legal (paths_of d) (e ++ Began a ∷ [])) (history-append [] x (b ∷ y)) (free_legal d room openings wf (x ++ b ∷ y) most a (started_free d room (x ++ b ∷ y) a n (honest_last d room openings (x ++ b ∷ y) s all).0))
