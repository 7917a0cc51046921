-- A stuck resource stays stuck, whatever is admitted at the others: their paths name none of its operations.
use Rattle.std.proofs.Common.{◌≡◌, ◌≢◌, ◌==◌, ℕ, ◌+◌, ◌<◌, length, Bool, true, false, cond, List, [], ◌∷◌, ◌++◌, All, Some, refl, sym, ap, ◌∙◌, subst, append_assoc}
use Rattle.std.specs.Prelude.{map}
use Rattle.std.proofs.lemmas.List.Elements.{All-head, All-tail, All-same, All-push, All-filter}
use Rattle.path_model.specs.declared.ids.OpId.{OpId}
use Rattle.path_model.specs.declared.ids.ActId.{ActId}
use Rattle.path_model.specs.declared.history.Event.{Event}
use Rattle.path_model.specs.declared.history.Event.TheVariants.{Began, Ended}
use Rattle.path_model.specs.declared.journal.Verb.{Verb}
use Rattle.path_model.specs.declared.journal.Attempt.{Attempt}
use Rattle.path_model.specs.declared.journal.Attempt.TheVariants.{Start, Apply, Finish}
use Rattle.path_model.specs.declared.journal.Reply.{Reply}
use Rattle.path_model.specs.declared.journal.Line.{Line}
use Rattle.path_model.specs.declared.journal.Activation.{Activation}
use Rattle.path_model.specs.Trees.{Tree, Names, WellFormed, has}
use Rattle.path_model.specs.Histories.{op_of}
use Rattle.path_model.specs.Behaviour.{Behaves}
use Rattle.path_model.specs.Projection.{projection, LegalOn}
use Rattle.path_model.specs.Legal as legal
use Rattle.path_model.specs.Declarations.{Declaration, Path, paths_of, resource_of}
use Rattle.path_model.specs.Journals.{live, activation_of, without, admitted_history}
use Rattle.path_model.specs.Owed.{by_words, IsOwn, OwedToStart, OwedToUse, OwedToFinish, Owed}
use Rattle.path_model.specs.Honest.{IsHonest}
use Rattle.path_model.specs.Asked.{its_resource}
use Rattle.path_model.specs.Stuck.{IsStartable, IsAdmission, PathsKeepApart, IsStuckAt, resource_for, StuckStaysStuck}
use Rattle.path_model.proofs.Upward.{has_names, names_has}
use Rattle.path_model.proofs.Labelled.{projection_append}
use Rattle.path_model.proofs.AmongOthers.{project_other}
use Rattle.path_model.proofs.AllPaths.{every_map}
use Rattle.path_model.proofs.JournalLists.{live_quiet, history_quiet}
use Rattle.path_model.proofs.HonestJournals.{line_of, Kind, begins, ends, quiet, kind_of, honest_front, honest_last, live_started, live_finished}
use Rattle.path_model.proofs.Progress.{legal_kept, history_started, history_finished}
use Rattle.path_model.proofs.StuckStates.{free_legal}

true_false : true ≡ false → ⊥
true_false z = cc

-- what holds of all activations holds of the one that is found
found_keeps : (P : Activation → Type 0) (n : ActId) (xs : List Activation) (a : Activation) → All P xs → activation_of n xs ≡ Some a → P a
found_keeps P n [] a k e = absurd (cc)
found_keeps P n (x ∷ xs) a k e = go (x.act.0 == n.0) e (found_keeps P n xs a (All-tail P x xs k))
  where
    go : (b : Bool) → cond b (Some x) (activation_of n xs) ≡ Some a → (activation_of n xs ≡ Some a → P a) → P a
    go true s rest = let same : x ≡ a = cc in subst P same (All-head P x xs k)
    go false s rest = rest s

-- two operations that a path names are of one resource
one_resource : (d : Declaration) (ps : List Path) (n : ℕ) → All (λ p. (a : OpId) → Names p.tree a → resource_of d a.0 ≡ p.resource) ps
    → legal.Every (λ s. (a b : OpId) → Names s a → Names s b → resource_of d a.0 ≡ resource_of d b.0) (legal.numbered n (map (λ p. p.tree) ps))
one_resource d [] n k = tt
one_resource d (p ∷ ps) n k =
    let first = All-head (λ (q : Path). (a : OpId) → Names q.tree a → resource_of d a.0 ≡ q.resource) p ps k in (
      λ a b x y. first a x ∙ sym (first b y),
      one_resource d ps (n + 1) (All-tail (λ (q : Path). (a : OpId) → Names q.tree a → resource_of d a.0 ≡ q.resource) p ps k),
    )

-- what may start after an event of another resource could start before it
before_event : (s : Tree) (h : List Event) (e : Event) (b : OpId) → (Names s (op_of e) → Names s b → ⊥) → LegalOn s h → LegalOn s ((h ++ e ∷ []) ++ Began b ∷ []) → LegalOn s (h ++ Began b ∷ [])
before_event s h e b apart now later = go (has s (op_of e)) refl
  where
    go : (t : Bool) → has s (op_of e) ≡ t → LegalOn s (h ++ Began b ∷ [])
    go true k = subst (Behaves s) (sym (project_other s h (Began b) (λ n. apart (names_has s (op_of e) k) n))) now
    go false k =
        subst (Behaves s)
        (projection_append s (h ++ e ∷ []) (Began b ∷ []) ∙ ap (λ u. u ++ projection s (Began b ∷ [])) (project_other s h e (λ n. true_false (sym (has_names s (op_of e) n) ∙ k))) ∙ sym (projection_append s h (Began b ∷ [])))
        later

all_before : (xs : List (ℕ × Tree)) (h : List Event) (e : Event) (b : OpId) → legal.Every (λ s. Names s (op_of e) → Names s b → ⊥) xs → legal.Legal xs h → legal.Legal xs ((h ++ e ∷ []) ++ Began b ∷ [])
    → legal.Legal xs (h ++ Began b ∷ [])
all_before [] h e b apart now later = tt
all_before (x ∷ xs) h e b apart now later = (before_event x.1 h e b apart.0 now.0 later.0, all_before xs h e b apart.1 now.1 later.1)

module _ (d : Declaration) (room : ℕ) (openings : List (List ℕ)) (wf : legal.Every WellFormed (paths_of d)) (apart : PathsKeepApart d) (r : ℕ) (ls : List Line) (h : IsHonest d room openings ls) (f : IsStuckAt d ls r) where
  own_elsewhere : (w : ℕ) (n : ActId) (a : Activation) → IsOwn ls w n a → resource_of d a.op.0 ≢ r
  own_elsewhere w n a own = found_keeps (λ (x : Activation). resource_of d x.op.0 ≢ r) n (live ls) a f.nothing_live own.found

  start_elsewhere : (a : OpId) → a.0 < length d.operations → legal.NoneOf (legal.Forbids (admitted_history ls) a) (paths_of d) → resource_of d a.0 ≢ r
  start_elsewhere a m free here = f.nothing_startable a here (record { declared = m; legal = free_legal d room openings wf ls h a free })

  none_here : (e : Event) → resource_of d (op_of e).0 ≢ r → (more : List Line) → admitted_history more ≡ admitted_history ls ++ e ∷ [] → (b : OpId) → resource_of d b.0 ≡ r → IsStartable d more b → ⊥
  none_here e other more same b here s = f.nothing_startable b here (record {
    declared = s.declared;
    legal = all_before (paths_of d) (admitted_history ls) e b
        (every_map {P = λ t. (a c : OpId) → Names t a → Names t c → resource_of d a.0 ≡ resource_of d c.0} {Q = λ t. Names t (op_of e) → Names t b → ⊥} (λ t one x y. other (one (op_of e) b x y ∙ here)) (paths_of d) (one_resource d d.paths 0 apart))
        (legal_kept d room openings wf ls h) (subst (λ x. legal.Legal (paths_of d) (x ++ Began b ∷ [])) same s.legal);
  })

  still_stuck : (w : ℕ) (attempt : Attempt) (reply : Reply) → Kind d room ls w attempt reply → IsStuckAt d (ls ++ line_of w attempt reply ∷ []) r
  still_stuck _ _ _ (begins w a n m declared free e) =
      let other : resource_of d a.0 ≢ r = start_elsewhere a declared free in
      let x : Activation = record { act = n; worker = w; op = a } in
      record {
        nothing_live = All-same (λ (y : Activation). resource_of d y.op.0 ≢ r) _ (live ls ++ x ∷ []) (live_started d room openings ls h w a n e) (All-push (λ (y : Activation). resource_of d y.op.0 ≢ r) (live ls) x f.nothing_live other);
        nothing_startable = none_here (Began a) other _ (history_started ls w a n);
      }
  still_stuck _ _ _ (ends w n a own) = record {
    nothing_live = All-same (λ (y : Activation). resource_of d y.op.0 ≢ r) _ (without n (live ls)) (live_finished ls w n) (All-filter _ (λ (y : Activation). resource_of d y.op.0 ≢ r) (live ls) f.nothing_live);
    nothing_startable = none_here (Ended a.op) (own_elsewhere w n a own) _ (history_finished ls w n a own.found);
  }
  still_stuck _ _ _ (quiet w attempt reply m q) = record {
    nothing_live = All-same (λ (y : Activation). resource_of d y.op.0 ≢ r) _ (live ls) (live_quiet ls (line_of w attempt reply) q) f.nothing_live;
    nothing_startable = λ a here s. f.nothing_startable a here (record { declared = s.declared; legal = subst (λ x. legal.Legal (paths_of d) (x ++ Began a ∷ [])) (history_quiet ls (line_of w attempt reply) q) s.legal });
  }

  own_at : (w : ℕ) (n : ActId) (a : Activation) → IsOwn ls w n a → its_resource d (activation_of n (live ls)) ≡ Some r → ⊥
  own_at w n a own e =
      let at : Some (resource_of d a.op.0) ≡ Some r = subst (λ o. its_resource d o ≡ Some r) own.found e in
      let here : resource_of d a.op.0 ≡ r = cc in
      own_elsewhere w n a own here

  start_refused : (a : OpId) (reply : Reply) → OwedToStart (by_words d) d room ls a reply → IsAdmission reply → Some (resource_of d a.0) ≡ Some r → ⊥
  start_refused a _ (OwedToStart.no_room l) k e = k
  start_refused a _ (OwedToStart.unknown l m) k e = k
  start_refused a _ (OwedToStart.blocked p l m x) k e = k
  start_refused a _ (OwedToStart.started n l m free c) k e = let here : resource_of d a.0 ≡ r = cc in start_elsewhere a m free here

  use_refused : (w : ℕ) (n : ActId) (verb : Verb) (reply : Reply) → OwedToUse d room openings ls w n verb reply → IsAdmission reply → its_resource d (activation_of n (live ls)) ≡ Some r → ⊥
  use_refused w n verb _ (OwedToUse.no_room l) k e = k
  use_refused w n verb _ (OwedToUse.stale l x) k e = k
  use_refused w n verb _ (OwedToUse.not_yours a l x o) k e = k
  use_refused w n verb _ (OwedToUse.refused a x l own y) k e = own_at w n a own e
  use_refused w n verb _ (OwedToUse.served a x after l own y) k e = own_at w n a own e
  use_refused w n verb _ (OwedToUse.failed a x after l own y) k e = k

  finish_refused : (w : ℕ) (n : ActId) (reply : Reply) → OwedToFinish d room ls w n reply → IsAdmission reply → its_resource d (activation_of n (live ls)) ≡ Some r → ⊥
  finish_refused w n _ (OwedToFinish.finished a own) k e = own_at w n a own e
  finish_refused w n _ (OwedToFinish.no_room o l) k e = k
  finish_refused w n _ (OwedToFinish.stale l x) k e = k
  finish_refused w n _ (OwedToFinish.not_yours a l x o) k e = k

  refused : (w : ℕ) (attempt : Attempt) (reply : Reply) → Owed d room openings ls w attempt reply → IsAdmission reply → resource_for d ls attempt ≡ Some r → ⊥
  refused w (Start a) reply o k e = start_refused a reply o k e
  refused w (Apply n verb) reply o k e = use_refused w n verb reply o k e
  refused w (Finish n) reply o k e = finish_refused w n reply o k e

pub stuck_stays_stuck : StuckStaysStuck
stuck_stays_stuck d room openings wf apart r ls [] h f = tt
stuck_stays_stuck d room openings wf apart r ls (l ∷ more) h f =
    let grown : IsHonest d room openings ((ls ++ l ∷ []) ++ more) = subst (IsHonest d room openings) (sym (append_assoc ls (l ∷ []) more)) h in
    let front = honest_front d room openings ls (l ∷ more) h in
    let last = honest_last d room openings ls l (honest_front d room openings (ls ++ l ∷ []) more grown) in
    let still = still_stuck d room openings wf apart r ls front f l.worker l.attempt l.reply (kind_of d room openings ls l.worker l.attempt l.reply last.0 last.1) in
    (λ k e. refused d room openings wf apart r ls front f l.worker l.attempt l.reply last.0 k e, stuck_stays_stuck d room openings wf apart r (ls ++ l ∷ []) more grown still)
