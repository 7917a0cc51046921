-- What was blocked stays so while nothing is finished.
use Rattle.std.proofs.Common.{◌≡◌, ◌≢◌, inl, inr, ℕ, ◌≤◌, List, [], ◌∷◌, ◌++◌, refl, sym, ap, ◌∙◌, subst, append_assoc, append-nil}
use Rattle.std.specs.Prelude.{Some}
use Rattle.path_model.specs.declared.ids.OpId.{OpId}
use Rattle.path_model.specs.declared.ids.PathId.{PathId}
use Rattle.path_model.specs.declared.history.Event.{Event}
use Rattle.path_model.specs.declared.history.Event.TheVariants.{Began}
use Rattle.path_model.specs.declared.journal.Attempt.{Attempt}
use Rattle.path_model.specs.declared.journal.Attempt.TheVariants.{Start, Apply, Finish}
use Rattle.path_model.specs.declared.journal.Reply.{Reply}
use Rattle.path_model.specs.declared.journal.Reply.TheVariants.{Started, Blocked, Finished}
use Rattle.path_model.specs.declared.journal.Line.{Line}
use Rattle.path_model.specs.Histories.{starts_of}
use Rattle.path_model.specs.Trees.{WellFormed}
use Rattle.path_model.specs.Legal as legal
use Rattle.path_model.specs.AllPaths.{after, Blocks}
use Rattle.path_model.specs.Declarations.{Declaration, trees, paths_of}
use Rattle.path_model.specs.Journals.{admitted_history}
use Rattle.path_model.specs.Owed.{Judge, by_words, OwedBy, OwedToStart}
use Rattle.path_model.specs.Honest.{IsHonestFrom, IsHonest}
use Rattle.path_model.specs.Stuck.{HasFinishLine, blocked_line}
use Rattle.path_model.proofs.CallerLemmas.{all_paths_judge, starts_only_block, fronts_are_honest, each_honest_journal_is_legal, history_quiet, history_started, quiet_use, quiet_reply, line_of}

-- each line of an honest journal is owed
owed_at : (judge : Judge) (d : Declaration) (room : ℕ) (openings : List (List ℕ)) (before x : List Line) (l : Line) (rest : List Line) → IsHonestFrom judge d room openings before (x ++ l ∷ rest)
    → OwedBy judge d room openings (before ++ x) l.worker l.attempt l.reply
owed_at judge d room openings before [] l rest h = subst (λ (b : List Line). OwedBy judge d room openings b l.worker l.attempt l.reply) (sym (append-nil before)) h.0
owed_at judge d room openings before (k ∷ x) l rest h =
    subst (λ (b : List Line). OwedBy judge d room openings b l.worker l.attempt l.reply) (append_assoc before (k ∷ []) x) (owed_at judge d room openings (before ++ k ∷ []) x l rest h.2)

-- a line that finishes nothing adds a start to the history, or nothing
line_adds : (ls : List Line) (w : ℕ) (attempt : Attempt) (reply : Reply) → reply ≢ Finished → (u : List OpId) × (admitted_history (ls ++ line_of w attempt reply ∷ []) ≡ admitted_history ls ++ starts_of u)
line_adds ls w (Start a) (Started n) f = (a ∷ [], history_started ls w a n)
line_adds ls w (Apply n verb) reply f = ([], history_quiet ls (line_of w (Apply n verb) reply) (quiet_use w n verb reply) ∙ sym (append-nil (admitted_history ls)))
line_adds ls w (Finish n) (Started m) f = ([], history_quiet ls (line_of w (Finish n) (Started m)) (record { starts_none = refl; finishes_none = λ k. refl; no_events = λ before. refl }) ∙ sym (append-nil (admitted_history ls)))
line_adds ls w attempt reply f = ([], history_quiet ls (line_of w attempt reply) (quiet_reply w attempt reply (λ n e. cc) f) ∙ sym (append-nil (admitted_history ls)))

starts_both : (u v : List OpId) → starts_of (u ++ v) ≡ starts_of u ++ starts_of v
starts_both [] v = refl
starts_both (a ∷ u) v = ap (λ (es : List Event). Began a ∷ es) (starts_both u v)

-- and so do several
lines_add : (ls y : List Line) → (HasFinishLine y → ⊥) → (u : List OpId) × (admitted_history (ls ++ y) ≡ admitted_history ls ++ starts_of u)
lines_add ls [] none = ([], ap admitted_history (append-nil ls) ∙ sym (append-nil (admitted_history ls)))
lines_add ls (l ∷ y) none =
    let first = line_adds ls l.worker l.attempt l.reply (λ e. none (inl e)) in
    let rest = lines_add (ls ++ l ∷ []) y (λ f. none (inr f)) in (
      first.0 ++ rest.0,
      ap admitted_history (sym (append_assoc ls (l ∷ []) y)) ∙ rest.1 ∙ ap (λ (h : List Event). h ++ starts_of rest.0) first.1
          ∙ append_assoc (admitted_history ls) (starts_of first.0) (starts_of rest.0) ∙ ap (λ (es : List Event). admitted_history ls ++ es) (sym (starts_both first.0 rest.0)),
    )

blocked_first : (d : Declaration) (room : ℕ) (ls : List Line) (a : OpId) (p : PathId) → OwedToStart (by_words d) d room ls a (Blocked p) → legal.First (legal.Forbids (admitted_history ls) a) (paths_of d) p.0
blocked_first d room ls a p (OwedToStart.blocked q l k f) = f

-- a blocked start is blocked after the whole journal, where no line after it is of an admitted finish
pub still_blocked : (d : Declaration) (room : ℕ) (openings : List (List ℕ)) → legal.Every WellFormed (paths_of d) → (x y : List Line) (w : ℕ) (a : OpId) (p : PathId)
    → IsHonest d room openings (x ++ blocked_line w a p ∷ y) → (HasFinishLine y → ⊥) → (q : PathId) × by_words d (admitted_history (x ++ blocked_line w a p ∷ y)) a (Some q)
still_blocked d room openings wf x y w a p h none = (record { 0 = last.0 }, back)
  where
    b : Line
    b = blocked_line w a p

    all : List Line
    all = x ++ b ∷ y

    front : IsHonest d room openings x
    front = fronts_are_honest d room openings x (b ∷ y) h

    adds : (u : List OpId) × (admitted_history all ≡ admitted_history x ++ starts_of u)
    adds = lines_add x (b ∷ y) (λ f. elim f [
      | inl e ↦ cc
      | inr k ↦ none k
    ])

    blocks : legal.First (Blocks a) (after (paths_of d) (admitted_history x)) p.0
    blocks = ((all_paths_judge (paths_of d) wf (admitted_history x) (each_honest_journal_is_legal d room openings wf x front)).first a p.0).1
        (blocked_first d room x a p (owed_at (by_words d) d room openings [] x b y h))

    lawful : legal.Legal (paths_of d) (admitted_history all)
    lawful = each_honest_journal_is_legal d room openings wf all h

    last : (q : ℕ) × legal.First (Blocks a) (after (paths_of d) (admitted_history x ++ starts_of adds.0)) q × (q ≤ p.0)
    last = starts_only_block (trees d) wf (admitted_history x) adds.0 (subst (λ (e : List Event). legal.Legal (paths_of d) e) adds.1 lawful) a p.0 blocks

    back : legal.First (legal.Forbids (admitted_history all) a) (paths_of d) last.0
    back = ((all_paths_judge (paths_of d) wf (admitted_history all) lawful).first a last.0).0
        (subst (λ (e : List Event). legal.First (Blocks a) (after (paths_of d) e) last.0) (sym adds.1) last.1)
