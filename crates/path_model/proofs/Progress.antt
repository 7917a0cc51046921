-- What honest journals keep: room, counts of what is in progress, and legal histories.
use Rattle.std.proofs.Common.{◌≡◌, ◌==◌, ◌≤◌, ◌+◌, ℕ, Bool, true, false, cond, List, [], ◌∷◌, ◌++◌, length, Some, refl, sym, ap, ◌∙◌, subst, arith, length-append}
use Rattle.path_model.specs.declared.ids.OpId.{OpId}
use Rattle.path_model.specs.declared.ids.ActId.{ActId}
use Rattle.path_model.specs.declared.history.Event.{Event}
use Rattle.path_model.specs.declared.history.Event.TheVariants.{Began, Ended}
use Rattle.path_model.specs.declared.journal.Attempt.{Attempt}
use Rattle.path_model.specs.declared.journal.Attempt.TheVariants.{Start, Finish}
use Rattle.path_model.specs.declared.journal.Reply.{Reply}
use Rattle.path_model.specs.declared.journal.Reply.TheVariants.{Started, Finished}
use Rattle.path_model.specs.declared.journal.Line.{Line}
use Rattle.path_model.specs.declared.journal.Activation.{Activation}
use Rattle.path_model.specs.Trees.{WellFormed}
use Rattle.path_model.specs.Histories.{begun, ended, InProgress}
use Rattle.path_model.specs.Projection.{LegalOn}
use Rattle.path_model.specs.Legal.{Every, Legal}
use Rattle.path_model.specs.Declarations.{Declaration, paths_of}
use Rattle.path_model.specs.Journals.{started_by, starts, begun_in, live, activation_of, ended_events, live_count, admitted_history}
use Rattle.path_model.specs.Owed.{taken}
use Rattle.path_model.specs.Honest.{IsHonest, EachHonestJournalIsLegal, EachHonestJournalHasRoom, LiveActivationsAreInProgress}
use Rattle.path_model.proofs.AllPaths.{every_map, all_paths_judge}
use Rattle.path_model.proofs.JournalLists.{history_more, live_quiet, history_quiet}
use Rattle.path_model.proofs.Lookups.{left_out, some_found, count_more}
use Rattle.path_model.proofs.HonestJournals.{line_of, Kind, begins, ends, quiet, kind_of, honest_induction, live_numbered, live_started, live_finished, live_found}

pub begun-append : (a : OpId) (x y : List Event) → begun a (x ++ y) ≡ begun a x + begun a y
begun-append a [] y = omega arith
begun-append a (Began b ∷ x) y = go (b.0 == a.0) (begun-append a x y)
  where
    go : (t : Bool) → begun a (x ++ y) ≡ begun a x + begun a y → cond t (begun a (x ++ y) + 1) (begun a (x ++ y)) ≡ cond t (begun a x + 1) (begun a x) + begun a y
    go true h = omega (arith, h)
    go false h = h
begun-append a (Ended b ∷ x) y = begun-append a x y

pub ended-append : (a : OpId) (x y : List Event) → ended a (x ++ y) ≡ ended a x + ended a y
ended-append a [] y = omega arith
ended-append a (Ended b ∷ x) y = go (b.0 == a.0) (ended-append a x y)
  where
    go : (t : Bool) → ended a (x ++ y) ≡ ended a x + ended a y → cond t (ended a (x ++ y) + 1) (ended a (x ++ y)) ≡ cond t (ended a x + 1) (ended a x) + ended a y
    go true h = omega (arith, h)
    go false h = h
ended-append a (Began b ∷ x) y = ended-append a x y

-- a finish ends the operation of the activation
pub history_finished : (ls : List Line) (w : ℕ) (n : ActId) (a : Activation) → activation_of n (live ls) ≡ Some a
    → admitted_history (ls ++ line_of w (Finish n) Finished ∷ []) ≡ admitted_history ls ++ Ended a.op ∷ []
history_finished ls w n a e = history_more ls (line_of w (Finish n) Finished) ∙ ap (λ x. admitted_history ls ++ ended_events x) (live_found ls n a e)

-- a start begins its operation
pub history_started : (ls : List Line) (w : ℕ) (a : OpId) (n : ActId) → admitted_history (ls ++ line_of w (Start a) (Started n) ∷ []) ≡ admitted_history ls ++ Began a ∷ []
history_started ls w a n = history_more ls (line_of w (Start a) (Started n))

started_small : (w : ℕ) (attempt : Attempt) (reply : Reply) → length (started_by w attempt reply) ≤ 1
started_small w (Start a) (Started n) = omega arith
started_small w (Start a) reply = omega arith
started_small w attempt reply = omega arith

-- no more starts than lines
pub begun_lines : (ls : List Line) → begun_in ls ≤ length ls
begun_lines [] = omega arith
begun_lines (l ∷ ls) =
    let k = begun_lines ls in
    let m = length-append (started_by l.worker l.attempt l.reply) (starts ls) in
    let s = started_small l.worker l.attempt l.reply in
    omega (arith, k, m, s)

abbrev Counted : List Line → Type 0
Counted ls = (a : OpId) → live_count a (live ls) + ended a (admitted_history ls) ≡ begun a (admitted_history ls)

module _ (d : Declaration) (room : ℕ) (openings : List (List ℕ)) (ls : List Line) (h : IsHonest d room openings ls) where
  counted_started : (w : ℕ) (a : OpId) (n : ActId) → n.0 ≡ begun_in ls → Counted ls → Counted (ls ++ line_of w (Start a) (Started n) ∷ [])
  counted_started w a n e c b =
      let x : Activation = record { act = n; worker = w; op = a } in
      let k = c b in
      let l = ap (live_count b) (live_started d room openings ls h w a n e) in
      let m = count_more b (live ls) x in
      let p = ap (begun b) (history_started ls w a n) in
      let q = ap (ended b) (history_started ls w a n) in
      let r = begun-append b (admitted_history ls) (Began a ∷ []) in
      let s = ended-append b (admitted_history ls) (Began a ∷ []) in
      omega (arith, k, l, m, p, q, r, s)

  counted_finished : (w : ℕ) (n : ActId) (x : Activation) → activation_of n (live ls) ≡ Some x → Counted ls → Counted (ls ++ line_of w (Finish n) Finished ∷ [])
  counted_finished w n x e c b =
      let k = c b in
      let l = ap (live_count b) (live_finished ls w n) in
      let m = (left_out n 0 (live ls) (begun_in ls) x (live_numbered d room openings ls h) e).counts b in
      let p = ap (begun b) (history_finished ls w n x e) in
      let q = ap (ended b) (history_finished ls w n x e) in
      let r = begun-append b (admitted_history ls) (Ended x.op ∷ []) in
      let s = ended-append b (admitted_history ls) (Ended x.op ∷ []) in
      omega (arith, k, l, m, p, q, r, s)

  counted_step : (w : ℕ) (attempt : Attempt) (reply : Reply) → Kind d room ls w attempt reply → Counted ls → Counted (ls ++ line_of w attempt reply ∷ [])
  counted_step _ _ _ (begins w a n r k f e) c = counted_started w a n e c
  counted_step _ _ _ (ends w n x own) c = counted_finished w n x own.found c
  counted_step _ _ _ (quiet w attempt reply r q) c = λ b.
      let k = c b in
      let l = ap (live_count b) (live_quiet ls (line_of w attempt reply) q) in
      let p = ap (begun b) (history_quiet ls (line_of w attempt reply) q) in
      let s = ap (ended b) (history_quiet ls (line_of w attempt reply) q) in
      omega (arith, k, l, p, s)

  room_step : (w : ℕ) (attempt : Attempt) (reply : Reply) → Kind d room ls w attempt reply → taken ls ≤ room → taken (ls ++ line_of w attempt reply ∷ []) ≤ room
  room_step _ _ _ (begins w a n r k f e) c =
      let x : Activation = record { act = n; worker = w; op = a } in
      let l = ap length (live_started d room openings ls h w a n e) in
      let m = length-append (live ls) (x ∷ []) in
      let s = length-append ls (line_of w (Start a) (Started n) ∷ []) in
      omega (arith, r, l, m, s)
  room_step _ _ _ (ends w n x own) c =
      let l = ap length (live_finished ls w n) in
      let m = (left_out n 0 (live ls) (begun_in ls) x (live_numbered d room openings ls h) own.found).fewer in
      let s = length-append ls (line_of w (Finish n) Finished ∷ []) in
      omega (arith, c, l, m, s)
  room_step _ _ _ (quiet w attempt reply r q) c =
      let l = ap length (live_quiet ls (line_of w attempt reply) q) in
      let s = length-append ls (line_of w attempt reply ∷ []) in
      omega (arith, r, l, s)

pub progress_counts : LiveActivationsAreInProgress
progress_counts d room openings ls h = honest_induction d room openings Counted (λ a. omega arith)
    (λ ls l h c owed n. counted_step d room openings ls h l.worker l.attempt l.reply (kind_of d room openings ls l.worker l.attempt l.reply owed n) c) ls h

-- what is live is in progress
pub live_in_progress : (d : Declaration) (room : ℕ) (openings : List (List ℕ)) (ls : List Line) → IsHonest d room openings ls
    → (n : ActId) (x : Activation) → activation_of n (live ls) ≡ Some x → InProgress x.op (admitted_history ls)
live_in_progress d room openings ls h n x e =
    let k = progress_counts d room openings ls h x.op in
    let m = some_found n 0 (live ls) (begun_in ls) x (live_numbered d room openings ls h) e in
    omega (arith, k, m)

pub room_kept : EachHonestJournalHasRoom
room_kept d room openings ls h = honest_induction d room openings (λ ls. taken ls ≤ room) (omega arith)
    (λ ls l h c owed n. room_step d room openings ls h l.worker l.attempt l.reply (kind_of d room openings ls l.worker l.attempt l.reply owed n) c) ls h

module _ (d : Declaration) (room : ℕ) (openings : List (List ℕ)) (wf : Every WellFormed (paths_of d)) where
  legal_step : (ls : List Line) → IsHonest d room openings ls → (w : ℕ) (attempt : Attempt) (reply : Reply) → Kind d room ls w attempt reply → Legal (paths_of d) (admitted_history ls)
      → Legal (paths_of d) (admitted_history (ls ++ line_of w attempt reply ∷ []))
  legal_step ls h _ _ _ (begins w a n r k f e) l =
      let j = all_paths_judge (paths_of d) wf (admitted_history ls) l in
      subst (Legal (paths_of d)) (sym (history_started ls w a n)) ((j.starts a).0 ((j.none a).1 f))
  legal_step ls h _ _ _ (ends w n x own) l =
      let j = all_paths_judge (paths_of d) wf (admitted_history ls) l in
      subst (Legal (paths_of d)) (sym (history_finished ls w n x own.found)) (j.finishes x.op (live_in_progress d room openings ls h n x own.found))
  legal_step ls h _ _ _ (quiet w attempt reply r q) l = subst (Legal (paths_of d)) (sym (history_quiet ls (line_of w attempt reply) q)) l

pub legal_kept : EachHonestJournalIsLegal
legal_kept d room openings wf ls h = honest_induction d room openings (λ ls. Legal (paths_of d) (admitted_history ls)) (every_map {P = WellFormed} {Q = λ s. LegalOn s []} (λ s k. ([], ([], refl))) (paths_of d) wf)
    (λ ls l h c owed n. legal_step d room openings wf ls h l.worker l.attempt l.reply (kind_of d room openings ls l.worker l.attempt l.reply owed n) c) ls h
