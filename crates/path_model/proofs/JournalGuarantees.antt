-- What paths guarantee of journals, in words of live activations.
use Rattle.std.proofs.Common.{◌≡◌, ◌==◌, ◌<◌, ◌≤◌, ◌+◌, ◌↔◌, ℕ, zero, suc, Bool, true, false, not, cond, if◌then◌else◌, filter, List, [], ◌∷◌, ◌++◌, length, refl, sym, ap, ◌∙◌, subst, inl, inr, arith, length-append, append-nil, append_assoc, ◌⊎◌}
use Rattle.std.proofs.lemmas.Bool.{cases_lt, lt-leb, eq-eqb, ne_eqb, cond-true, cond-false}
use Rattle.path_model.specs.declared.ids.OpId.{OpId}
use Rattle.path_model.specs.declared.ids.ActId.{ActId}
use Rattle.path_model.specs.declared.ids.PathId.{PathId}
use Rattle.path_model.specs.declared.journal.Verb.{Verb}
use Rattle.path_model.specs.declared.journal.Attempt.{Attempt}
use Rattle.path_model.specs.declared.journal.Attempt.TheVariants.{Start, Apply, Finish}
use Rattle.path_model.specs.declared.journal.Reply.{Reply}
use Rattle.path_model.specs.declared.journal.Reply.TheVariants.{Started, Blocked, UnknownOperation, NoRoom, Finished, Stale, NotYours}
use Rattle.path_model.specs.declared.journal.Line.{Line}
use Rattle.path_model.specs.declared.journal.Activation.{Activation}
use Rattle.path_model.specs.Trees.{Tree, op, seq, alt, burst, WellFormed}
use Rattle.path_model.specs.Projection.{LegalOn}
use Rattle.path_model.specs.Legal.{numbered, Every, First, NoneOf, Legal, Forbids}
use Rattle.path_model.specs.Executions.{begins_within, ends_within, TreeInProgress}
use Rattle.path_model.specs.Declarations.{Declaration, trees, paths_of}
use Rattle.path_model.specs.Journals as journals
use Rattle.path_model.specs.Journals.{starts, is_finished_in, live, live_count, admitted_history, with_line}
use Rattle.path_model.specs.Owed.{by_words, IsOwn, OwedToFinish, OwedToStart, Owed, taken}
use Rattle.path_model.specs.Honest.{IsHonest}
use Rattle.path_model.specs.Segments.{joined, room_behind, has_no_number, OwedUnless}
use Rattle.path_model.specs.JournalGuarantees.{live_after, RoomyStartsAreJudged, RoomyStartsAreJudgedBehind, EachReplyTellsWhatIsLive, EachReplyTellsWhatIsLiveBehind, live_in, live_among, LiveActivationsAreCounted, OwnActivationsFinish, Follows, Opposes, EachJournalFollowsItsPaths, SegmentsFollowTheirPaths, LiveIsInProgress, LiveCountsAddUp, LiveBoundsHold, OneIsLiveOutsideBraces, LivePartsOutsideBracesAreAlone, EachBlockHasAReason, EachBlockHasAReasonBehind, UnopposedStartsAreAdmitted, UnopposedStartsAreAdmittedBehind}
use Rattle.path_model.proofs.AllPaths.{every_map, every_both, first_same}
use Rattle.path_model.proofs.JournalLists.{starts_more, starts_quiet, live_quiet, quiet_use, quiet_reply}
use Rattle.path_model.proofs.HonestJournals.{line_of, Kind, begins, ends, quiet, kind_of, honest_induction, live_started, live_finished}
use Rattle.path_model.proofs.Progress.{legal_kept, progress_counts}
use Rattle.path_model.proofs.Segments.{room_behind_is, owed_numbered, segments_are_one_journal}
use Rattle.path_model.proofs.Guarantees.{path_keeps, one_each, part_keeps, outside_part, bounds_hold, each_part_outside_braces_is_alone}
use Rattle.path_model.proofs.Refusals.{each_refusal_has_a_reason}

-- journals of a declaration with these trees
module _ (d : Declaration) (room : ℕ) (openings : List (List ℕ)) (ts : List Tree) (e : trees d ≡ ts) (formed : Every WellFormed (numbered 0 ts)) (ls : List Line) (h : IsHonest d room openings ls) where
  legal_trees : Legal (numbered 0 ts) (admitted_history ls)
  legal_trees =
      let wf = subst (λ ts. Every WellFormed (numbered 0 ts)) (sym e) formed in
      subst (λ ts. Legal (numbered 0 ts) (admitted_history ls)) e (legal_kept d room openings wf ls h)

  follows_trees : Every (λ t. Follows t ls) (numbered 0 ts)
  follows_trees = every_both {P = WellFormed} {Q = λ t. LegalOn t (admitted_history ls)} {R = λ t. Follows t ls}
      (λ t f l. record { formed = f; legal = l; counts = λ a. omega (arith, progress_counts d room openings ls h a) }) (numbered 0 ts) formed legal_trees

  reasons : (a : OpId) → Every (λ t. Forbids (admitted_history ls) a t ↔ Opposes (admitted_history ls) a t) (numbered 0 ts)
  reasons a = every_map {P = λ t. Follows t ls} {Q = λ t. Forbids (admitted_history ls) a t ↔ Opposes (admitted_history ls) a t}
      (λ t f. each_refusal_has_a_reason t f.formed (admitted_history ls) f.legal a) (numbered 0 ts) follows_trees

  first_reason : (a : OpId) (p : ℕ) → First (Forbids (admitted_history ls) a) (paths_of d) p → First (Opposes (admitted_history ls) a) (numbered 0 ts) p
  first_reason a p f = first_same (Forbids (admitted_history ls) a) (Opposes (admitted_history ls) a) (numbered 0 ts) (reasons a) p
      (subst (λ ts. First (Forbids (admitted_history ls) a) (numbered 0 ts) p) e f)

  not_first : (a : OpId) (xs : List (ℕ × Tree)) (p : ℕ) → NoneOf (Opposes (admitted_history ls) a) xs → First (Opposes (admitted_history ls) a) xs p → ⊥
  not_first a [] p n f = f
  not_first a (x ∷ xs) p n (inl f) = n.0 f.0
  not_first a (x ∷ xs) p n (inr f) = not_first a xs p n.1 f.1

  block_reason : (a : OpId) (p : PathId) → OwedToStart (by_words d) d room ls a (Blocked p) → First (Opposes (admitted_history ls) a) (numbered 0 ts) p.0
  block_reason a p (OwedToStart.blocked _ l k f) = first_reason a p.0 f

  unopposed_admitted : (a : OpId) → a.0 < length d.operations → taken ls + 2 ≤ room → NoneOf (Opposes (admitted_history ls) a) (numbered 0 ts)
      → (r : Reply) → OwedToStart (by_words d) d room ls a r → (n : ActId) × (r ≡ Started n)
  unopposed_admitted a declared roomy none _ (OwedToStart.no_room l) = absurd (omega (arith, l, roomy))
  unopposed_admitted a declared roomy none _ (OwedToStart.unknown l k) = absurd (omega (arith, k, declared))
  unopposed_admitted a declared roomy none _ (OwedToStart.blocked p l k f) = absurd (not_first a (numbered 0 ts) p.0 none (first_reason a p.0 f))
  unopposed_admitted a declared roomy none _ (OwedToStart.started n l k f e) = (n, refl)

pub each_journal_follows_its_paths : EachJournalFollowsItsPaths
each_journal_follows_its_paths = follows_trees

pub each_block_has_a_reason : EachBlockHasAReason
each_block_has_a_reason d room openings ts e formed ls h w a p o = block_reason d room openings ts e formed ls h a p o

pub unopposed_starts_are_admitted : UnopposedStartsAreAdmitted
unopposed_starts_are_admitted d room openings ts e formed ls h w a declared roomy none r o = unopposed_admitted d room openings ts e formed ls h a declared roomy none r o

-- journals in segments
pub segments_follow_their_paths : SegmentsFollowTheirPaths
segments_follow_their_paths d room openings ts e formed earlier ls h =
    follows_trees d (room_behind (joined earlier) room) openings ts e formed (joined earlier ++ ls) (segments_are_one_journal d room openings earlier ls h)

pub each_block_has_a_reason_behind : EachBlockHasAReasonBehind
each_block_has_a_reason_behind d room openings ts e formed earlier ls h w a p o =
    block_reason d (room_behind (joined earlier) room) openings ts e formed (joined earlier ++ ls) (segments_are_one_journal d room openings earlier ls h) a p
    (owed_numbered (has_no_number (joined earlier) ls (Start a)) _ (Blocked p) o (λ x. cc))

-- below the highest number there is one
numbered_start : (earlier ls : List Line) (a : OpId) → journals.begun_in (earlier ++ ls) < 4294967295 → has_no_number earlier ls (Start a) ≡ false
numbered_start [] ls a k = refl
numbered_start (l ∷ earlier) ls a k = lt-leb 4294967295 (journals.begun_in ((l ∷ earlier) ++ ls)) k

pub unopposed_starts_are_admitted_behind : UnopposedStartsAreAdmittedBehind
unopposed_starts_are_admitted_behind d room openings ts e formed earlier ls h w a declared roomy few none r o =
    let all : List Line = joined earlier ++ ls in
    let owed = subst (λ b. OwedUnless b (Owed d (room_behind (joined earlier) room) openings (joined earlier ++ ls) w (Start a) r) r) (numbered_start (joined earlier) ls a few) o in
    unopposed_admitted d (room_behind (joined earlier) room) openings ts e formed (joined earlier ++ ls) (segments_are_one_journal d room openings earlier ls h) a declared
    (omega (arith, roomy, length-append (joined earlier) ls, room_behind_is (joined earlier) room)) none r owed

-- what lines that follow a path have live
module _ (s : Tree) (ls : List Line) (k : Follows s ls) where
  live_begun : (t : Tree) → begins_within t (admitted_history ls) ≡ ends_within t (admitted_history ls) + live_in t (live ls)
  live_begun (op a) = k.counts a
  live_begun (seq p q) = omega (arith, live_begun p, live_begun q)
  live_begun (alt p q) = omega (arith, live_begun p, live_begun q)
  live_begun (burst bd t) = live_begun t

  live_underway : (t : Tree) → 0 < live_in t (live ls) → TreeInProgress t (admitted_history ls)
  live_underway (op a) l = omega (arith, l, k.counts a)
  live_underway (seq p q) l = elim (cases_lt 0 (live_in p (live ls))) [ inl x ↦ inl (live_underway p x) | inr x ↦ inr (inr (live_underway q (omega (arith, l, x)))) ]
  live_underway (alt p q) l = elim (cases_lt 0 (live_in p (live ls))) [ inl x ↦ inl (live_underway p x) | inr x ↦ inr (live_underway q (omega (arith, l, x))) ]
  live_underway (burst bd t) l = live_underway t l

pub live_is_in_progress : LiveIsInProgress
live_is_in_progress s ls k a = (λ i. omega (arith, i, k.counts a), λ l. omega (arith, l, k.counts a))

pub live_counts_add_up : LiveCountsAddUp
live_counts_add_up s ls k t = live_begun s ls k t

pub live_bounds_hold : LiveBoundsHold
live_bounds_hold s ls k n t p = omega (arith, bounds_hold s k.formed (admitted_history ls) k.legal n t p, live_begun s ls k t)

pub one_is_live_outside_braces : OneIsLiveOutsideBraces
one_is_live_outside_braces s ls k t p flat =
    let one = (each_part_outside_braces_is_alone s k.formed (admitted_history ls) k.legal t p).0 in
    let parts = part_keeps (admitted_history ls) t s (outside_part t s p) (path_keeps s k.formed (admitted_history ls) k.legal).parts in
    omega (arith, one, one_each (admitted_history ls) t flat parts, live_begun s ls k t)

pub live_parts_outside_braces_are_alone : LivePartsOutsideBracesAreAlone
live_parts_outside_braces_are_alone s ls k t p l b n i =
    (each_part_outside_braces_is_alone s k.formed (admitted_history ls) k.legal t p).1 (live_underway s ls k t l) b n (omega (arith, i, k.counts b))

-- the activations are of the first n operations
abbrev AreBelow : ℕ → List Activation → Type 0
AreBelow n [] = Unit {0}
AreBelow n (x ∷ xs) = (x.op.0 < n) × AreBelow n xs

below_append : (n : ℕ) (xs ys : List Activation) → AreBelow n xs → AreBelow n ys → AreBelow n (xs ++ ys)
below_append n [] ys b c = c
below_append n (x ∷ xs) ys b c = (b.0, below_append n xs ys b.1 c)

below_filter : (n : ℕ) (f : Activation → Bool) (xs : List Activation) → AreBelow n xs → AreBelow n (filter f xs)
below_filter n f [] b = tt
below_filter n f (x ∷ xs) b = go (f x) (below_filter n f xs b.1)
  where
    go : (t : Bool) → AreBelow n (filter f xs) → AreBelow n (cond t (x ∷ filter f xs) (filter f xs))
    go true c = (b.0, c)
    go false c = c

module _ (d : Declaration) (room : ℕ) (openings : List (List ℕ)) where
  below_step : (ls : List Line) (w : ℕ) (attempt : Attempt) (reply : Reply) → Kind d room ls w attempt reply → AreBelow (length d.operations) (starts ls) → AreBelow (length d.operations) (starts (ls ++ line_of w attempt reply ∷ []))
  below_step ls _ _ _ (begins w a n r k f e) b =
      subst (AreBelow (length d.operations)) (sym (starts_more ls (line_of w (Start a) (Started n)))) (below_append (length d.operations) (starts ls) _ b (k, tt))
  below_step ls _ _ _ (ends w n a own) b = subst (AreBelow (length d.operations)) (sym (starts_more ls (line_of w (Finish n) Finished) ∙ append-nil (starts ls))) b
  below_step ls _ _ _ (quiet w attempt reply r q) b = subst (AreBelow (length d.operations)) (sym (starts_quiet ls (line_of w attempt reply) q)) b

  starts_below : (ls : List Line) → IsHonest d room openings ls → AreBelow (length d.operations) (starts ls)
  starts_below ls h = honest_induction d room openings (λ ls. AreBelow (length d.operations) (starts ls)) tt
      (λ ls l h b owed some. below_step ls l.worker l.attempt l.reply (kind_of d room openings ls l.worker l.attempt l.reply owed some) b) ls h

-- 1 if the operation is one of the first n
abbrev one_of : ℕ → OpId → ℕ
one_of zero a = 0
one_of (suc n) a = one_of n a + (if a.0 == n then 1 else 0)

none_above : (n : ℕ) (a : OpId) → n ≤ a.0 → one_of n a ≡ 0
none_above zero a l = refl
none_above (suc n) a l = omega (arith, none_above n a (omega (arith, l)), cond-false {A = ℕ} (a.0 == n) 1 0 (ne_eqb a.0 n (λ e. omega (arith, e, l))))

one_below : (n : ℕ) (a : OpId) → a.0 < n → one_of n a ≡ 1
one_below zero a l = absurd (omega (arith, l))
one_below (suc n) a l = elim (cases_lt a.0 n) [
  | inl k ↦ omega (arith, one_below n a k, cond-false {A = ℕ} (a.0 == n) 1 0 (ne_eqb a.0 n (λ e. omega (arith, e, k))))
  | inr k ↦ omega (arith, none_above n a k, cond-true {A = ℕ} (a.0 == n) 1 0 (eq-eqb a.0 n (omega (arith, k, l))))
]

among_none : (n : ℕ) → live_among n [] ≡ 0
among_none zero = refl
among_none (suc n) = omega (arith, among_none n)

among_more : (n : ℕ) (x : Activation) (xs : List Activation) → live_among n (x ∷ xs) ≡ one_of n x.op + live_among n xs
among_more zero x xs = refl
among_more (suc n) x xs = omega (arith, among_more n x xs)

all_among : (n : ℕ) (xs : List Activation) → AreBelow n xs → length xs ≡ live_among n xs
all_among n [] b = sym (among_none n)
all_among n (x ∷ xs) b = omega (arith, among_more n x xs, one_below n x.op b.0, all_among n xs b.1)

pub live_activations_are_counted : LiveActivationsAreCounted
live_activations_are_counted d room openings ls h =
    all_among (length d.operations) (live ls) (below_filter (length d.operations) (λ a. not (is_finished_in ls a.act)) (starts ls) (starts_below d room openings ls h))

own_finish : (d : Declaration) (room : ℕ) (ls : List Line) (w : ℕ) (n : ActId) (r : Reply) → OwedToFinish d room ls w n r → (r ≡ Finished) ↔ ((a : Activation) × IsOwn ls w n a)
own_finish d room ls w n _ (OwedToFinish.finished a own) = (λ e. (a, own), λ o. refl)
own_finish d room ls w n _ (OwedToFinish.no_room none l) = (λ e. absurd (cc), λ o. absurd (none o.0 o.1))
own_finish d room ls w n _ (OwedToFinish.stale l e) = (λ f. absurd (cc), λ o. absurd (let f = o.1.found in cc))
own_finish d room ls w n _ (OwedToFinish.not_yours a l e other) = (λ f. absurd (cc), λ o. absurd (other (let f = o.1.found in let k = o.1.own in let same : o.0 ≡ a = cc in sym (ap (λ x. x.worker) same) ∙ k)))

-- a finish needs no number
finish_numbered : (earlier ls : List Line) (n : ActId) → has_no_number earlier ls (Finish n) ≡ false
finish_numbered [] ls n = refl
finish_numbered (l ∷ earlier) ls n = refl

pub own_activations_finish : OwnActivationsFinish
own_activations_finish d room openings earlier ls w n r o =
    own_finish d (room_behind earlier room) (earlier ++ ls) w n r
    (subst (λ b. OwedUnless b (Owed d (room_behind earlier room) openings (earlier ++ ls) w (Finish n) r) r) (finish_numbered earlier ls n) o)

-- a start for which there is room
judged : (d : Declaration) (room : ℕ) (ls : List Line) (a : OpId) → a.0 < length d.operations → taken ls + 2 ≤ room
    → (r : Reply) → OwedToStart (by_words d) d room ls a r → ((n : ActId) × (r ≡ Started n)) ⊎ ((p : PathId) × (r ≡ Blocked p))
judged d room ls a declared roomy _ (OwedToStart.no_room l) = absurd (omega (arith, l, roomy))
judged d room ls a declared roomy _ (OwedToStart.unknown l k) = absurd (omega (arith, k, declared))
judged d room ls a declared roomy _ (OwedToStart.blocked p l k f) = inr (p, refl)
judged d room ls a declared roomy _ (OwedToStart.started n l k f e) = inl (n, refl)

pub roomy_starts_are_judged : RoomyStartsAreJudged
roomy_starts_are_judged d room openings ls w a declared roomy r o = judged d room ls a declared roomy r o

pub roomy_starts_are_judged_behind : RoomyStartsAreJudgedBehind
roomy_starts_are_judged_behind d room openings earlier ls w a declared roomy few r o =
    judged d (room_behind earlier room) (earlier ++ ls) a declared (omega (arith, roomy, length-append earlier ls, room_behind_is earlier room)) r
    (subst (λ b. OwedUnless b (Owed d (room_behind earlier room) openings (earlier ++ ls) w (Start a) r) r) (numbered_start earlier ls a few) o)

module _ (d : Declaration) (room : ℕ) (openings : List (List ℕ)) (ls : List Line) (h : IsHonest d room openings ls) (w : ℕ) where
  start_told : (a : OpId) (r : Reply) → OwedToStart (by_words d) d room ls a r → live (with_line ls w (Start a) r) ≡ live_after (live ls) w (Start a) r
  start_told a _ (OwedToStart.no_room l) = refl
  start_told a _ (OwedToStart.unknown l k) = live_quiet ls (line_of w (Start a) UnknownOperation) (quiet_reply w (Start a) UnknownOperation (λ n e. cc) (λ e. cc))
  start_told a _ (OwedToStart.blocked p l k f) = live_quiet ls (line_of w (Start a) (Blocked p)) (quiet_reply w (Start a) (Blocked p) (λ n e. cc) (λ e. cc))
  start_told a _ (OwedToStart.started n l k f e) = live_started d room openings ls h w a n e

  use_told : (n : ActId) (verb : Verb) (r : Reply) → live (with_line ls w (Apply n verb) r) ≡ live ls
  use_told n verb NoRoom = refl
  use_told n verb r = live_quiet ls (line_of w (Apply n verb) r) (quiet_use w n verb r)

  finish_told : (n : ActId) (r : Reply) → OwedToFinish d room ls w n r → live (with_line ls w (Finish n) r) ≡ live_after (live ls) w (Finish n) r
  finish_told n _ (OwedToFinish.finished a own) = live_finished ls w n
  finish_told n _ (OwedToFinish.no_room none l) = refl
  finish_told n _ (OwedToFinish.stale l e) = live_quiet ls (line_of w (Finish n) Stale) (quiet_reply w (Finish n) Stale (λ n e. cc) (λ e. cc))
  finish_told n _ (OwedToFinish.not_yours a l e k) = live_quiet ls (line_of w (Finish n) NotYours) (quiet_reply w (Finish n) NotYours (λ n e. cc) (λ e. cc))

  told : (attempt : Attempt) (r : Reply) → Owed d room openings ls w attempt r → live (with_line ls w attempt r) ≡ live_after (live ls) w attempt r
  told (Start a) r o = start_told a r o
  told (Apply n verb) r o = use_told n verb r
  told (Finish n) r o = finish_told n r o

pub each_reply_tells_what_is_live : EachReplyTellsWhatIsLive
each_reply_tells_what_is_live d room openings ls h w attempt r o = told d room openings ls h w attempt r o

-- a line behind earlier ones
line_behind : (earlier ls : List Line) (w : ℕ) (attempt : Attempt) (r : Reply) → with_line (earlier ++ ls) w attempt r ≡ earlier ++ with_line ls w attempt r
line_behind earlier ls w attempt NoRoom = refl
line_behind earlier ls w attempt r = append_assoc earlier ls (line_of w attempt r ∷ [])

unanswered : (xs : List Activation) (w : ℕ) (attempt : Attempt) → live_after xs w attempt NoRoom ≡ xs
unanswered xs w (Start a) = refl
unanswered xs w (Apply n verb) = refl
unanswered xs w (Finish n) = refl

pub each_reply_tells_what_is_live_behind : EachReplyTellsWhatIsLiveBehind
each_reply_tells_what_is_live_behind d room openings earlier ls h w attempt r o =
    ap live (sym (line_behind (joined earlier) ls w attempt r)) ∙ go (has_no_number (joined earlier) ls attempt) o
  where
    go : (b : Bool) → OwedUnless b (Owed d (room_behind (joined earlier) room) openings (joined earlier ++ ls) w attempt r) r
        → live (with_line (joined earlier ++ ls) w attempt r) ≡ live_after (live (joined earlier ++ ls)) w attempt r
    go true e = subst (λ r. live (with_line (joined earlier ++ ls) w attempt r) ≡ live_after (live (joined earlier ++ ls)) w attempt r) (sym e) (sym (unanswered (live (joined earlier ++ ls)) w attempt))
    go false o = told d (room_behind (joined earlier) room) openings (joined earlier ++ ls) (segments_are_one_journal d room openings earlier ls h) w attempt r o
