-- What a system owes to the next attempt, in words of all its lines.
use Rattle.std.proofs.Common.{◌≡◌, ◌<◌, ◌≤◌, ◌+◌, ◌↔◌, ◌⊎◌, ℕ, List, [], ◌∷◌, ◌++◌, length, refl, sym, ap, ◌∙◌, subst, inl, inr, append-nil}
use Rattle.path_model.specs.declared.ids.OpId.{OpId}
use Rattle.path_model.specs.declared.ids.ActId.{ActId}
use Rattle.path_model.specs.declared.ids.PathId.{PathId}
use Rattle.path_model.specs.declared.journal.Attempt.{Attempt}
use Rattle.path_model.specs.declared.journal.Attempt.TheVariants.{Start, Finish}
use Rattle.path_model.specs.declared.journal.Reply.{Reply}
use Rattle.path_model.specs.declared.journal.Reply.TheVariants.{Started, Blocked, Finished}
use Rattle.path_model.specs.declared.journal.Activation.{Activation}
use Rattle.path_model.specs.declared.journal.Line.{Line}
use Rattle.path_model.specs.Trees.{Tree, WellFormed}
use Rattle.path_model.specs.Legal.{numbered, Every, First, NoneOf}
use Rattle.path_model.specs.Declarations.{trees}
use Rattle.path_model.specs.Journals.{admitted_history, begun_in, live, with_line}
use Rattle.path_model.specs.Owed.{IsOwn}
use Rattle.path_model.specs.Segments.{joined, room_behind, taken_behind, OwedBehind}
use Rattle.path_model.specs.JournalGuarantees.{Follows, Opposes, live_after, live_among}
use Rattle.path_model.proofs.CallerLemmas.{joined_more, segments_are_one_journal, segments_follow_their_paths, live_activations_are_counted, own_activations_finish, roomy_starts_are_judged_behind, each_reply_tells_what_is_live_behind, each_block_has_a_reason_behind, unopposed_starts_are_admitted_behind}
use Rattle.path_system.specs.Accounts.{Account, all_lines, rotated, IsSystem}

-- the reply is owed to the worker's next attempt
abbrev pub OwedNext : Account → ℕ → Attempt → Reply → Type 0
OwedNext s w attempt r = OwedBehind s.declaration s.room s.openings (joined s.earlier) s.journal w attempt r

-- a rotation keeps all lines
pub rotated_lines : (s : Account) → all_lines (rotated s) ≡ all_lines s
rotated_lines s = append-nil (joined (s.earlier ++ s.journal ∷ [])) ∙ joined_more s.earlier s.journal

-- only what is started or finished changes what is live
pub live_unstarted : (xs : List Activation) (w : ℕ) (o : OpId) (r : Reply) → ((n : ActId) → r ≡ Started n → ⊥) → live_after xs w (Start o) r ≡ xs
live_unstarted xs w o (Started n) none = absurd (none n refl)
live_unstarted xs w o r none = refl

pub live_unfinished : (xs : List Activation) (w : ℕ) (n : ActId) (r : Reply) → (r ≡ Finished → ⊥) → live_after xs w (Finish n) r ≡ xs
live_unfinished xs w n Finished none = absurd (none refl)
live_unfinished xs w n r none = refl

module _ (s : Account) (system : IsSystem s) (ls : List Line) (view : all_lines s ≡ ls) where
  -- the places that are taken: one for each line since the last rotation, and one for each live activation of each operation
  pub places_taken : taken_behind (joined s.earlier) s.journal ≡ length s.journal + live_among (length s.declaration.operations) (live ls)
  places_taken =
      let whole = segments_are_one_journal s.declaration s.room s.openings s.earlier s.journal system.honest in
      let counted = live_activations_are_counted s.declaration (room_behind (joined s.earlier) s.room) s.openings (all_lines s) whole in
      subst (λ xs. taken_behind (joined s.earlier) s.journal ≡ length s.journal + live_among (length s.declaration.operations) (live xs)) view (ap (λ n. length s.journal + n) counted)

  -- a finish is admitted exactly where it is that of the worker's own live activation
  pub finishes_own : (w : ℕ) (n : ActId) (r : Reply) → OwedNext s w (Finish n) r → (r ≡ Finished) ↔ ((a : Activation) × IsOwn ls w n a)
  finishes_own w n r owed =
      subst (λ xs. (r ≡ Finished) ↔ ((a : Activation) × IsOwn xs w n a)) view (own_activations_finish s.declaration s.room s.openings (joined s.earlier) s.journal w n r owed)

  -- a start of a declared operation for which there is room and a number is admitted or blocked
  pub start_judged : (w : ℕ) (o : OpId) (r : Reply) → OwedNext s w (Start o) r
      → o.0 < length s.declaration.operations → taken_behind (joined s.earlier) s.journal + 2 ≤ s.room → begun_in ls < 4294967295
      → ((n : ActId) × (r ≡ Started n)) ⊎ ((p : PathId) × (r ≡ Blocked p))
  start_judged w o r owed declared roomy few =
      roomy_starts_are_judged_behind s.declaration s.room s.openings (joined s.earlier) s.journal w o declared roomy (subst (λ xs. begun_in xs < 4294967295) (sym view) few) r owed

  -- what is live after the next attempt
  pub live_next : (next : Account) (w : ℕ) (attempt : Attempt) (r : Reply) (fs : List ℕ) → OwedNext s w attempt r
      → next ≡ record s { journal = with_line s.journal w attempt r; failures = fs } → live (all_lines next) ≡ live_after (live ls) w attempt r
  live_next next w attempt r fs owed is =
      ap (λ a. live (all_lines a)) is
      ∙ each_reply_tells_what_is_live_behind s.declaration s.room s.openings s.earlier s.journal system.honest w attempt r owed
      ∙ ap (λ xs. live_after (live xs) w attempt r) view

  module _ (ts : List Tree) (paths : trees s.declaration ≡ ts) (formed : Every WellFormed (numbered 0 ts)) where
    -- the lines follow each path
    pub follows_each : Every (λ t. Follows t ls) (numbered 0 ts)
    follows_each = subst (λ xs. Every (λ t. Follows t xs) (numbered 0 ts)) view (segments_follow_their_paths s.declaration s.room s.openings ts paths formed s.earlier s.journal system.honest)

    -- a start is blocked by the first path in which something stands against it
    pub block_reason : (w : ℕ) (o : OpId) (p : PathId) → OwedNext s w (Start o) (Blocked p) → First (Opposes (admitted_history ls) o) (numbered 0 ts) p.0
    block_reason w o p owed =
        subst (λ xs. First (Opposes (admitted_history xs) o) (numbered 0 ts) p.0) view
        (each_block_has_a_reason_behind s.declaration s.room s.openings ts paths formed s.earlier s.journal system.honest w o p owed)

    -- a start against which nothing stands is admitted
    pub start_unopposed : (w : ℕ) (o : OpId) (r : Reply) → OwedNext s w (Start o) r
        → o.0 < length s.declaration.operations → taken_behind (joined s.earlier) s.journal + 2 ≤ s.room → begun_in ls < 4294967295
        → NoneOf (Opposes (admitted_history ls) o) (numbered 0 ts) → (n : ActId) × (r ≡ Started n)
    start_unopposed w o r owed declared roomy few free =
        unopposed_starts_are_admitted_behind s.declaration s.room s.openings ts paths formed s.earlier s.journal system.honest w o declared roomy
        (subst (λ xs. begun_in xs < 4294967295) (sym view) few) (subst (λ xs. NoneOf (Opposes (admitted_history xs) o) (numbered 0 ts)) (sym view) free) r owed

  -- the same under a declaration of one path
  module _ (t : Tree) (path : trees s.declaration ≡ t ∷ []) (formed : WellFormed t) where
    pub follows_the_path : Follows t ls
    follows_the_path = (follows_each (t ∷ []) path (formed, tt)).0

    pub path_opposes : (w : ℕ) (o : OpId) (p : PathId) → OwedNext s w (Start o) (Blocked p) → Opposes (admitted_history ls) o t
    path_opposes w o p owed = elim (block_reason (t ∷ []) path (formed, tt) w o p owed) [
      | inl here ↦ here.0
      | inr later ↦ absurd later.1
    ]

    pub path_unopposed : (w : ℕ) (o : OpId) (r : Reply) → OwedNext s w (Start o) r
        → o.0 < length s.declaration.operations → taken_behind (joined s.earlier) s.journal + 2 ≤ s.room → begun_in ls < 4294967295
        → (Opposes (admitted_history ls) o t → ⊥) → (n : ActId) × (r ≡ Started n)
    path_unopposed w o r owed declared roomy few free = start_unopposed (t ∷ []) path (formed, tt) w o r owed declared roomy few (free, tt)
