-- Worked examples of what paths guarantee: a pool of connections, a slot, a buffer of four places, a store, and a file.
use Rattle.std.proofs.Common.{◌≡◌, ◌⊎◌, ◌<◌, ◌≤◌, ◌+◌, List, [], ◌∷◌, ◌++◌, refl, ap, inl, inr, arith}
use Rattle.std.proofs.lemmas.Bool.{cases_lt}
use Rattle.path_model.specs.declared.ids.OpId.{OpId}
use Rattle.path_model.specs.declared.history.Event.{Event}
use Rattle.path_model.specs.declared.history.Event.TheVariants.{Began, Ended}
use Rattle.path_model.specs.Trees.{any, most, Tree, op, seq, alt, burst, WellFormed}
use Rattle.path_model.specs.Histories.{begun, ended, InProgress}
use Rattle.path_model.specs.Projection.{LegalOn}
use Rattle.path_model.specs.Legal.{Forbids}
use Rattle.path_model.specs.Executions.{TreeInProgress}
use Rattle.path_model.specs.Machine.{opening}
use Rattle.path_model.specs.AmongOthers.{values_among}
use Rattle.path_model.proofs.Examples.{o, differ, slot}
use Rattle.path_model.proofs.TreeTests.{well_formed_trees_pass}
use Rattle.path_model.proofs.Guarantees.{bounds_hold, each_front_is_legal, each_end_was_begun, counts_add_up, progress_is_underway, entered_parts_are_underway, each_part_outside_braces_is_alone, each_path_keeps_its_counts, each_value_is_a_count, sequences_keep_their_order, sequences_go_round_by_round}
use Rattle.path_model.proofs.Refusals.{each_refusal_has_a_reason, starts_are_legal_unless_opposed, finishes_are_legal_in_progress}

-- path { query : 3 } , backup end
abbrev pub query : OpId
query = o 0

abbrev pub backup : OpId
backup = o 1

abbrev pub pool : Tree
pool = alt (burst (most 3) (op query)) (op backup)

pub pool_formed : WellFormed pool
pool_formed = (well_formed_trees_pass pool).0 refl

module _ (h : List Event) (l : LegalOn pool h) where
  -- at most three queries are in progress, and at most one backup
  few_queries : begun query h ≤ ended query h + 3
  few_queries = bounds_hold pool pool_formed h l 3 (op query) (inr (inl (inl refl)))

  one_backup : begun backup h ≤ ended backup h + 1
  one_backup = (each_part_outside_braces_is_alone pool pool_formed h l (op backup) (inr (inr refl))).0

  -- and no query beside a backup
  no_query_beside : InProgress backup h → InProgress query h → ⊥
  no_query_beside b q = differ query refl ((each_part_outside_braces_is_alone pool pool_formed h l (op backup) (inr (inr refl))).1 b query (inl refl) q)

  -- a query is refused only while three are in progress or a backup is
  query_refused : Forbids h query pool → (begun query h ≡ ended query h + 3) ⊎ InProgress backup h
  query_refused f = why ((each_refusal_has_a_reason pool pool_formed h l query).0 f).1
    where
      why : (ended query h + 3 ≤ begun query h) ⊎ ((InProgress query h ⊎ InProgress backup h) × (begun query h ≤ ended query h)) → (begun query h ≡ ended query h + 3) ⊎ InProgress backup h
      why (inl full) = inl (omega (arith, full, few_queries))
      why (inr (inl q, closed)) = absurd (omega (arith, q, closed))
      why (inr (inr b, closed)) = inr b

  -- and may start where neither is so
  query_starts : begun query h < ended query h + 3 → (InProgress backup h → ⊥) → LegalOn pool (h ++ Began query ∷ [])
  query_starts few none = (starts_are_legal_unless_opposed pool pool_formed h l query).1 (λ _. against)
    where
      against : (ended query h + 3 ≤ begun query h) ⊎ ((InProgress query h ⊎ InProgress backup h) × (begun query h ≤ ended query h)) → ⊥
      against (inl full) = omega (arith, full, few)
      against (inr (inl q, closed)) = omega (arith, q, closed)
      against (inr (inr b, closed)) = none b

-- a backup starts only where no query is in progress
backup_starts_alone : (h : List Event) → LegalOn pool (h ++ Began backup ∷ []) → begun query h ≡ ended query h
backup_starts_alone h l =
    let before : LegalOn pool h = each_front_is_legal pool h (Began backup ∷ []) l in
    let ends : ended query h ≤ begun query h = each_end_was_begun pool pool_formed h before query (inl refl) in
    let alone = (starts_are_legal_unless_opposed pool pool_formed h before backup).0 l (inr refl) in
    elim (cases_lt (ended query h) (begun query h)) [ inl q ↦ absurd (alone (inl q)) | inr q ↦ omega (arith, q, ends) ]

-- a query may start at first, and then end
first_query : LegalOn pool (Began query ∷ [])
first_query = query_starts [] ([], ([], refl)) (omega arith) (λ b. omega (arith, b))

first_query_ends : LegalOn pool (Began query ∷ Ended query ∷ [])
first_query_ends = (finishes_are_legal_in_progress pool pool_formed (Began query ∷ []) first_query query).1 (λ _. omega arith)

-- one more query
query_counted : (h : List Event) → begun query (h ++ Began query ∷ []) ≡ begun query h + 1
query_counted h = (counts_add_up query h (Began query ∷ [])).0

-- path deposit ; remove end
abbrev deposit : OpId
deposit = o 0

abbrev remove : OpId
remove = o 1

slot_formed : WellFormed slot
slot_formed = (well_formed_trees_pass slot).0 refl

module _ (h : List Event) (l : LegalOn slot h) where
  -- nothing is removed that wasn't deposited
  removed_after : begun remove h ≤ ended deposit h
  removed_after = sequences_keep_their_order slot slot_formed h l (op deposit) (op remove) (inl refl)

  -- at most one number is in the buffer, and the next deposit waits until it is removed
  one_place : (ended deposit h ≤ begun remove h + 1) × (begun deposit h ≤ ended remove h + 1)
  one_place = sequences_go_round_by_round slot slot_formed h l (op deposit) (op remove) (inl refl)

  -- a remove is refused exactly where each deposit that is over was followed by one
  remove_refused : Forbids h remove slot → ended deposit h ≤ begun remove h
  remove_refused f = ((each_refusal_has_a_reason slot slot_formed h l remove).0 f).1

  remove_starts : begun remove h < ended deposit h → LegalOn slot (h ++ Began remove ∷ [])
  remove_starts full = (starts_are_legal_unless_opposed slot slot_formed h l remove).1 (λ _ (empty : ended deposit h ≤ begun remove h). omega (arith, full, empty))

  -- a deposit is refused only during one, during a remove, or while the buffer is full
  deposit_refused : Forbids h deposit slot → InProgress deposit h ⊎ ((begun remove h < ended deposit h) ⊎ InProgress remove h)
  deposit_refused f = ((each_refusal_has_a_reason slot slot_formed h l deposit).0 f).1

  -- the semaphore between them is the number of deposits that are over and not followed by a remove
  slot_value : (values_among slot (opening slot) h).semaphore 1 + begun remove h ≡ ended deposit h
  slot_value = (each_value_is_a_count slot slot_formed h l).parts.2

-- path { put ; get : 4 } end: a buffer of four places, into which puts may go side by side
abbrev put : OpId
put = o 0

abbrev get : OpId
get = o 1

abbrev buffer : Tree
buffer = burst (most 4) (seq (op put) (op get))

buffer_formed : WellFormed buffer
buffer_formed = (well_formed_trees_pass buffer).0 refl

module _ (h : List Event) (l : LegalOn buffer h) where
  got_after : begun get h ≤ ended put h
  got_after = sequences_keep_their_order buffer buffer_formed h l (op put) (op get) (inr (inl refl))

  -- at most four of both are in progress
  few : begun put h + begun get h ≤ ended put h + ended get h + 4
  few = bounds_hold buffer buffer_formed h l 4 (seq (op put) (op get)) (inl refl)

  -- no more puts have begun than gets are over and places there are, so at most four numbers are in the buffer
  four_rounds : begun put h ≤ ended get h + 4
  four_rounds = (each_path_keeps_its_counts buffer buffer_formed h l).parts.1

  four_places : ended put h ≤ begun get h + 4
  four_places = let k = (each_path_keeps_its_counts buffer buffer_formed h l).parts in omega (arith, k.0, k.1)

  -- a put is refused only where four rounds are underway
  put_refused : Forbids h put buffer → begun put h ≡ ended get h + 4
  put_refused f = why ((each_refusal_has_a_reason buffer buffer_formed h l put).0 f).1
    where
      why : (ended get h + 4 ≤ begun put h) ⊎ ((InProgress put h ⊎ ((begun get h < ended put h) ⊎ InProgress get h)) × (begun put h ≤ ended get h)) → begun put h ≡ ended get h + 4
      why (inl full) = omega (arith, full, four_rounds)
      why (inr (underway, closed)) = let u = (entered_parts_are_underway buffer buffer_formed h l (seq (op put) (op get)) (inr (inl refl))).1 underway in absurd (omega (arith, u, closed))

-- path { put ; get } , clear end: a store that is cleared only while it is empty
abbrev clear : OpId
clear = o 2

abbrev store : Tree
store = alt (burst any (seq (op put) (op get))) (op clear)

store_formed : WellFormed store
store_formed = (well_formed_trees_pass store).0 refl

module _ (h : List Event) (l : LegalOn store h) where
  within : TreeInProgress (seq (op put) (op get)) h → InProgress clear h → ⊥
  within u c = elim ((each_part_outside_braces_is_alone store store_formed h l (burst any (seq (op put) (op get))) (inr (inl refl))).1 u clear (inr refl) c) [
    | inl e ↦ let n = ap (λ x. x.0) e in omega (arith, n)
    | inr e ↦ let n = ap (λ x. x.0) e in omega (arith, n)
  ]

  no_clear_beside_get : InProgress get h → InProgress clear h → ⊥
  no_clear_beside_get g = within (progress_is_underway (seq (op put) (op get)) h get (inr refl) g)

  no_clear_of_what_was_put : begun get h < ended put h → InProgress clear h → ⊥
  no_clear_of_what_was_put stored = within (inr (inl stored))

-- path open ; { read } ; close end: a file that is open while it is read
abbrev opened : OpId
opened = o 0

abbrev read : OpId
read = o 1

abbrev closed : OpId
closed = o 2

abbrev file : Tree
file = seq (op opened) (seq (burst any (op read)) (op closed))

file_formed : WellFormed file
file_formed = (well_formed_trees_pass file).0 refl

-- while it is read, it was opened once more than a close has begun
open_while_read : (h : List Event) → LegalOn file h → InProgress read h → ended opened h ≡ begun closed h + 1
open_while_read h l r =
    let k = each_path_keeps_its_counts file file_formed h l in
    elim k.parts.1.0.2 [
      | inl x ↦ absurd (omega (arith, r, x.0))
      | inr x ↦ omega (arith, x.1, k.one, k.parts.0, k.parts.1.1, k.parts.1.2, k.parts.2)
    ]
