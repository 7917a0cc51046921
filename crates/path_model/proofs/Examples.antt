-- Worked examples: a slot, readers and writers, crossing labels, a burst before another operation; with bounds; and two paths.
use Rattle.std.proofs.Common.{if◌then◌else◌, ◌≡◌, ◌⊎◌, ◌<◌, ℕ, List, [], ◌∷◌, refl, ap, inl, inr, arith}
use Rattle.path_model.specs.declared.ids.OpId.{OpId}
use Rattle.path_model.specs.declared.history.Event.{Event}
use Rattle.path_model.specs.declared.history.Event.TheVariants.{Began, Ended}
use Rattle.path_model.specs.Trees.{any, most, Tree, op, seq, alt, burst, has}
use Rattle.path_model.specs.Behaviour.{Behaves}
use Rattle.path_model.specs.Machine.{prologue, epilogue, Plain, Braced, Counted}
use Rattle.path_model.specs.OnePath.{AdmitsItsWords}
use Rattle.path_model.specs.Legal.{numbered, First}
use Rattle.path_model.specs.AllPaths.{after, Blocks}
use Rattle.path_model.specs.Trimmed.{kept, lean_after, LeanBlocks, lean_prologue, nothing, limits, does}
use Rattle.path_model.specs.Flat.{Sited, sited, TableTerm, BracedAt, CountedAt, in_table, flat_opening}
use Rattle.path_model.proofs.OnePath.{each_path_admits_its_words}

-- an operation by its number, and its events
abbrev pub o : ℕ → OpId
o n = record { 0 = n }

abbrev pub began : ℕ → Event
began n = Began (o n)

abbrev pub ended : ℕ → Event
ended n = Ended (o n)

pub behaves_nil : (s : Tree) → Behaves s []
behaves_nil s = ([], ([], refl))

pub differ : (a : OpId) → a ≡ o 0 → a ≡ o 1 → ⊥
differ a h k = let f = ap (λ x. x.0) h in let g = ap (λ x. x.0) k in omega (arith, f, g)

neither : (0 < 0) ⊎ (0 < 0) → ⊥
neither (inl l) = omega (arith, l)
neither (inr l) = omega (arith, l)

-- path 0 ; 1 end: a slot, with deposit and remove in turn
abbrev pub slot : Tree
slot = seq (op (o 0)) (op (o 1))

slot_laws : AdmitsItsWords slot
slot_laws = each_path_admits_its_words slot (record { names_once = (tt, tt, differ); not_nested = (tt, tt) })

slot_terms : (prologue slot (o 0) ≡ Plain 0) × (epilogue slot (o 0) ≡ Plain 1) × (prologue slot (o 1) ≡ Plain 1) × (epilogue slot (o 1) ≡ Plain 0)
slot_terms = (refl, refl, refl, refl)

-- nothing is removed before a deposit
pub slot_remove_waits : Behaves slot (began 1 ∷ []) → ⊥
slot_remove_waits h = let l : 0 < 0 = (slot_laws.starts ([]) (o 1) (behaves_nil slot) (inr refl)).1 h in omega (arith, l)

pub slot_deposit : Behaves slot (began 0 ∷ [])
slot_deposit = (slot_laws.starts ([]) (o 0) (behaves_nil slot) (inl refl)).0 (omega arith)

-- nor during it
pub slot_remove_still_waits : Behaves slot (began 0 ∷ began 1 ∷ []) → ⊥
slot_remove_still_waits h = let l : 0 < 0 = (slot_laws.starts (began 0 ∷ []) (o 1) slot_deposit (inr refl)).1 h in omega (arith, l)

pub slot_deposited : Behaves slot (began 0 ∷ ended 0 ∷ [])
slot_deposited = (slot_laws.finishes (began 0 ∷ []) (o 0) slot_deposit (inl refl)).0 (omega arith)

-- and nothing is deposited again before it is removed
slot_deposit_waits : Behaves slot (began 0 ∷ ended 0 ∷ began 0 ∷ []) → ⊥
slot_deposit_waits h = let l : 0 < 0 = (slot_laws.starts (began 0 ∷ ended 0 ∷ []) (o 0) slot_deposited (inl refl)).1 h in omega (arith, l)

pub slot_remove : Behaves slot (began 0 ∷ ended 0 ∷ began 1 ∷ [])
slot_remove = (slot_laws.starts (began 0 ∷ ended 0 ∷ []) (o 1) slot_deposited (inr refl)).0 (omega arith)

pub slot_removed : Behaves slot (began 0 ∷ ended 0 ∷ began 1 ∷ ended 1 ∷ [])
slot_removed = (slot_laws.finishes (began 0 ∷ ended 0 ∷ began 1 ∷ []) (o 1) slot_remove (inr refl)).0 (omega arith)

pub slot_deposit_again : Behaves slot (began 0 ∷ ended 0 ∷ began 1 ∷ ended 1 ∷ began 0 ∷ [])
slot_deposit_again = (slot_laws.starts (began 0 ∷ ended 0 ∷ began 1 ∷ ended 1 ∷ []) (o 0) slot_removed (inl refl)).0 (omega arith)

-- path { 0 } , 1 end: many read, or one writes
abbrev readers_and_writers : Tree
readers_and_writers = alt (burst any (op (o 0))) (op (o 1))

readers_and_writers_laws : AdmitsItsWords readers_and_writers
readers_and_writers_laws = each_path_admits_its_words readers_and_writers (record { names_once = (tt, tt, differ); not_nested = ((tt, tt), tt) })

pub readers_and_writers_first_reader : Behaves readers_and_writers (began 0 ∷ [])
readers_and_writers_first_reader = (readers_and_writers_laws.starts ([]) (o 0) (behaves_nil readers_and_writers) (inl refl)).0 (inr (omega arith))

pub readers_and_writers_second_reader : Behaves readers_and_writers (began 0 ∷ began 0 ∷ [])
readers_and_writers_second_reader = (readers_and_writers_laws.starts (began 0 ∷ []) (o 0) readers_and_writers_first_reader (inl refl)).0 (inl (omega arith))

readers_and_writers_writer_waits : Behaves readers_and_writers (began 0 ∷ began 0 ∷ began 1 ∷ []) → ⊥
readers_and_writers_writer_waits h = let l : 0 < 0 = (readers_and_writers_laws.starts (began 0 ∷ began 0 ∷ []) (o 1) readers_and_writers_second_reader (inr refl)).1 h in omega (arith, l)

pub readers_and_writers_one_reader_left : Behaves readers_and_writers (began 0 ∷ began 0 ∷ ended 0 ∷ [])
readers_and_writers_one_reader_left = (readers_and_writers_laws.finishes (began 0 ∷ began 0 ∷ []) (o 0) readers_and_writers_second_reader (inl refl)).0 (omega arith)

readers_and_writers_writer_still_waits : Behaves readers_and_writers (began 0 ∷ began 0 ∷ ended 0 ∷ began 1 ∷ []) → ⊥
readers_and_writers_writer_still_waits h = let l : 0 < 0 = (readers_and_writers_laws.starts (began 0 ∷ began 0 ∷ ended 0 ∷ []) (o 1) readers_and_writers_one_reader_left (inr refl)).1 h in omega (arith, l)

pub readers_and_writers_no_reader_left : Behaves readers_and_writers (began 0 ∷ began 0 ∷ ended 0 ∷ ended 0 ∷ [])
readers_and_writers_no_reader_left = (readers_and_writers_laws.finishes (began 0 ∷ began 0 ∷ ended 0 ∷ []) (o 0) readers_and_writers_one_reader_left (inl refl)).0 (omega arith)

pub readers_and_writers_writer : Behaves readers_and_writers (began 0 ∷ began 0 ∷ ended 0 ∷ ended 0 ∷ began 1 ∷ [])
readers_and_writers_writer = (readers_and_writers_laws.starts (began 0 ∷ began 0 ∷ ended 0 ∷ ended 0 ∷ []) (o 1) readers_and_writers_no_reader_left (inr refl)).0 (omega arith)

readers_and_writers_reader_waits : Behaves readers_and_writers (began 0 ∷ began 0 ∷ ended 0 ∷ ended 0 ∷ began 1 ∷ began 0 ∷ []) → ⊥
readers_and_writers_reader_waits h = neither ((readers_and_writers_laws.starts (began 0 ∷ began 0 ∷ ended 0 ∷ ended 0 ∷ began 1 ∷ []) (o 0) readers_and_writers_writer (inl refl)).1 h)

-- path { 0 ; 1 } end: an end of 1 may belong to either of two executions that are underway
abbrev pub crossing_labels : Tree
crossing_labels = burst any (seq (op (o 0)) (op (o 1)))

crossing_labels_laws : AdmitsItsWords crossing_labels
crossing_labels_laws = each_path_admits_its_words crossing_labels (record { names_once = (tt, tt, differ); not_nested = ((tt, tt), tt) })

pub crossing_labels_first_a : Behaves crossing_labels (began 0 ∷ [])
crossing_labels_first_a = (crossing_labels_laws.starts ([]) (o 0) (behaves_nil crossing_labels) (inl refl)).0 (inr (omega arith))

pub crossing_labels_first_a_over : Behaves crossing_labels (began 0 ∷ ended 0 ∷ [])
crossing_labels_first_a_over = (crossing_labels_laws.finishes (began 0 ∷ []) (o 0) crossing_labels_first_a (inl refl)).0 (omega arith)

pub crossing_labels_second_a : Behaves crossing_labels (began 0 ∷ ended 0 ∷ began 0 ∷ [])
crossing_labels_second_a = (crossing_labels_laws.starts (began 0 ∷ ended 0 ∷ []) (o 0) crossing_labels_first_a_over (inl refl)).0 (inl (omega arith))

pub crossing_labels_first_b : Behaves crossing_labels (began 0 ∷ ended 0 ∷ began 0 ∷ began 1 ∷ [])
crossing_labels_first_b = (crossing_labels_laws.starts (began 0 ∷ ended 0 ∷ began 0 ∷ []) (o 1) crossing_labels_second_a (inr refl)).0 (omega arith)

crossing_labels_second_b_waits : Behaves crossing_labels (began 0 ∷ ended 0 ∷ began 0 ∷ began 1 ∷ began 1 ∷ []) → ⊥
crossing_labels_second_b_waits h = let l : 0 < 0 = (crossing_labels_laws.starts (began 0 ∷ ended 0 ∷ began 0 ∷ began 1 ∷ []) (o 1) crossing_labels_first_b (inr refl)).1 h in omega (arith, l)

pub crossing_labels_second_a_over : Behaves crossing_labels (began 0 ∷ ended 0 ∷ began 0 ∷ began 1 ∷ ended 0 ∷ [])
crossing_labels_second_a_over = (crossing_labels_laws.finishes (began 0 ∷ ended 0 ∷ began 0 ∷ began 1 ∷ []) (o 0) crossing_labels_first_b (inl refl)).0 (omega arith)

pub crossing_labels_second_b : Behaves crossing_labels (began 0 ∷ ended 0 ∷ began 0 ∷ began 1 ∷ ended 0 ∷ began 1 ∷ [])
crossing_labels_second_b = (crossing_labels_laws.starts (began 0 ∷ ended 0 ∷ began 0 ∷ began 1 ∷ ended 0 ∷ []) (o 1) crossing_labels_second_a_over (inr refl)).0 (omega arith)

pub crossing_labels_one_b_over : Behaves crossing_labels (began 0 ∷ ended 0 ∷ began 0 ∷ began 1 ∷ ended 0 ∷ began 1 ∷ ended 1 ∷ [])
crossing_labels_one_b_over = (crossing_labels_laws.finishes (began 0 ∷ ended 0 ∷ began 0 ∷ began 1 ∷ ended 0 ∷ began 1 ∷ []) (o 1) crossing_labels_second_b (inr refl)).0 (omega arith)

-- path { 0 } ; 1 end: once the burst of 0 is over, 0 begins again only behind 1
abbrev burst_then_b : Tree
burst_then_b = seq (burst any (op (o 0))) (op (o 1))

burst_then_b_laws : AdmitsItsWords burst_then_b
burst_then_b_laws = each_path_admits_its_words burst_then_b (record { names_once = (tt, tt, differ); not_nested = ((tt, tt), tt) })

pub burst_then_b_first_a : Behaves burst_then_b (began 0 ∷ [])
burst_then_b_first_a = (burst_then_b_laws.starts ([]) (o 0) (behaves_nil burst_then_b) (inl refl)).0 (inr (omega arith))

pub burst_then_b_second_a : Behaves burst_then_b (began 0 ∷ began 0 ∷ [])
burst_then_b_second_a = (burst_then_b_laws.starts (began 0 ∷ []) (o 0) burst_then_b_first_a (inl refl)).0 (inl (omega arith))

pub burst_then_b_one_a_left : Behaves burst_then_b (began 0 ∷ began 0 ∷ ended 0 ∷ [])
burst_then_b_one_a_left = (burst_then_b_laws.finishes (began 0 ∷ began 0 ∷ []) (o 0) burst_then_b_second_a (inl refl)).0 (omega arith)

pub burst_then_b_burst_over : Behaves burst_then_b (began 0 ∷ began 0 ∷ ended 0 ∷ ended 0 ∷ [])
burst_then_b_burst_over = (burst_then_b_laws.finishes (began 0 ∷ began 0 ∷ ended 0 ∷ []) (o 0) burst_then_b_one_a_left (inl refl)).0 (omega arith)

burst_then_b_burst_stays_over : Behaves burst_then_b (began 0 ∷ began 0 ∷ ended 0 ∷ ended 0 ∷ began 0 ∷ []) → ⊥
burst_then_b_burst_stays_over h = neither ((burst_then_b_laws.starts (began 0 ∷ began 0 ∷ ended 0 ∷ ended 0 ∷ []) (o 0) burst_then_b_burst_over (inl refl)).1 h)

pub burst_then_b_b : Behaves burst_then_b (began 0 ∷ began 0 ∷ ended 0 ∷ ended 0 ∷ began 1 ∷ [])
burst_then_b_b = (burst_then_b_laws.starts (began 0 ∷ began 0 ∷ ended 0 ∷ ended 0 ∷ []) (o 1) burst_then_b_burst_over (inr refl)).0 (omega arith)

pub burst_then_b_b_over : Behaves burst_then_b (began 0 ∷ began 0 ∷ ended 0 ∷ ended 0 ∷ began 1 ∷ ended 1 ∷ [])
burst_then_b_b_over = (burst_then_b_laws.finishes (began 0 ∷ began 0 ∷ ended 0 ∷ ended 0 ∷ began 1 ∷ []) (o 1) burst_then_b_b (inr refl)).0 (omega arith)

pub burst_then_b_a_again : Behaves burst_then_b (began 0 ∷ began 0 ∷ ended 0 ∷ ended 0 ∷ began 1 ∷ ended 1 ∷ began 0 ∷ [])
burst_then_b_a_again = (burst_then_b_laws.starts (began 0 ∷ began 0 ∷ ended 0 ∷ ended 0 ∷ began 1 ∷ ended 1 ∷ []) (o 0) burst_then_b_b_over (inl refl)).0 (inr (omega arith))

-- the terms of these paths
crossing_labels_terms : (prologue crossing_labels (o 0) ≡ Braced 0 0) × (epilogue crossing_labels (o 0) ≡ Plain 1) × (prologue crossing_labels (o 1) ≡ Plain 1) × (epilogue crossing_labels (o 1) ≡ Braced 0 0)
crossing_labels_terms = (refl, refl, refl, refl)

burst_then_b_terms : (prologue burst_then_b (o 0) ≡ Braced 0 0) × (epilogue burst_then_b (o 0) ≡ Braced 0 1) × (prologue burst_then_b (o 1) ≡ Plain 1) × (epilogue burst_then_b (o 1) ≡ Plain 0)
burst_then_b_terms = (refl, refl, refl, refl)

readers_and_writers_terms : (prologue readers_and_writers (o 0) ≡ Braced 0 0) × (epilogue readers_and_writers (o 0) ≡ Braced 0 0) × (prologue readers_and_writers (o 1) ≡ Plain 0) × (epilogue readers_and_writers (o 1) ≡ Plain 0)
readers_and_writers_terms = (refl, refl, refl, refl)

-- path { 0 : 2 } , 1 end: the same with two readers at most
abbrev two_readers_at_most : Tree
two_readers_at_most = alt (burst (most 2) (op (o 0))) (op (o 1))

two_readers_at_most_laws : AdmitsItsWords two_readers_at_most
two_readers_at_most_laws = each_path_admits_its_words two_readers_at_most (record { names_once = (tt, tt, differ); not_nested = ((tt, omega arith), tt) })

pub two_readers_at_most_first_reader : Behaves two_readers_at_most (began 0 ∷ [])
two_readers_at_most_first_reader = (two_readers_at_most_laws.starts ([]) (o 0) (behaves_nil two_readers_at_most) (inl refl)).0 (inr (omega arith), omega arith)

pub two_readers_at_most_second_reader : Behaves two_readers_at_most (began 0 ∷ began 0 ∷ [])
two_readers_at_most_second_reader = (two_readers_at_most_laws.starts (began 0 ∷ []) (o 0) two_readers_at_most_first_reader (inl refl)).0 (inl (omega arith), omega arith)

two_readers_at_most_third_reader_waits : Behaves two_readers_at_most (began 0 ∷ began 0 ∷ began 0 ∷ []) → ⊥
two_readers_at_most_third_reader_waits h = let p = (two_readers_at_most_laws.starts (began 0 ∷ began 0 ∷ []) (o 0) two_readers_at_most_second_reader (inl refl)).1 h in let l : 0 < 0 = p.1 in omega (arith, l)

two_readers_at_most_writer_waits : Behaves two_readers_at_most (began 0 ∷ began 0 ∷ began 1 ∷ []) → ⊥
two_readers_at_most_writer_waits h = let l : 0 < 0 = (two_readers_at_most_laws.starts (began 0 ∷ began 0 ∷ []) (o 1) two_readers_at_most_second_reader (inr refl)).1 h in omega (arith, l)

pub two_readers_at_most_one_reader_left : Behaves two_readers_at_most (began 0 ∷ began 0 ∷ ended 0 ∷ [])
two_readers_at_most_one_reader_left = (two_readers_at_most_laws.finishes (began 0 ∷ began 0 ∷ []) (o 0) two_readers_at_most_second_reader (inl refl)).0 (omega arith)

pub two_readers_at_most_third_reader : Behaves two_readers_at_most (began 0 ∷ began 0 ∷ ended 0 ∷ began 0 ∷ [])
two_readers_at_most_third_reader = (two_readers_at_most_laws.starts (began 0 ∷ began 0 ∷ ended 0 ∷ []) (o 0) two_readers_at_most_one_reader_left (inl refl)).0 (inl (omega arith), omega arith)

-- path { 0 ; 1 : 2 } end: two executions underway at most
abbrev two_pairs_at_most : Tree
two_pairs_at_most = burst (most 2) (seq (op (o 0)) (op (o 1)))

two_pairs_at_most_laws : AdmitsItsWords two_pairs_at_most
two_pairs_at_most_laws = each_path_admits_its_words two_pairs_at_most (record { names_once = (tt, tt, differ); not_nested = ((tt, tt), omega arith) })

two_pairs_at_most_terms : (prologue two_pairs_at_most (o 0) ≡ Counted 0 0) × (epilogue two_pairs_at_most (o 0) ≡ Plain 1) × (prologue two_pairs_at_most (o 1) ≡ Plain 1) × (epilogue two_pairs_at_most (o 1) ≡ Counted 0 0)
two_pairs_at_most_terms = (refl, refl, refl, refl)

pub two_pairs_at_most_first_a : Behaves two_pairs_at_most (began 0 ∷ [])
two_pairs_at_most_first_a = (two_pairs_at_most_laws.starts ([]) (o 0) (behaves_nil two_pairs_at_most) (inl refl)).0 (inr (omega arith), omega arith)

pub two_pairs_at_most_first_a_over : Behaves two_pairs_at_most (began 0 ∷ ended 0 ∷ [])
two_pairs_at_most_first_a_over = (two_pairs_at_most_laws.finishes (began 0 ∷ []) (o 0) two_pairs_at_most_first_a (inl refl)).0 (omega arith)

pub two_pairs_at_most_second_a : Behaves two_pairs_at_most (began 0 ∷ ended 0 ∷ began 0 ∷ [])
two_pairs_at_most_second_a = (two_pairs_at_most_laws.starts (began 0 ∷ ended 0 ∷ []) (o 0) two_pairs_at_most_first_a_over (inl refl)).0 (inl (omega arith), omega arith)

pub two_pairs_at_most_second_a_over : Behaves two_pairs_at_most (began 0 ∷ ended 0 ∷ began 0 ∷ ended 0 ∷ [])
two_pairs_at_most_second_a_over = (two_pairs_at_most_laws.finishes (began 0 ∷ ended 0 ∷ began 0 ∷ []) (o 0) two_pairs_at_most_second_a (inl refl)).0 (omega arith)

-- two executions stand at the semicolon, and both count
two_pairs_at_most_third_a_waits : Behaves two_pairs_at_most (began 0 ∷ ended 0 ∷ began 0 ∷ ended 0 ∷ began 0 ∷ []) → ⊥
two_pairs_at_most_third_a_waits h = let p = (two_pairs_at_most_laws.starts (began 0 ∷ ended 0 ∷ began 0 ∷ ended 0 ∷ []) (o 0) two_pairs_at_most_second_a_over (inl refl)).1 h in let l : 0 < 0 = p.1 in omega (arith, l)

-- path 0 , 2 end path 1 ; 2 end: 2 is blocked by the second path, and after a start of 0 by the first
abbrev two_paths : List (ℕ × Tree)
two_paths = numbered 0 (alt (op (o 0)) (op (o 2)) ∷ seq (op (o 1)) (op (o 2)) ∷ [])

two_paths_second_blocks : First (Blocks (o 2)) (after two_paths []) 1
two_paths_second_blocks = inr (λ b. b.1 (omega arith), inl ((inr refl, λ l. omega (arith, l)), refl))

two_paths_first_blocks : First (Blocks (o 2)) (after two_paths (began 0 ∷ [])) 0
two_paths_first_blocks = inl ((inr refl, λ l. omega (arith, l)), refl)

-- the second of two equal paths is removed, and of the first all but the bound's semaphore
abbrev equal_paths : List (ℕ × Tree)
equal_paths = numbered 0 (burst (most 2) (op (o 0)) ∷ burst (most 2) (op (o 0)) ∷ burst (most 3) (op (o 0)) ∷ [])

equal_paths_kept : kept [] equal_paths ≡ (0, burst (most 2) (op (o 0))) ∷ (2, burst (most 3) (op (o 0))) ∷ []
equal_paths_kept = refl

equal_paths_terms : (lean_prologue (burst (most 2) (op (o 0))) (o 0) ≡ limits 0) × (lean_prologue (burst any (op (o 0))) (o 0) ≡ nothing) × (lean_prologue two_pairs_at_most (o 1) ≡ does (Plain 1)) × (lean_prologue two_readers_at_most (o 0) ≡ does (Counted 0 0))
equal_paths_terms = (refl, refl, refl, refl)

equal_paths_blocks : First (LeanBlocks (o 0)) (lean_after equal_paths (began 0 ∷ began 0 ∷ [])) 0
equal_paths_blocks = inl ((refl, λ l. omega (arith, l)), refl)

-- two paths in one table: a bound's semaphore comes behind those of the path's semicolons
abbrev bounds_in_a_row : List (ℕ × Sited)
bounds_in_a_row = sited 0 0 (numbered 0 (seq (burst (most 2) (op (o 0))) (seq (burst any (op (o 1))) (burst (most 3) (op (o 2)))) ∷ burst (most 4) (op (o 3)) ∷ []))

abbrev prologues_at : OpId → List (ℕ × Sited) → List TableTerm
prologues_at a [] = []
prologues_at a (x ∷ xs) = if has x.1.tree a then (in_table x.1 (prologue x.1.tree a) ∷ prologues_at a xs) else prologues_at a xs

bounds_in_a_row_terms : (prologues_at (o 0) bounds_in_a_row ≡ CountedAt 0 0 3 ∷ []) × (prologues_at (o 1) bounds_in_a_row ≡ BracedAt 1 1 ∷ []) × (prologues_at (o 2) bounds_in_a_row ≡ CountedAt 2 2 4 ∷ []) × (prologues_at (o 3) bounds_in_a_row ≡ CountedAt 3 5 6 ∷ [])
bounds_in_a_row_terms = (refl, refl, refl, refl)

bounds_in_a_row_opening : ((flat_opening bounds_in_a_row).semaphore 0 ≡ 1) × ((flat_opening bounds_in_a_row).semaphore 2 ≡ 0) × ((flat_opening bounds_in_a_row).semaphore 3 ≡ 2) × ((flat_opening bounds_in_a_row).semaphore 4 ≡ 3) × ((flat_opening bounds_in_a_row).semaphore 5 ≡ 1) × ((flat_opening bounds_in_a_row).semaphore 6 ≡ 4)
bounds_in_a_row_opening = (refl, refl, refl, refl, refl, refl)
