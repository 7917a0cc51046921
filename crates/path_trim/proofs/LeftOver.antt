-- What is left of the code of a path is what its tree leaves.
use Rattle.std.proofs.Common.{◌≡◌, ◌+◌, ℕ, get_or, Bool, true, false, List, [], ◌∷◌, ◌++◌, map, drop, refl, sym, ap, ◌∙◌, append_assoc, if◌then◌else◌}
use Rattle.std.proofs.Math.Numerals.{add-one}
use Rattle.path_model.specs.declared.ids.OpId.{OpId}
use Rattle.path_model.specs.declared.ids.PathId.{PathId}
use Rattle.path_model.specs.Trees.{Tree, op, seq, alt, burst}
use Rattle.path_model.specs.Machine.{braces, Term, Plain, Braced, Counted, prologue, epilogue}
use Rattle.path_model.specs.Flat.{Sited, in_table}
use Rattle.path_model.specs.Trimmed.{is_burst, lean}
use Rattle.path_code.specs.declared.terms.OpCode.{OpCode}
use Rattle.path_code.specs.Terms.{prologue_at, epilogue_at}
use Rattle.path_code.specs.Names.{names_in}
use Rattle.path_code.specs.PathCodes.{numbers_from, op_of_path, ops_of, semaphores_of, braces_of}
use Rattle.path_trim.specs.declared.table.LeanOp.{LeanOp}
use Rattle.path_trim.specs.declared.table.Removed.{Removed}
use Rattle.path_trim.specs.declared.table.Removed.TheVariants.{Semaphore, Counter, Mutex}
use Rattle.path_trim.specs.LeanTable.{prologue_left, epilogue_left, op_left, LeanRow, lean_row}
use Rattle.path_trim.specs.RemovedList.{values_removed}
use Rattle.path_trim.specs.Inner.Steps.{prologue_kept, epilogue_kept, op_kept}

prologue_same : (x : Sited) (b : Bool) (t : Term) → prologue_kept b (prologue_at (in_table x t)) ≡ prologue_left x (lean b t)
prologue_same x b (Plain q) = refl
prologue_same x true (Braced c q) = refl
prologue_same x false (Braced c q) = refl
prologue_same x true (Counted c q) = refl
prologue_same x false (Counted c q) = refl

epilogue_same : (x : Sited) (b : Bool) (t : Term) → epilogue_kept b (epilogue_at (in_table x t)) ≡ epilogue_left x (lean b t)
epilogue_same x b (Plain q) = refl
epilogue_same x true (Braced c q) = refl
epilogue_same x false (Braced c q) = refl
epilogue_same x true (Counted c q) = refl
epilogue_same x false (Counted c q) = refl

ops_same : (x : Sited) (names : List OpId) → map (op_kept (is_burst x.tree)) (map (op_of_path x) names) ≡ map (op_left x) names
ops_same x [] = refl
ops_same x (a ∷ rest) =
    let p = prologue_same x (is_burst x.tree) (prologue x.tree a) in
    let e = epilogue_same x (is_burst x.tree) (epilogue x.tree a) in
    let r = ops_same x rest in
    cc

-- the row of a path
pub row_same : (x : Sited) (p : PathId) (b : Bool) (semaphores given : List (ℕ × ℕ)) (counters pairs : List ℕ) (ops : List LeanOp) (codes : List OpCode)
    → b ≡ is_burst x.tree → given ≡ semaphores_of x → pairs ≡ braces_of x → codes ≡ ops_of x
    → semaphores ≡ (if b then drop 1 given else given) → counters ≡ (if b then [] else pairs) → ops ≡ map (op_kept b) codes
    → ◌≡◌ {A = LeanRow} (record { path = p; semaphores = semaphores; counters = counters; ops = ops }) (lean_row (p.0, x))
row_same x p b semaphores given counters pairs ops codes whole s c o left_s left_c left_o =
    let ss : semaphores ≡ (if is_burst x.tree then drop 1 (semaphores_of x) else semaphores_of x) = left_s ∙ ap (λ z. if z then drop 1 given else given) whole ∙ ap (λ l. if is_burst x.tree then drop 1 l else l) s in
    let cs : counters ≡ (if is_burst x.tree then [] else braces_of x) = left_c ∙ ap (λ z. if z then [] else pairs) whole ∙ ap (λ l. if is_burst x.tree then [] else l) c in
    let os : ops ≡ map (op_left x) (names_in x.tree) = left_o ∙ ap (λ z. map (op_kept z) codes) whole ∙ ap (λ l. map (op_kept (is_burst x.tree)) l) o ∙ ops_same x (names_in x.tree) in
    cc

-- braces that are the whole path are its first
pub first_braces : (s : Tree) (k : ℕ) → is_burst s ≡ true → (rest : List ℕ) × (numbers_from k (braces s) ≡ k ∷ rest)
first_braces (op a) k h = cc
first_braces (seq s t) k h = cc
first_braces (alt s t) k h = cc
first_braces (burst b s) k h = (numbers_from (k + 1) (braces s), ap (λ n. numbers_from k n) (add-one (braces s)))

-- what is removed of a path
pub all_removed : (x : Sited) (b : Bool) (old mid new : List Removed) (pairs : List ℕ) → is_burst x.tree ≡ b
    → mid ≡ old ++ (if b then Semaphore x.own ∷ Counter x.first ∷ [] else []) → new ≡ mid ++ map (λ m. Mutex m) pairs → pairs ≡ braces_of x → new ≡ old ++ values_removed x
all_removed x b old mid new pairs whole m n p =
    n ∙ ap (λ l. mid ++ map (λ m. Mutex m) l) p ∙ ap (λ l. l ++ map (λ m. Mutex m) (braces_of x)) m
    ∙ append_assoc old (if b then Semaphore x.own ∷ Counter x.first ∷ [] else []) (map (λ m. Mutex m) (braces_of x))
    ∙ ap (λ z. old ++ ((if z then Semaphore x.own ∷ Counter x.first ∷ [] else []) ++ map (λ m. Mutex m) (braces_of x))) (sym whole)

-- the own semaphore and the counter of braces that are a whole path
pub whole_removed_first : (x : Sited) (old mid new : List Removed) (values : List (ℕ × ℕ)) (pairs : List ℕ) (v : ℕ × ℕ) (m : ℕ)
    → is_burst x.tree ≡ true → values ≡ semaphores_of x → pairs ≡ braces_of x → v ≡ get_or values 0 v → m ≡ get_or pairs 0 m
    → mid ≡ old ++ Semaphore v.0 ∷ [] → new ≡ mid ++ Counter m ∷ [] → new ≡ old ++ Semaphore x.own ∷ Counter x.first ∷ []
whole_removed_first x old mid new values pairs v m whole s p v_is m_is mid_is new_is =
    let b = first_braces x.tree x.first whole in
    let v_own : v.0 ≡ x.own = ap (λ (w : ℕ × ℕ). w.0) v_is ∙ ap (λ l. (get_or l 0 v).0) s in
    let m_first : m ≡ x.first = m_is ∙ ap (λ l. get_or l 0 m) (p ∙ b.1) in
    let joined : (old ++ Semaphore v.0 ∷ []) ++ Counter m ∷ [] ≡ old ++ Semaphore v.0 ∷ Counter m ∷ [] = append_assoc old (Semaphore v.0 ∷ []) (Counter m ∷ []) in
    cc
