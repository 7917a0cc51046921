-- What a store is after a fault, and how long its file has become.
use Rattle.std.proofs.Common.{◌≡◌, ◌↔◌, ℕ, ◌+◌, ◌<◌, ◌≤◌, Bool, true, false, List, [], ◌∷◌, ◌++◌, length, map, take, drop, get_or, refl, sym, ap, ◌∙◌, subst, arith, length-append, take-append-drop}
use Rattle.std.specs.Prelude.{IfErr, IsErrAnd, IsErrOf}
use Rattle.std.specs.declared.result.Result.{Result}
use Rattle.std.specs.declared.result.Result.TheVariants.{Ok, Err}
use Rattle.std.proofs.lemmas.List.{take_more}
use Rattle.path_model.specs.declared.journal.Line.{Line}
use Rattle.path_model.specs.Declarations.{Declaration}
use Rattle.path_journal.specs.JournalTexts.{kept_line, kept_text}
use Rattle.path_store.specs.declared.device.DeviceFault.{DeviceFault}
use Rattle.path_store.specs.declared.fault.StoreFault.{StoreFault}
use Rattle.path_store.specs.declared.fault.StoreFault.TheVariants as faults
use Rattle.path_store.specs.declared.store.Store.{Store}
use Rattle.path_store.specs.Stores.{IsStored}
use Rattle.path_store.specs.Faults.{BreaksBy, IsLeftAt, IsPastLimit, IsRefusal, IsSame, IsStepFault}

-- an error that a call ended with is returned
pub err_as : {T E : Type 0} (r : Result T E) (e : E) (P : E → Type 0) → IsErrAnd r (λ x. x ≡ e) → P e → IfErr r P
err_as (Ok x) e P is p = absurd is
err_as (Err x) e P is p = subst P (sym is) p

not_true : (b : Bool) → (b ≡ true → ⊥) → b ≡ false
not_true true never = absurd (never refl)
not_true false _ = refl

-- a call that ended well was made by a store that wasn't broken
pub not_broken : {T : Type 0} {r : Result T StoreFault} {x : T} (b : Bool) → r ≡ Ok x → (IsErrOf r faults.Broken ↔ (b ≡ true)) → b ≡ false
not_broken {T} {r} {x} b is was = not_true b (λ e. (let f : Ok x ≡ Err faults.Broken = sym is ∙ was.1 e in cc))

-- what a fault of a step says, said of another one
pub step_fault : (e : StoreFault) (b1 b2 : Bool) (long1 long2 : Type 0) (fails : DeviceFault → Type 0) → (b1 ≡ true → b2 ≡ true) → (long1 → long2) → IsStepFault b1 long1 fails e → IsStepFault b2 long2 fails e
step_fault (faults.Text f) b1 b2 long1 long2 fails b l h = h
step_fault faults.OtherHead b1 b2 long1 long2 fails b l h = h
step_fault (faults.Device f) b1 b2 long1 long2 fails b l h = h
step_fault faults.Broken b1 b2 long1 long2 fails b l h = b h
step_fault faults.TooLong b1 b2 long1 long2 fails b l h = l h
step_fault faults.OutOfMemory b1 b2 long1 long2 fails b l h = h

pub breaks_left : {D B : Type 0} (old new : Store D B) (first : Bool) (e : StoreFault) → old.broken ≡ first → IsLeftAt old new e → BreaksBy first new.broken e
breaks_left old new first (faults.Device f) is left = left
breaks_left old new first (faults.Text f) is left = ap (λ (s : Store _ _). s.broken) left ∙ is
breaks_left old new first faults.OtherHead is left = ap (λ (s : Store _ _). s.broken) left ∙ is
breaks_left old new first faults.Broken is left = ap (λ (s : Store _ _). s.broken) left ∙ is
breaks_left old new first faults.TooLong is left = ap (λ (s : Store _ _). s.broken) left ∙ is
breaks_left old new first faults.OutOfMemory is left = ap (λ (s : Store _ _). s.broken) left ∙ is

-- a store that is as it was has the lines that it had
same_stored : {D B : Type 0} (holds may_leave : D → List ℕ → Type 0) (old new : Store D B) (synced fresh : List Line) → IsSame old new → IsStored holds may_leave old synced fresh → IsStored holds may_leave new synced fresh
same_stored holds may_leave old new synced fresh same s =
    subst (λ x. IsStored holds may_leave x synced fresh) (sym same) (record { lines = s.lines; none_fresh = s.none_fresh })

pub still_stored : {D B : Type 0} (holds may_leave : D → List ℕ → Type 0) (old new : Store D B) (e : StoreFault) (synced fresh : List Line) → IsRefusal e → IsLeftAt old new e → IsStored holds may_leave old synced fresh → IsStored holds may_leave new synced fresh
still_stored holds may_leave old new (faults.Device f) synced fresh refused left s = absurd refused
still_stored holds may_leave old new (faults.Text f) synced fresh refused left s = same_stored holds may_leave old new synced fresh left s
still_stored holds may_leave old new faults.OtherHead synced fresh refused left s = same_stored holds may_leave old new synced fresh left s
still_stored holds may_leave old new faults.Broken synced fresh refused left s = same_stored holds may_leave old new synced fresh left s
still_stored holds may_leave old new faults.TooLong synced fresh refused left s = same_stored holds may_leave old new synced fresh left s
still_stored holds may_leave old new faults.OutOfMemory synced fresh refused left s = same_stored holds may_leave old new synced fresh left s

pub broken_same : {T : Type 0} (r : Result T StoreFault) (b1 b2 : Bool) → b1 ≡ b2 → (IsErrOf r faults.Broken ↔ (b1 ≡ true)) → IsErrOf r faults.Broken ↔ (b2 ≡ true)
broken_same r b1 b2 same was = subst (λ b. IsErrOf r faults.Broken ↔ (b ≡ true)) same was

pub broken_as : {T U : Type 0} (r : Result T StoreFault) (q : Result U StoreFault) (e : StoreFault) (b1 b2 : Bool) → IsErrAnd r (λ x. x ≡ e) → q ≡ Err e → b1 ≡ b2 → (IsErrOf q faults.Broken ↔ (b1 ≡ true)) → IsErrOf r faults.Broken ↔ (b2 ≡ true)
broken_as (Ok x) q e b1 b2 is err same was = absurd is
broken_as (Err x) q e b1 b2 is err same was = (
  (λ f. let g : x ≡ faults.Broken = cc in sym same ∙ was.0 (err ∙ ap Err (sym is ∙ g))),
  (λ t. let f = was.1 (same ∙ t) in let g : e ≡ faults.Broken = cc in ap Err (is ∙ g)),
)

-- a mark makes a line longer
marked_longest : (d : Declaration) (m : Bool) (l : Line) → length (kept_line d (m, l)) ≤ length (kept_line d (true, l))
marked_longest d true l = omega arith
marked_longest d false l = omega arith

marked_size : (d : Declaration) (xs ys : List Line) → length (kept_text d (map (λ line. (true, line)) (xs ++ ys))) ≡ length (kept_text d (map (λ line. (true, line)) xs)) + length (kept_text d (map (λ line. (true, line)) ys))
marked_size d [] ys = omega arith
marked_size d (x ∷ xs) ys =
    let rest = marked_size d xs ys in
    let all = length-append (kept_line d (true, x)) (kept_text d (map (λ line. (true, line)) (xs ++ ys))) in
    let first = length-append (kept_line d (true, x)) (kept_text d (map (λ line. (true, line)) xs)) in
    omega (arith, rest, all, first)

one_size : (d : Declaration) (x : Line) → length (kept_text d (map (λ line. (true, line)) (x ∷ []))) ≡ length (kept_line d (true, x))
one_size d x = let all = length-append (kept_line d (true, x)) [] in omega (arith, all)

-- with one line more it is no longer than with all of them marked
next_size : (d : Declaration) (lines : List Line) (i : ℕ) (x : Line) → i < length lines → length (kept_text d (map (λ line. (true, line)) (take (i + 1) lines))) ≡ length (kept_text d (map (λ line. (true, line)) (take i lines))) + length (kept_line d (true, get_or lines i x))
next_size d lines i x lt =
    ap (λ ls. length (kept_text d (map (λ line. (true, line)) ls))) (take_more lines i x lt)
    ∙ marked_size d (take i lines) (get_or lines i x ∷ [])
    ∙ ap (λ n. length (kept_text d (map (λ line. (true, line)) (take i lines))) + n) (one_size d (get_or lines i x))

pub size_so_far : (own d : Declaration) (lines : List Line) (i : ℕ) (x : Line) (m : Bool) (first size next : ℕ) → own ≡ d → i < length lines → size ≤ first + length (kept_text d (map (λ line. (true, line)) (take i lines))) → next ≡ size + length (kept_line own (m, get_or lines i x)) → next ≤ first + length (kept_text d (map (λ line. (true, line)) (take (i + 1) lines)))
size_so_far own d lines i x m first size next same lt so_far one =
    let more = next_size d lines i x lt in
    let longest = marked_longest d m (get_or lines i x) in
    let spelled : next ≡ size + length (kept_line d (m, get_or lines i x)) = subst (λ (e : Declaration). next ≡ size + length (kept_line e (m, get_or lines i x))) same one in
    omega (arith, so_far, spelled, more, longest)

pub past_limit : (own d : Declaration) (lines : List Line) (i : ℕ) (x : Line) (m : Bool) (first size : ℕ) → own ≡ d → i < length lines → size ≤ first + length (kept_text d (map (λ line. (true, line)) (take i lines))) → IsPastLimit size (kept_line own (m, get_or lines i x)) → IsPastLimit first (kept_text d (map (λ line. (true, line)) lines))
past_limit own d lines i x m first size same lt so_far past =
    let long : IsPastLimit size (kept_line d (m, get_or lines i x)) = subst (λ (e : Declaration). IsPastLimit size (kept_line e (m, get_or lines i x))) same past in
    let more = next_size d lines i x lt in
    let longest = marked_longest d m (get_or lines i x) in
    let whole = ap (λ ls. length (kept_text d (map (λ line. (true, line)) ls))) (sym (take-append-drop (i + 1) lines)) ∙ marked_size d (take (i + 1) lines) (drop (i + 1) lines) in
    omega (arith, so_far, long, more, longest, whole)
