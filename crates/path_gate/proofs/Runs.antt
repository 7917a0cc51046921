-- The runs of a gate: term by term, and then all in one list.
use Rattle.std.proofs.Common.{◌≡◌, ◌==◌, ◌+◌, ◌-◌, ◌<◌, ◌≤◌, ℕ, suc, cond, Bool, true, false, List, [], ◌∷◌, ◌++◌, length, map, get_or, take, drop, arith, sym, ap, ◌∙◌, subst, inl, inr}
use Rattle.std.proofs.Math.ListN.{set}
use Rattle.std.proofs.Math.Seq.{drop-append_seam, take-length, drop-cons}
use Rattle.std.proofs.lemmas.List.{append-nil, append_assoc, length-append, take-append-le, drop-append-le, get_or-set_other, get_or-set_same, map-set, get_or-map, length-map, length-drop, take_more}
use Rattle.std.proofs.lemmas.List.Elements.{All-nil, All-cons, All-head, All-tail, All-append}
use Rattle.std.proofs.lemmas.Bool.{cases_eq, cond-true, cond-false, eq-eqb, ne_eqb}
use Rattle.path_model.specs.declared.ids.OpId.{OpId}
use Rattle.path_model.specs.declared.ids.PathId.{PathId}
use Rattle.path_trim.specs.declared.table.LeanOp.{LeanOp}
use Rattle.path_gate.specs.declared.gate.Term.{Term}
use Rattle.path_gate.specs.Inner.Soundness.{IsLaidOut, runs_of}
use Rattle.path_gate.specs.Inner.Initial.{ops_terms}

-- one list among several with one term more
pub pushed : {V : Type 0} (f : V → List Term) (xs : List V) (i : ℕ) (old new : V) (t : Term) (a : OpId) → i < length xs → old ≡ get_or xs i old → f new ≡ f old ++ t ∷ []
    → get_or (map f (set xs i new)) a.0 [] ≡ get_or (map f xs) a.0 [] ++ cond (a.0 == i) (t ∷ []) []
pushed f xs i old new t a l is more = elim (cases_eq a.0 i) [
  | inl e ↦
      let same = get_or-set_same (map f xs) i (f new) [] (subst (λ n. i < n) (sym (length-map xs f)) l) in
      let before = get_or-map f xs i old [] l in
      let one = cond-true (a.0 == i) (t ∷ []) [] (eq-eqb a.0 i e) in
      rw (map-set, one, e, same, before) (more ∙ ap (λ v. f v ++ t ∷ []) is)
  | inr n ↦
      let other = get_or-set_other (map f xs) i a.0 (f new) [] n in
      let none = cond-false (a.0 == i) (t ∷ []) [] (ne_eqb a.0 i n) in
      rw (map-set, none, other) (sym (append-nil _))
]

one_or_none : (b : Bool) (xs : List Term) (t : Term) (rest : List Term) → (xs ++ cond b (t ∷ []) []) ++ rest ≡ xs ++ cond b (t ∷ rest) rest
one_or_none true xs t rest = append_assoc xs (t ∷ []) rest
one_or_none false xs t rest = ap (λ ys. ys ++ rest) (append-nil xs)

-- an operation of the path is added
pub op_added : (p : PathId) (o : LeanOp) (os : List LeanOp) (a : OpId) (old new all : List Term)
    → new ≡ old ++ cond (a.0 == o.op.0) (record { path = p; prologue = o.prologue; epilogue = o.epilogue } ∷ []) []
    → old ++ ops_terms p (o ∷ os) a ≡ all → new ++ ops_terms p os a ≡ all
op_added p o os a old new all is before =
    ap (λ ts. ts ++ ops_terms p os a) is ∙ one_or_none (a.0 == o.op.0) old (record { path = p; prologue = o.prologue; epilogue = o.epilogue }) (ops_terms p os a) ∙ before

-- a run is put at the end
front_run : (terms run : List Term) (s e : ℕ) → s ≤ e → e ≤ length terms → take (e - s) (drop s (terms ++ run)) ≡ take (e - s) (drop s terms)
front_run terms run s e l m =
    ap (take (e - s)) (drop-append-le s terms run (omega (arith, l, m)))
    ∙ take-append-le (e - s) (drop s terms) run (let z = length-drop s terms in omega (arith, z, l, m))

last_run : (terms run : List Term) (s e : ℕ) → s ≡ length terms → e ≡ length (terms ++ run) → take (e - s) (drop s (terms ++ run)) ≡ run
last_run terms run s e f g =
    ap (λ n. take (e - s) (drop n (terms ++ run))) f
    ∙ ap (take (e - s)) (drop-append_seam terms run)
    ∙ ap (λ n. take n run) (let z = length-append terms run in let k : e - s ≡ length run = omega (arith, f, g, z) in k)
    ∙ take-length run

pub runs_more : (terms run : List Term) (ranges : List (ℕ × ℕ)) (s e : ℕ) → IsLaidOut terms ranges → s ≡ length terms → e ≡ length (terms ++ run)
    → runs_of (terms ++ run) (ranges ++ (s, e) ∷ []) ≡ runs_of terms ranges ++ run ∷ []
runs_more terms run [] s e k f g = ap (λ r. r ∷ []) (last_run terms run s e f g)
runs_more terms run (b ∷ ranges) s e k f g =
    let h = All-head (λ (b : ℕ × ℕ). (b.0 ≤ b.1) × (b.1 ≤ length terms)) b ranges k in
    ap (λ r. r ∷ runs_of (terms ++ run) (ranges ++ (s, e) ∷ [])) (front_run terms run b.0 b.1 h.0 h.1)
    ∙ ap (λ rs. take (b.1 - b.0) (drop b.0 terms) ∷ rs) (runs_more terms run ranges s e (All-tail (λ (b : ℕ × ℕ). (b.0 ≤ b.1) × (b.1 ≤ length terms)) b ranges k) f g)

wider : (terms run : List Term) (ranges : List (ℕ × ℕ)) → IsLaidOut terms ranges → IsLaidOut (terms ++ run) ranges
wider terms run ranges k i d l = let h = k i d l in let z = length-append terms run in let h1 = h.1 in (h.0, omega (arith, h1, z))

pub laid_out_more : (terms run : List Term) (ranges : List (ℕ × ℕ)) (s e : ℕ) → IsLaidOut terms ranges → s ≡ length terms → e ≡ length (terms ++ run) → IsLaidOut (terms ++ run) (ranges ++ (s, e) ∷ [])
laid_out_more terms run ranges s e k f g =
    All-append (λ (b : ℕ × ℕ). (b.0 ≤ b.1) × (b.1 ≤ length (terms ++ run))) ranges ((s, e) ∷ []) (wider terms run ranges k)
    (All-cons (λ (b : ℕ × ℕ). (b.0 ≤ b.1) × (b.1 ≤ length (terms ++ run))) (s, e) [] ((let z = length-append terms run in omega (arith, f, g, z)), omega (arith, g)) (All-nil (λ (b : ℕ × ℕ). (b.0 ≤ b.1) × (b.1 ≤ length (terms ++ run)))))

pub run_joined : (terms run after : List Term) (ranges after_ranges : List (ℕ × ℕ)) (s e : ℕ) (rows : List (List Term)) (i : ℕ) → i < length rows → get_or rows i [] ≡ run
    → after ≡ terms ++ run → after_ranges ≡ ranges ++ (s, e) ∷ [] → s ≡ length terms → e ≡ length after → IsLaidOut terms ranges → runs_of terms ranges ≡ take i rows
    → (runs_of after after_ranges ≡ take (i + 1) rows) × IsLaidOut after after_ranges
run_joined terms run after ranges after_ranges s e rows i l at is is_ranges f g k so_far =
    let g' : e ≡ length (terms ++ run) = g ∙ ap length is in (
      ap (λ ts. runs_of ts after_ranges) is ∙ ap (runs_of (terms ++ run)) is_ranges ∙ runs_more terms run ranges s e k f g' ∙ ap (λ rs. rs ++ run ∷ []) so_far
          ∙ ap (λ r. take i rows ++ r ∷ []) (sym at) ∙ sym (take_more rows i [] l),
      subst (λ ts. IsLaidOut ts after_ranges) (sym is) (subst (IsLaidOut (terms ++ run)) (sym is_ranges) (laid_out_more terms run ranges s e k f g')),
    )

-- what is left of a list begins with the next
pub drop_more : {X : Type 0} (xs : List X) (i : ℕ) (d : X) → i < length xs → drop i xs ≡ get_or xs i d ∷ drop (i + 1) xs
drop_more xs i d l = drop-cons xs i d l ∙ ap (λ n. get_or xs i d ∷ drop n xs) (let z : suc i ≡ i + 1 = omega arith in z)
