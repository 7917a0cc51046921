-- The history that leads to where a path stands has few starts.
use Rattle.std.proofs.Common.{◌≡◌, ◌==◌, ◌≤◌, ◌+◌, ◌*◌, ℕ, zero, suc, cond, List, [], ◌∷◌, ◌++◌, get_or, arith}
use Rattle.std.proofs.lemmas.Bool.{ne_eqb, cond-false}
use Rattle.std.proofs.lemmas.Nat.{mul-le}
use Rattle.path_model.specs.declared.ids.OpId.{OpId}
use Rattle.path_model.specs.declared.history.Event.{Event}
use Rattle.path_model.specs.declared.history.Event.TheVariants.{Began, Ended}
use Rattle.path_model.specs.Trees.{Tree, op, seq, alt, burst}
use Rattle.path_model.specs.Histories.{starts_in}
use Rattle.path_model.specs.Machine.{semicolons}
use Rattle.path_state.specs.Pasts.{underway, in_all, names_in, EachStandingHasAShortPast}
use Rattle.path_state.proofs.Runs.{rest_of_run, run}
use Rattle.path_state.proofs.Fillings.{repeated, filling, filling_leads}

starts_append : (x y : List Event) → starts_in (x ++ y) ≡ starts_in x + starts_in y
starts_append [] y = omega arith
starts_append (Began a ∷ x) y = omega (arith, starts_append x y)
starts_append (Ended a ∷ x) y = starts_append x y

-- one execution starts each name at most once
run_short : (t : Tree) → starts_in (rest_of_run t) + 1 ≤ names_in t
run_short (op a) = omega arith
run_short (seq l r) = omega (arith, starts_append (rest_of_run l) (run r), run_short l, run_short r)
run_short (alt l r) = omega (arith, run_short l)
run_short (burst bd t) = run_short t

starts_repeated : (k : ℕ) (w : List Event) → starts_in (repeated k w) ≡ k * starts_in w
starts_repeated zero w = omega arith
starts_repeated (suc k) w = omega (arith, starts_append w (repeated k w), starts_repeated k w)

one_open : (n : ℕ) → cond (n == 0) 0 1 ≤ n
one_open zero = omega arith
one_open (suc n) = omega (arith, cond-false {A = ℕ} (suc n == 0) 0 1 (ne_eqb (suc n) 0 (λ z. omega (arith, z))))

underway_few : (t : Tree) (place : ℕ) (progress : OpId → ℕ) (stands : List ℕ) → underway t place progress stands ≤ in_all t place progress stands
underway_few (op a) place progress stands = omega arith
underway_few (seq l r) place progress stands = omega (arith, underway_few l place progress stands, underway_few r (place + semicolons l + 1) progress stands)
underway_few (alt l r) place progress stands = omega (arith, underway_few l place progress stands, underway_few r (place + semicolons l) progress stands)
underway_few (burst bd t) place progress stands = omega (arith, one_open (underway t place progress stands), underway_few t place progress stands)

-- the whole executions of a left operand, and the fillings of both
seq_short : (gone a s b n m x y z : ℕ) → gone ≤ (s + b) * n → x ≤ a * n → y ≤ b * m → z ≡ gone + (x + y) → z ≤ (a + s + b) * (n + m)
seq_short gone a s b n m x y z g p q e = omega (arith, g, p, q, e)

alt_short : (a b n m x y z : ℕ) → x ≤ a * n → y ≤ b * m → z ≡ x + y → z ≤ (a + b) * (n + m)
alt_short a b n m x y z p q e = omega (arith, p, q, e)

filling_short : (t : Tree) (place : ℕ) (progress : OpId → ℕ) (stands : List ℕ) → starts_in (filling t place progress stands) ≤ in_all t place progress stands * names_in t
filling_short (op a) place progress stands = omega (arith, starts_repeated (progress a) (Began a ∷ []))
filling_short (seq l r) place progress stands =
    let k : ℕ = get_or stands (place + semicolons l) 0 + underway r (place + semicolons l + 1) progress stands in
    let first : List Event = filling l place progress stands in
    let second : List Event = filling r (place + semicolons l + 1) progress stands in
    seq_short (starts_in (repeated k (run l))) (in_all l place progress stands) (get_or stands (place + semicolons l) 0) (in_all r (place + semicolons l + 1) progress stands) (names_in l) (names_in r)
    (starts_in first) (starts_in second) (starts_in (repeated k (run l) ++ (first ++ second)))
    (omega (
      arith,
      starts_repeated k (run l),
      mul-le k (starts_in (run l)) (get_or stands (place + semicolons l) 0 + in_all r (place + semicolons l + 1) progress stands) (names_in l)
          (omega (arith, underway_few r (place + semicolons l + 1) progress stands)) (omega (arith, run_short l)),
    ))
    (filling_short l place progress stands) (filling_short r (place + semicolons l + 1) progress stands)
    (omega (arith, starts_append (repeated k (run l)) (first ++ second), starts_append first second))
filling_short (alt l r) place progress stands =
    alt_short (in_all l place progress stands) (in_all r (place + semicolons l) progress stands) (names_in l) (names_in r)
    (starts_in (filling l place progress stands)) (starts_in (filling r (place + semicolons l) progress stands)) (starts_in (filling (alt l r) place progress stands))
    (filling_short l place progress stands) (filling_short r (place + semicolons l) progress stands)
    (starts_append (filling l place progress stands) (filling r (place + semicolons l) progress stands))
filling_short (burst bd t) place progress stands = filling_short t place progress stands

pub each_standing_has_a_short_past : EachStandingHasAShortPast
each_standing_has_a_short_past = (
  (λ s progress stands. filling s 0 progress stands),
  λ s wf progress stands c. record { leads = filling_leads s wf progress stands c; few = filling_short s 0 progress stands },
)
