-- Worked example of burst counts: one open burst, two labellings, the same counts.
use Rattle.std.proofs.Common.{◌≡◌, ◌≢◌, ◌==◌, if◌then◌else◌, ℕ, Bool, true, false, List, [], ◌∷◌, ◌++◌, refl, sym, ap, ◌∙◌, subst, arith}
use Rattle.std.proofs.lemmas.Bool.{eqb-true}
use Rattle.path_model.specs.declared.history.Event.{Event}
use Rattle.path_model.specs.Trees.{any, Tree, op, seq, WellFormed}
use Rattle.path_model.specs.Labellings.{events_of}
use Rattle.path_model.specs.Words.{IsWord}
use Rattle.path_model.specs.Behaviour.{IsFront, IsPartLabelling}
use Rattle.path_model.specs.BurstCounts.{itself, Many, OpenBurst, Unfinished, StandsAt, Counts}
use Rattle.path_model.proofs.Same.{Balanced}
use Rattle.path_model.proofs.Path.{meets, Live, behaves_live}
use Rattle.path_model.proofs.OpenBurst.{ob_balanced, each_labelling_counts, counters_tell_open_braces}
use Rattle.path_model.proofs.Examples.{o, began, ended, differ, crossing_labels, crossing_labels_one_b_over}

-- path { 0 ; 1 } end: two executions have begun 1, and one of them has ended it
abbrev pair : Tree
pair = seq (op (o 0)) (op (o 1))

abbrev crossing : List Event
crossing = began 0 ∷ ended 0 ∷ began 0 ∷ began 1 ∷ ended 0 ∷ began 1 ∷ ended 1 ∷ []

-- the first is over, or the second
abbrev with_end : ℕ → List (ℕ × Event)
with_end k = (1, began 0) ∷ (1, ended 0) ∷ (2, began 0) ∷ (1, began 1) ∷ (2, ended 0) ∷ (2, began 1) ∷ (k, ended 1) ∷ []

abbrev first_over : List (ℕ × Event)
first_over = with_end 1

abbrev second_over : List (ℕ × Event)
second_over = with_end 2

well_formed : WellFormed crossing_labels
well_formed = record { names_once = (tt, tt, differ); not_nested = ((tt, tt), tt) }

-- what holds of each front of a list
abbrev EachFront : (List Event → Type 0) → List Event → Type 0
EachFront P [] = P []
EachFront P (e ∷ h) = P [] × EachFront (λ u. P (e ∷ u)) h

front_of : (h : List Event) (P : List Event → Type 0) → EachFront P h → (u w : List Event) → h ≡ u ++ w → P u
front_of [] P f [] w j = f
front_of [] P f (x ∷ u) w j = absurd (cc)
front_of (e ∷ h) P f [] w j = f.0
front_of (e ∷ h) P f (x ∷ u) w j = subst (λ y. P (y ∷ u)) head (front_of h (λ v. P (e ∷ v)) f.1 u w tail)
  where
    head : e ≡ x
    head = cc

    tail : h ≡ u ++ w
    tail = cc

-- the braces were open all the time
only_at_first : (u w : List Event) → crossing ≡ u ++ w → Balanced crossing_labels u → u ≡ []
only_at_first u w j =
    front_of crossing (λ v. Balanced crossing_labels v → v ≡ [])
    (λ b. refl, (λ b. absurd (omega (arith, b.0)), (λ b. absurd (omega (arith, b.0)), (λ b. absurd (omega (arith, b.0)), (λ b. absurd (omega (arith, b.0)), (λ b. absurd (omega (arith, b.0)), (λ b. absurd (omega (arith, b.0)), λ b. absurd (omega (arith, b.0))))))))) u w j

crossing_open : OpenBurst any pair crossing crossing
crossing_open = subst (OpenBurst any pair crossing) whole ob
  where
    found : (w : List Event) × OpenBurst any pair crossing w
    found = (counters_tell_open_braces crossing_labels well_formed any pair 1 0 itself crossing crossing_labels_one_b_over).0 (omega arith)

    w : List Event
    w = found.0

    ob : OpenBurst any pair crossing w
    ob = found.1

    r : Live crossing_labels crossing
    r = behaves_live crossing_labels (meets crossing_labels well_formed.names_once well_formed.not_nested) crossing crossing_labels_one_b_over

    closed : Balanced crossing_labels ob.before
    closed = ob_balanced any pair 1 0 crossing_labels itself well_formed.names_once well_formed.not_nested crossing w r ob

    whole : w ≡ crossing
    whole = sym (ob.joined ∙ ap (λ u. u ++ w) (only_at_first ob.before w ob.joined closed))

-- the events of the labels that meet a test, and a test by two answers
abbrev chosen : (ℕ → Bool) → List (ℕ × Event) → List Event
chosen p [] = []
chosen p (l ∷ ls) = if p l.0 then (l.1 ∷ chosen p ls) else chosen p ls

abbrev of_two : Bool → Bool → ℕ → Bool
of_two x y k = if k == 1 then x else if k == 2 then y else false

whole_pair : IsFront (IsWord pair) (began 0 ∷ ended 0 ∷ began 1 ∷ ended 1 ∷ [])
whole_pair = ([], (began 0 ∷ ended 0 ∷ [], began 1 ∷ ended 1 ∷ [], refl, refl, refl))

part_of_pair : IsFront (IsWord pair) (began 0 ∷ ended 0 ∷ began 1 ∷ [])
part_of_pair = (ended 1 ∷ [], (began 0 ∷ ended 0 ∷ [], began 1 ∷ ended 1 ∷ [], refl, refl, refl))

one_two : (k : ℕ) → (k == 1) ≡ true → (k == 2) ≡ true → ⊥
one_two k e f = omega (arith, eqb-true k 1 e, eqb-true k 2 f)

first_over_labels : IsPartLabelling pair first_over
first_over_labels k = go (k == 1) (k == 2) refl refl
  where
    go : (x y : Bool) → (k == 1) ≡ x → (k == 2) ≡ y → chosen (of_two x y) (with_end 1) ≢ [] → IsFront (IsWord pair) (chosen (of_two x y) (with_end 1))
    go true true e f n = absurd (one_two k e f)
    go true false e f n = whole_pair
    go false true e f n = part_of_pair
    go false false e f n = absurd (n refl)

second_over_labels : IsPartLabelling pair second_over
second_over_labels k = go (k == 1) (k == 2) refl refl
  where
    go : (x y : Bool) → (k == 1) ≡ x → (k == 2) ≡ y → chosen (of_two x y) (with_end 2) ≢ [] → IsFront (IsWord pair) (chosen (of_two x y) (with_end 2))
    go true true e f n = absurd (one_two k e f)
    go true false e f n = part_of_pair
    go false true e f n = whole_pair
    go false false e f n = absurd (n refl)

-- both are labellings of the one burst, and another execution is unfinished in each
one_burst : (events_of first_over ≡ crossing) × (events_of second_over ≡ crossing)
one_burst = (refl, refl)

not_whole : IsWord pair (began 0 ∷ ended 0 ∷ began 1 ∷ []) → ⊥
not_whole (x, y, j, e, f) = absurd (cc)

first_over_unfinished : Unfinished pair first_over 2 × (Unfinished pair first_over 1 → ⊥)
unfolding whole_pair
first_over_unfinished = ((λ z. absurd (cc), not_whole), λ u. u.1 whole_pair.1)

second_over_unfinished : Unfinished pair second_over 1 × (Unfinished pair second_over 2 → ⊥)
unfolding whole_pair
second_over_unfinished = ((λ z. absurd (cc), not_whole), λ u. u.1 whole_pair.1)

-- by the law each counts the same: one execution is unfinished, and none stands at the semicolon
counts_of : (ls : List (ℕ × Event)) → events_of ls ≡ crossing → IsPartLabelling pair ls → Many (Unfinished pair ls) 1 × Many (StandsAt (op (o 0)) (op (o 1)) ls) 0
counts_of ls e pl = (c.counter, c.semaphores (op (o 0)) (op (o 1)) 1 1 itself)
  where
    c : Counts crossing_labels pair any 1 0 crossing ls
    c = each_labelling_counts crossing_labels well_formed any pair 1 0 itself crossing crossing crossing_labels_one_b_over crossing_open ls e pl

first_over_counts : Many (Unfinished pair first_over) 1 × Many (StandsAt (op (o 0)) (op (o 1)) first_over) 0
first_over_counts = counts_of first_over one_burst.0 first_over_labels

second_over_counts : Many (Unfinished pair second_over) 1 × Many (StandsAt (op (o 0)) (op (o 1)) second_over) 0
second_over_counts = counts_of second_over one_burst.1 second_over_labels
