-- What a step keeps, whichever lines led there: the gate and what is live stay together, and each that is live has a place for its finish.
use Rattle.std.proofs.Common.{◌≡◌, ◌≢◌, ℕ, ◌+◌, ◌<◌, ◌≤◌, Bool, true, false, List, [], ◌∷◌, ◌++◌, All, length, get_or, arith, refl, ap, sym, subst, ◌∙◌, Option, Some, None, inl, inr, eq-eqb, ne_eqb, length-append}
use Rattle.std.specs.Prelude.{◌==◌, if◌then◌else◌, not}
use Rattle.std.proofs.lemmas.Bool.{cases_eq, cond-true, cond-false}
use Rattle.std.proofs.lemmas.List.Elements.{All-cons, All-append, All-filter}
use Rattle.path_model.specs.declared.ids.OpId.{OpId}
use Rattle.path_model.specs.declared.ids.ActId.{ActId}
use Rattle.path_model.specs.declared.journal.Verb.{Verb}
use Rattle.path_model.specs.declared.journal.Attempt.{Attempt}
use Rattle.path_model.specs.declared.journal.Attempt.TheVariants.{Start, Apply, Finish}
use Rattle.path_model.specs.declared.journal.Reply.{Reply}
use Rattle.path_model.specs.declared.journal.Reply.TheVariants.{Started, Blocked, UnknownOperation, Finished, Stale, NotYours, NoRoom}
use Rattle.path_model.specs.declared.journal.Activation.{Activation}
use Rattle.path_model.specs.Declarations.{Declaration}
use Rattle.path_model.specs.Journals.{activation_of, live_count, without}
use Rattle.path_model.specs.Places.{has_room, is_own_of}
use Rattle.path_gate.specs.Standings.{IsNamed}
use Rattle.path_gate.proofs.CallerLemmas.{both_left, roomy, roomy_or, not_own}
use Rattle.path_step.specs.Steps.{Present, IsRunning, IsOver, MovesStart, MovesUse, MovesFinish, Moves, Answers, can_take}
use Rattle.path_step.specs.Presents.{AreTogether}

-- one that has the number is taken out, and the others stay
without_front : (n : ActId) (a : Activation) (live : List Activation) → a.act.0 ≡ n.0 → without n (a ∷ live) ≡ without n live
without_front n a live same = cond-false _ _ _ (ap not (eq-eqb a.act.0 n.0 same))

without_behind : (n : ActId) (a : Activation) (live : List Activation) → a.act.0 ≢ n.0 → without n (a ∷ live) ≡ a ∷ without n live
without_behind n a live other = cond-true _ _ _ (ap not (ne_eqb a.act.0 n.0 other))

found_front : (n : ActId) (a : Activation) (live : List Activation) → a.act.0 ≡ n.0 → activation_of n (a ∷ live) ≡ Some a
found_front n a live same = cond-true _ _ _ (eq-eqb a.act.0 n.0 same)

found_behind : (n : ActId) (a : Activation) (live : List Activation) → a.act.0 ≢ n.0 → activation_of n (a ∷ live) ≡ activation_of n live
found_behind n a live other = cond-false _ _ _ (ne_eqb a.act.0 n.0 other)

-- 1 if it is of the operation
abbrev one : Activation → OpId → ℕ
one a b = if a.op.0 == b.0 then 1 else 0

one_same : (a : Activation) → one a a.op ≡ 1
one_same a = cond-true _ _ _ (eq-eqb a.op.0 a.op.0 refl)

one_other : (a : Activation) (b : OpId) → b.0 ≢ a.op.0 → one a b ≡ 0
one_other a b other = cond-false _ _ _ (ne_eqb a.op.0 b.0 (λ same. other (sym same)))

count_more : (b : OpId) (live : List Activation) (a : Activation) → live_count b (live ++ a ∷ []) ≡ live_count b live + one a b
count_more b [] a = omega arith
count_more b (x ∷ live) a = let k = count_more b live a in omega (arith, k)

-- what one takes out isn't more than there was, and one less for what it names
pub record TakesOut (n : ActId) (live : List Activation) : Type 0 where
  pub counts : (b : OpId) → live_count b (without n live) ≤ live_count b live
  pub long : length (without n live) ≤ length live
  pub own : (a : Activation) → activation_of n live ≡ Some a → live_count a.op (without n live) + 1 ≤ live_count a.op live
  pub one_long : (a : Activation) → activation_of n live ≡ Some a → length (without n live) + 1 ≤ length live

pub takes_out : (n : ActId) (live : List Activation) → TakesOut n live
takes_out n [] = record { counts = λ b. omega arith; long = omega arith; own = λ a is. absurd (cc); one_long = λ a is. absurd (cc) }
takes_out n (x ∷ live) =
    let rest = takes_out n live in
    elim (cases_eq x.act.0 n.0) [
      | inl same ↦
          let gone = without_front n x live same in
          record {
            counts = λ b. (let k = rest.counts b in let e = ap (live_count b) gone in omega (arith, k, e));
            long = (let k = rest.long in let e = ap length gone in omega (arith, k, e));
            own = λ a is.
                let here : x ≡ a = some_same x a (sym (found_front n x live same) ∙ is) in
                subst (λ (y : Activation). live_count y.op (without n (x ∷ live)) + 1 ≤ live_count y.op (x ∷ live)) here
                (let k = rest.counts x.op in let e = ap (live_count x.op) gone in let o = one_same x in omega (arith, k, e, o));
            one_long = λ a is. (let k = rest.long in let e = ap length gone in omega (arith, k, e));
          }
      | inr other ↦
          let stays = without_behind n x live other in
          record {
            counts = λ b. (let k = rest.counts b in let e = ap (live_count b) stays in omega (arith, k, e));
            long = (let k = rest.long in let e = ap length stays in omega (arith, k, e));
            own = λ a is. (let k = rest.own a (sym (found_behind n x live other) ∙ is) in let e = ap (live_count a.op) stays in omega (arith, k, e));
            one_long = λ a is. (let k = rest.one_long a (sym (found_behind n x live other) ∙ is) in let e = ap length stays in omega (arith, k, e));
          }
    ]
  where
    some_same : (a b : Activation) → Some a ≡ Some b → a ≡ b
    some_same a b e = cc

-- what is found is counted
counted_found : (n : ActId) (live : List Activation) (a : Activation) → activation_of n live ≡ Some a → 0 < live_count a.op live
counted_found n live a is = let k = (takes_out n live).own a is in omega (arith, k)

pub together_running : (p : Present) (operations : ℕ) → AreTogether p operations → IsRunning p.standing p.register
together_running p operations t n a is named = let k = t.running a.op named in let l = counted_found n p.register.live a is in omega (arith, k, l)

module _ (d : Declaration) (old : Present) (w : ℕ) (t : AreTogether old (length d.operations)) where
  together_started : (a : OpId) (reply : Reply) (new : Present) → MovesStart (length d.operations) old w a reply new → AreTogether new (length d.operations)
  together_started a (Started n) new m =
      let one_more : Activation = record { act = n; worker = w; op = a } in
      let all : new.register.live ≡ old.register.live ++ one_more ∷ [] = ap (λ b. b.live) m.1.register in
      record {
        declared = subst (All (λ (a : Activation). a.op.0 < length d.operations)) (sym all)
            (All-append (λ (a : Activation). a.op.0 < length d.operations) old.register.live _ t.declared
            (All-cons (λ (a : Activation). a.op.0 < length d.operations) one_more [] m.0.declared (λ k d h. absurd (omega arith))));
        running = λ b named.
            let before = t.running b (subst (λ xs. IsNamed xs b) m.1.standing.paths named) in
            let more = ap (live_count b) all ∙ count_more b old.register.live one_more in
            elim (cases_eq b.0 a.0) [
              | inl same ↦
                  let here : b ≡ a = ap (λ (k : ℕ). record { 0 = k }) same in
                  let k = m.1.standing.counted (subst (IsNamed old.standing.paths) here (subst (λ xs. IsNamed xs b) m.1.standing.paths named)) in
                  let at : get_or new.standing.in_progress b.0 0 ≡ get_or new.standing.in_progress a.0 0 = ap (λ i. get_or new.standing.in_progress i 0) same in
                  let was : get_or old.standing.in_progress b.0 0 ≡ get_or old.standing.in_progress a.0 0 = ap (λ i. get_or old.standing.in_progress i 0) same in
                  let o : one one_more b ≡ 1 = cond-true _ _ _ (eq-eqb a.0 b.0 (sym same)) in
                  omega (arith, before, more, k, at, was, o)
              | inr other ↦ (let k = m.1.standing.others b other in let o = one_other one_more b other in omega (arith, before, more, k, o))
            ];
        admitted = (let k = t.admitted in let l = m.1.standing.admitted in let b = ap (λ b. b.begun) m.1.register in omega (arith, k, l, b));
      }
  together_started a (Blocked p) new m = subst (λ p. AreTogether p (length d.operations)) (sym m.1) t
  together_started a UnknownOperation new m = subst (λ p. AreTogether p (length d.operations)) (sym m.1) t
  together_started a reply new m = absurd m.0

  together_over : (n : ActId) (a : Activation) (reply : Reply) (new : Present) → activation_of n old.register.live ≡ Some a → IsOver old n a reply new → AreTogether new (length d.operations)
  together_over n a reply new is m =
      let rest : new.register.live ≡ without n old.register.live = ap (λ b. b.live) m.register in
      let out = takes_out n old.register.live in
      record {
        declared = subst (All (λ (a : Activation). a.op.0 < length d.operations)) (sym rest)
            (All-filter (λ (a : Activation). not (a.act.0 == n.0)) (λ (a : Activation). a.op.0 < length d.operations) old.register.live t.declared);
        running = λ b named.
            let before = t.running b (subst (λ xs. IsNamed xs b) m.standing.paths named) in
            let left = ap (live_count b) rest in
            elim (cases_eq b.0 a.op.0) [
              | inl same ↦
                  let here : b ≡ a.op = ap (λ (k : ℕ). record { 0 = k }) same in
                  let k = m.standing.counted (subst (IsNamed old.standing.paths) here (subst (λ xs. IsNamed xs b) m.standing.paths named)) in
                  let at : get_or new.standing.in_progress b.0 0 ≡ get_or new.standing.in_progress a.op.0 0 = ap (λ i. get_or new.standing.in_progress i 0) same in
                  let was : get_or old.standing.in_progress b.0 0 ≡ get_or old.standing.in_progress a.op.0 0 = ap (λ i. get_or old.standing.in_progress i 0) same in
                  let less : live_count b (without n old.register.live) + 1 ≤ live_count b old.register.live =
                  subst (λ (c : OpId). live_count c (without n old.register.live) + 1 ≤ live_count c old.register.live) (sym here) (out.own a is) in
                  omega (arith, before, left, k, at, was, less)
              | inr other ↦ (let k = m.standing.others b other in let l = out.counts b in omega (arith, before, left, k, l))
            ];
        admitted = (let k = t.admitted in let l = m.standing.admitted in let b = ap (λ b. b.begun) m.register in omega (arith, k, l, b));
      }

  together_finished : (n : ActId) (o : Option Activation) (reply : Reply) (new : Present) → activation_of n old.register.live ≡ o → MovesFinish old w n o reply new → AreTogether new (length d.operations)
  together_finished n None reply new is m = subst (λ p. AreTogether p (length d.operations)) (sym m.1) t
  together_finished n (Some a) reply new is m = elim (cases_eq a.worker w) [
    | inl own ↦ together_over n a reply new is (m.1 own)
    | inr other ↦ subst (λ p. AreTogether p (length d.operations)) (sym (m.0 other).1) t
  ]

module _ {D : Type 0} (contents : D → List (List ℕ)) (asked : D → ℕ → Verb → Reply → D → Type 0) (d : Declaration) (old : Present) (before : D) (room lines w : ℕ) (attempt : Attempt) (reply : Reply) (new : Present) (after : D)
    (answers : Answers contents asked d old before room lines w attempt reply new after) where
  -- a step keeps them together
  pub together_after : AreTogether old (length d.operations) → AreTogether new (length d.operations)
  together_after t = go _ refl
    where
      moved : (attempt : Attempt) → Moves contents asked d old before w attempt reply new after → AreTogether new (length d.operations)
      moved (Start a) m = together_started d old w t a reply new m.0
      moved (Apply n verb) m = subst (λ p. AreTogether p (length d.operations)) (sym m.1) t
      moved (Finish n) m = together_finished d old w t n (activation_of n old.register.live) reply new refl m.0

      go : (can : Bool) → can_take old room lines w attempt ≡ can → AreTogether new (length d.operations)
      go true is = moved attempt (answers.inside is)
      go false is = subst (λ p. AreTogether p (length d.operations)) (sym (answers.outside is).1) t

  -- and the gate's paths stay
  pub paths_after : new.standing.paths ≡ old.standing.paths
  paths_after = go _ refl
    where
      stays : new ≡ old → new.standing.paths ≡ old.standing.paths
      stays e = ap (λ (p : Present). p.standing.paths) e

      started : (a : OpId) (r : Reply) → MovesStart (length d.operations) old w a r new → new.standing.paths ≡ old.standing.paths
      started a (Started n) m = m.1.standing.paths
      started a (Blocked p) m = stays m.1
      started a UnknownOperation m = stays m.1
      started a r m = absurd m.0

      finished : (n : ActId) (o : Option Activation) → MovesFinish old w n o reply new → new.standing.paths ≡ old.standing.paths
      finished n None m = stays m.1
      finished n (Some a) m = elim (cases_eq a.worker w) [
        | inl own ↦ (m.1 own).standing.paths
        | inr other ↦ stays (m.0 other).1
      ]

      moved : (attempt : Attempt) → Moves contents asked d old before w attempt reply new after → new.standing.paths ≡ old.standing.paths
      moved (Start a) m = started a reply m.0
      moved (Apply n verb) m = stays m.1
      moved (Finish n) m = finished n (activation_of n old.register.live) m.0

      go : (can : Bool) → can_take old room lines w attempt ≡ can → new.standing.paths ≡ old.standing.paths
      go true is = moved attempt (answers.inside is)
      go false is = stays (answers.outside is).1

  -- and as many admitted as begun, if it was so
  pub admitted_after : old.standing.admitted ≡ old.register.begun → new.standing.admitted ≡ new.register.begun
  admitted_after same = go _ refl
    where
      stays : new ≡ old → new.standing.admitted ≡ new.register.begun
      stays e = subst (λ (p : Present). p.standing.admitted ≡ p.register.begun) (sym e) same

      started : (a : OpId) (r : Reply) → MovesStart (length d.operations) old w a r new → new.standing.admitted ≡ new.register.begun
      started a (Started n) m = (let l = m.1.standing.admitted in let b = ap (λ b. b.begun) m.1.register in omega (arith, same, l, b))
      started a (Blocked p) m = stays m.1
      started a UnknownOperation m = stays m.1
      started a r m = absurd m.0

      finished : (n : ActId) (o : Option Activation) → MovesFinish old w n o reply new → new.standing.admitted ≡ new.register.begun
      finished n None m = stays m.1
      finished n (Some a) m = elim (cases_eq a.worker w) [
        | inl own ↦ (let l = (m.1 own).standing.admitted in let b = ap (λ b. b.begun) (m.1 own).register in omega (arith, same, l, b))
        | inr other ↦ stays (m.0 other).1
      ]

      moved : (attempt : Attempt) → Moves contents asked d old before w attempt reply new after → new.standing.admitted ≡ new.register.begun
      moved (Start a) m = started a reply m.0
      moved (Apply n verb) m = stays m.1
      moved (Finish n) m = finished n (activation_of n old.register.live) m.0

      go : (can : Bool) → can_take old room lines w attempt ≡ can → new.standing.admitted ≡ new.register.begun
      go true is = moved attempt (answers.inside is)
      go false is = stays (answers.outside is).1

  abbrev Fits : Type 0
  Fits = lines + 1 + length new.register.live ≤ room

  -- with its line there are still places for the finishes of all that is live
  pub few_after : lines + length old.register.live ≤ room → reply ≢ NoRoom → lines + 1 + length new.register.live ≤ room
  few_after few some = go _ refl
    where
      stays : new ≡ old → lines + length old.register.live + 1 ≤ room → Fits
      stays e fits = (let k = ap (λ (p : Present). length p.register.live) e in omega (arith, fits, k))

      started : (a : OpId) (r : Reply) → lines + length old.register.live + 2 ≤ room → MovesStart (length d.operations) old w a r new → Fits
      started a (Started n) fits m =
          let k = ap (λ b. length b.live) m.1.register in
          let l = length-append old.register.live (record { act = n; worker = w; op = a } ∷ []) in
          omega (arith, fits, k, l)
      started a (Blocked p) fits m = stays m.1 (omega (arith, fits))
      started a UnknownOperation fits m = stays m.1 (omega (arith, fits))
      started a r fits m = absurd m.0

      finished : (n : ActId) (o : Option Activation) → activation_of n old.register.live ≡ o → (is_own_of w o ≡ false → lines + length old.register.live + 1 ≤ room) → MovesFinish old w n o reply new → Fits
      finished n None is fits m = stays m.1 (fits refl)
      finished n (Some a) is fits m = elim (cases_eq a.worker w) [
        | inl own ↦
            let k = ap (λ b. length b.live) (m.1 own).register in
            let l = (takes_out n old.register.live).one_long a is in
            omega (arith, few, k, l)
        | inr other ↦ stays (m.0 other).1 (fits (not_own w a other))
      ]

      moved : (attempt : Attempt) → has_room room lines old.register.live w attempt ≡ true → Moves contents asked d old before w attempt reply new after → Fits
      moved (Start a) has m = started a reply (roomy (lines + length old.register.live + 2) room has) m.0
      moved (Apply n verb) has m = stays m.1 (roomy (lines + length old.register.live + 1) room has)
      moved (Finish n) has m =
          finished n (activation_of n old.register.live) refl (λ other. roomy_or (lines + length old.register.live + 1) room (is_own_of w (activation_of n old.register.live)) has other) m.0

      go : (can : Bool) → can_take old room lines w attempt ≡ can → Fits
      go true is = moved attempt (both_left _ _ is) (answers.inside is)
      go false is = absurd (some (answers.outside is).0)
