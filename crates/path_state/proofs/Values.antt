-- Where a path stands says what the values of its semaphores are.
use Rattle.std.proofs.Common.{◌≡◌, ◌+◌, ℕ, List, ap, subst, inl, inr, arith}
use Rattle.path_model.specs.declared.ids.OpId.{OpId}
use Rattle.path_model.specs.declared.history.Event.{Event}
use Rattle.path_model.specs.Trees.{Tree, op, seq, alt, burst}
use Rattle.path_model.specs.Machine.{semicolons, braces, Values}
use Rattle.path_model.specs.Guarantees.{PartsKeep, PartsCount, Keeps}
use Rattle.path_model.proofs.CallerLemmas.{each_path_keeps_its_counts, each_value_is_a_count}
use Rattle.path_state.specs.Values.{PartsStand, StandingsTellTheValues}
use Rattle.path_state.proofs.Places.{StandAt, Counted, underway_is, stand_after}

parts_stand : (t : Tree) (place n m : ℕ) → n ≡ place + 1 → (progress : OpId → ℕ) (stands : List ℕ) (h : List Event) (v : Values)
    → PartsKeep t h → Counted t progress h → StandAt t place stands h → PartsCount t n m h v → PartsStand t place m progress stands v
parts_stand (op a) place n m e progress stands h v k c p q = tt
parts_stand (seq l r) place n m e progress stands h v k c p q = (
  parts_stand l place n m e progress stands h v k.0 (λ a x. c a (inl x)) p.0 q.0,
  parts_stand r (place + semicolons l + 1) (n + semicolons l + 1) (m + braces l) (omega (arith, e)) progress stands h v k.1 (λ a x. c a (inr x)) p.1 q.1,
  (let same : n + semicolons l ≡ place + semicolons l + 1 = omega (arith, e) in omega (arith, p.2, q.2, ap v.semaphore same)),
)
parts_stand (alt l r) place n m e progress stands h v k c p q = (
  parts_stand l place n m e progress stands h v k.0 (λ a x. c a (inl x)) p.0 q.0,
  parts_stand r (place + semicolons l) (n + semicolons l) (m + braces l) (omega (arith, e)) progress stands h v k.1 (λ a x. c a (inr x)) p.1 q.1,
)
parts_stand (burst bd t) place n m e progress stands h v k c p q = (
  parts_stand t place n (m + 1) e progress stands h v k.0 c p q.0,
  omega (arith, q.1, underway_is t place progress stands h k.0 c p),
  q.2,
)

pub standings_tell_the_values : StandingsTellTheValues
standings_tell_the_values s wf progress stands h k = record {
  parts = parts_stand s 0 1 0 (omega arith) progress stands h _ keeps.parts k.counted there (each_value_is_a_count s wf h k.legal).parts;
  own = omega (arith, (each_value_is_a_count s wf h k.legal).own, underway_is s 0 progress stands h keeps.parts k.counted there);
}
  where
    keeps : Keeps s h
    keeps = each_path_keeps_its_counts s wf h k.legal

    there : StandAt s 0 stands h
    there = subst (λ zs. StandAt s 0 zs h) k.standing (stand_after s h keeps.parts)
