-- Where nobody runs, a clear way is an admissible start, so that the first whose start is admissible is next.
use Rattle.std.proofs.Common.{◌≡◌, ◌<◌, ◌≤◌, ℕ, zero, suc, List, [], ◌∷◌, ◌++◌, length, take, arith, subst, inl, inr, Option, Some, None}
use Rattle.std.proofs.lemmas.Bool.{cases_lt}
use Rattle.std.proofs.lemmas.List.{length-take-le, get_or-take}
use Rattle.path_model.specs.declared.history.Event.{Event}
use Rattle.path_model.specs.declared.history.Event.TheVariants.{Began}
use Rattle.path_model.specs.Trees.{Tree}
use Rattle.path_model.specs.Legal.{Legal}
use Rattle.path_order.specs.declared.waiting.Waiter.{Waiter}
use Rattle.path_order.specs.Waiting.{nobody, waiter_at, asked}
use Rattle.path_order.specs.Rulings.{IsAdmissible, IsHeldBack, IsNext, IsFirstAdmissible}

module _ (xs : List (ℕ × Tree)) (n : ℕ) (h : List Event) (ws : List Waiter) where
  -- those who are held back are refused, one after the other: whom a start is withheld for is refused before
  all_refused : (i : ℕ) → i ≤ length ws → ((k : ℕ) → k < i → IsHeldBack xs n h [] ws k) → (m : ℕ) → m ≤ i → (k : ℕ) → k < m → IsAdmissible xs n h [] (asked (waiter_at ws k)) → ⊥
  all_refused i low back zero le k l admissible = omega (arith, l)
  all_refused i low back (suc m) le k l admissible = elim (cases_lt k m) [
    | inl below ↦ all_refused i low back m (omega (arith, le)) k below admissible
    | inr at ↦ elim (back k (omega (arith, le, l))) [
      | inl refused ↦ refused admissible
      | inr w ↦
          let long : length (take k ws) ≡ k = length-take-le k ws (omega (arith, le, l, low)) in
          let before : w.0 < k = (let j = w.1.within in omega (arith, j, long)) in
          all_refused i low back m (omega (arith, le)) w.0 (omega (arith, before, l))
          (subst (λ (v : Waiter). Legal xs (h ++ Began (asked v) ∷ [])) (get_or-take k ws w.0 nobody before) w.1.stands.clear)
    ]
  ]

  pub first_is_next : (found : Option ℕ) → IsNext xs n h [] ws found → IsFirstAdmissible xs n h [] ws found
  first_is_next None next = λ i l. all_refused (length ws) (omega arith) next (length ws) (omega arith) i l
  first_is_next (Some i) next = (next.0, next.1, λ k l. all_refused i (let low = next.0 in omega (arith, low)) next.3 i (omega arith) k l)
