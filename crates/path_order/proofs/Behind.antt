-- Who waits for the same as one before it, and came later, is held back as that one is.
use Rattle.std.proofs.Common.{◌≡◌, ◌<◌, ◌≤◌, ℕ, List, [], ◌∷◌, ◌++◌, length, take, arith, sym, subst, ◌∙◌, inl, inr}
use Rattle.std.proofs.lemmas.List.{length-take-le, get_or-take}
use Rattle.path_model.specs.declared.ids.OpId.{OpId}
use Rattle.path_model.specs.declared.history.Event.{Event}
use Rattle.path_model.specs.declared.history.Event.TheVariants.{Began}
use Rattle.path_model.specs.Trees.{Tree}
use Rattle.path_model.specs.Legal.{Legal}
use Rattle.path_order.specs.declared.waiting.Waiter.{Waiter}
use Rattle.path_order.specs.Waiting.{op_of, asked, nobody, waiter_at}
use Rattle.path_order.specs.Ways.{StandsInTheWay}
use Rattle.path_order.specs.Rulings.{IsWithheldFor, IsHeldBack}
use Rattle.path_order.specs.declared.spare.Spares.{Spares}
use Rattle.path_gate.specs.Standings.{Standing, IsAt}
use Rattle.path_order.specs.Beside.{AreReady}
use Rattle.path_order.specs.Inner.Spares.{IsBehind, IsOver}

module _ (xs : List (ℕ × Tree)) (n : ℕ) (h : List Event) (run : List OpId) (ws : List Waiter) (i : ℕ) (within : i < length ws) where
  -- those before a place are the same, however many are taken
  same_there : (k j : ℕ) → j < k → k ≤ i → waiter_at (take k ws) j ≡ waiter_at ws j
  same_there k j low le = get_or-take k ws j nobody low

  long : (k : ℕ) → k ≤ i → length (take k ws) ≡ k
  long k le = length-take-le k ws (omega (arith, le, within))

  withheld_like : (k j : ℕ) → k < i → (waiter_at ws k).operation ≡ (waiter_at ws i).operation → (waiter_at ws k).arrived < (waiter_at ws i).arrived
      → IsWithheldFor xs n h run (take k ws) (waiter_at ws k) j → IsWithheldFor xs n h run (take i ws) (waiter_at ws i) j
  withheld_like k j low same later w =
      let before : j < k = (let e = long k (omega (arith, low)) in let l = w.within in omega (arith, e, l)) in
      let there : waiter_at (take k ws) j ≡ waiter_at (take i ws) j =
      same_there k j before (omega (arith, low)) ∙ sym (same_there i j (omega (arith, low, before)) (omega arith)) in
      record {
        within = (let e = long i (omega arith) in omega (arith, e, before, low));
        shut = (let s = subst (λ (v : Waiter). v.shut_at < (waiter_at ws k).arrived) there w.shut in omega (arith, s, later));
        stands = subst (λ o. StandsInTheWay xs n h run (op_of o) (asked (waiter_at (take i ws) j))) same
            (subst (λ (v : Waiter). StandsInTheWay xs n h run (asked (waiter_at ws k)) (asked v)) there w.stands);
      }

  pub held_like : IsBehind ws i → ((k : ℕ) → k < i → IsHeldBack xs n h run ws k) → IsHeldBack xs n h run ws i
  held_like like back = elim (back like.0 like.1) [
    | inl refused ↦ inl (λ admissible. refused (subst (λ o. Legal xs (h ++ Began (op_of o) ∷ [])) (sym like.2) admissible))
    | inr w ↦ inr (w.0, withheld_like like.0 w.0 like.1 like.2 like.3 w.1)
  ]

-- those before a place are held back, and the spare gates stay where they are of use
pub record IsTrying {Y : Type 0} (g : Standing) (first : Spares Y) (run : List OpId) (ws : List Waiter) (i : ℕ) (s : Spares Y) : Type 0 where
  pub ready : AreReady g s
  pub operations : s.operations ≡ first.operations
  pub paths : s.paths ≡ first.paths
  pub over : IsOver g run s.clear
  pub back : (h : List Event) → Legal g.paths h → IsAt g h → (k : ℕ) → k < i → IsHeldBack g.paths first.paths h run ws k
