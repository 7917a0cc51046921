-- The behaviour of a path, event by event.
use Rattle.std.proofs.Common.{◌≡◌, ◌⊎◌, ◌≤◌, List, [], ◌∷◌, ◌++◌, refl, sym, ap, ◌∙◌, subst, inl, inr, arith}
use Rattle.std.proofs.lemmas.List.{append-nil, append_assoc}
use Rattle.path_model.specs.declared.history.Event.{Event}
use Rattle.path_model.specs.Trees.{Tree, op, seq, alt, burst, NoRepeats, NoBraces, NoNesting}
use Rattle.path_model.specs.Words.{IsWord}
use Rattle.path_model.proofs.Lists.{not_nil, last_parts, nil_parts, last_same}
use Rattle.path_model.proofs.Counts.{inn, out, May}
use Rattle.path_model.proofs.Same.{Balanced, Same, May_same, Same_sym, May_weaken, inn_nil, out_nil, Balanced_nil, inn_after, out_after, Same_after, Balanced_append}
use Rattle.path_model.specs.Behaviour.{IsRepeated, Behaves}
use Rattle.path_model.proofs.Solo.{Solo, alone, on, Stage, Meets, op_meets, seq_meets, alt_meets}
use Rattle.path_model.proofs.Burst.{burst_meets}

pub flat_fits : (s : Tree) → NoBraces s → NoNesting s
flat_fits (op b) f = tt
flat_fits (seq s t) f = (flat_fits s f.0, flat_fits t f.1)
flat_fits (alt s t) f = (flat_fits s f.0, flat_fits t f.1)
flat_fits (burst bd s) f = absurd f

pub meets : (s : Tree) → NoRepeats s → NoNesting s → Meets s
meets (op b) n f = op_meets b
meets (seq s t) n f = seq_meets s t n.2 (meets s n.0 f.0) (meets t n.1 f.1)
meets (alt s t) n f = alt_meets s t n.2 (meets s n.0 f.0) (meets t n.1 f.1)
meets (burst bd s) n f = burst_meets bd s f.0 n (meets s n (flat_fits s f.0)) f.1

-- the events so far, where the path is entered only when it isn't already
pub data Live (s : Tree) : List Event → Type 0 where
  start : Live s []
  step : (w : List Event) (e : Event) {v : List Event} → Live s w → May s w e (inn s w ≤ out s w) → v ≡ w ++ e ∷ [] → Live s v

pub live_front : (s : Tree) {v : List Event} → Live s v → (x y : List Event) → v ≡ x ++ y → Live s x
live_front s start x y h = subst (Live s) (sym (nil_parts x y (sym h)).0) start
live_front s (step w e r m h) x y k =
    elim (last_parts x y w e (sym k ∙ h)) [ inl p ↦ step w e r m p.1 | inr p ↦ live_front s r x p.0 p.2 ]

pub live_last : (s : Tree) {v : List Event} → Live s v → (x : List Event) (e : Event) → v ≡ x ++ e ∷ [] → Live s x × May s x e (inn s x ≤ out s x)
live_last s start x e h = absurd (not_nil x e (sym h))
live_last s (step w d r m h) x e k =
    let q = last_same w x d e (sym h ∙ k) in
    let r' = subst (Live s) q.0 r in
    let m' = subst (λ u. May s u d (inn s u ≤ out s u)) q.0 m in
    (r', subst (λ g. May s x g (inn s x ≤ out s x)) q.1 m')

solo_live : (s : Tree) {w : List Event} → Solo s w → Live s w
solo_live s alone = start
solo_live s (on w e r m h) = step w e (solo_live s r) (May_weaken s w e (λ (z : w ≡ []). omega (arith, ap (inn s) z, inn_nil s)) m) h

live_after : (s : Tree) (x : List Event) {y : List Event} → Balanced s x → inn s x ≡ out s x → Live s x → Live s y → Live s (x ++ y)
live_after s x b h r start = subst (Live s) (sym (append-nil x)) r
live_after s x b h r (step w e q m k) =
    step (x ++ w) e (live_after s x b h r q) (May_same s w (x ++ w) e go (Same_sym s (x ++ w) w (Same_after s x w b)) m) (ap (λ u. x ++ u) k ∙ sym (append_assoc x w (e ∷ [])))
  where
    go : inn s w ≤ out s w → inn s (x ++ w) ≤ out s (x ++ w)
    go l = omega (arith, l, h, inn_after s x w b, out_after s x w b)

module _ (s : Tree) (ms : Meets s) where
  repeated_live : (xs : List (List Event)) (w : List Event) → IsRepeated s xs w → Live s w
  repeated_live [] w h = subst (Live s) (sym h) start
  repeated_live (x ∷ xs) w (y, q, wx, r) =
      subst (Live s) (sym q) (live_after s x (ms.balanced x wx) (ms.entered x wx ∙ sym (ms.left x wx)) (solo_live s (ms.whole x wx)) (repeated_live xs y r))

  pub behaves_live : (h : List Event) → Behaves s h → Live s h
  behaves_live h (xs, (z, r)) = live_front s (repeated_live xs (h ++ z) r) h z refl

  repeated_more : (xs : List (List Event)) (u x : List Event) → IsRepeated s xs u → IsWord s x → IsRepeated s (xs ++ x ∷ []) (u ++ x)
  repeated_more [] u x r wx = ([], ap (λ v. v ++ x) r ∙ sym (append-nil x), wx, refl)
  repeated_more (y ∷ ys) u x (v, q, wy, r) wx = (v ++ x, ap (λ a. a ++ x) q ∙ append_assoc y v x, wy, repeated_more ys v x r wx)

  -- whole executions, and then one that isn't over
  pub record Parts (h : List Event) : Type 0 where
    pub words : List (List Event)
    pub over : List Event
    pub last : List Event
    pub joined : h ≡ over ++ last
    pub repeated : IsRepeated s words over
    pub balanced : Balanced s over
    pub even : inn s over ≡ out s over
    pub solo : Solo s last
    pub open_still : (last ≡ []) ⊎ ((inn s last ≡ 1) × (out s last ≡ 0))

  -- the next event goes on with the last execution
  fresh_when : (w : List Event) (p : Parts w) → inn s w ≤ out s w → p.last ≡ []
  fresh_when w p l = elim p.open_still [
    | inl z ↦ z
    | inr k ↦ absurd (omega (arith, l, k.0, k.1, p.even, ap (inn s) p.joined, ap (out s) p.joined, inn_after s p.over p.last p.balanced, out_after s p.over p.last p.balanced))
  ]

  pub solo_next : (w : List Event) (e : Event) → May s w e (inn s w ≤ out s w) → (p : Parts w) → Solo s (p.last ++ e ∷ [])
  solo_next w e m p = on p.last e p.solo (May_same s w p.last e (fresh_when w p) (subst (λ u. Same s u p.last) (sym p.joined) (Same_after s p.over p.last p.balanced)) m) refl

  parts_step : (w v : List Event) (e : Event) → v ≡ w ++ e ∷ [] → May s w e (inn s w ≤ out s w) → Parts w → Parts v
  parts_step w v e h m p = go (ms.stage (p.last ++ e ∷ []) r)
    where
      r : Solo s (p.last ++ e ∷ [])
      r = solo_next w e m p

      whole : v ≡ p.over ++ (p.last ++ e ∷ [])
      whole = h ∙ ap (λ u. u ++ e ∷ []) p.joined ∙ append_assoc p.over p.last (e ∷ [])

      go : Stage s (p.last ++ e ∷ []) → Parts v
      go (inl z) = absurd (not_nil p.last e z)
      go (inr (inl k)) = record { words = p.words; over = p.over; last = p.last ++ e ∷ []; joined = whole; repeated = p.repeated; balanced = p.balanced; even = p.even; solo = r; open_still = inr (k.1, k.2) }
      go (inr (inr k)) = record {
        words = p.words ++ (p.last ++ e ∷ []) ∷ [];
        over = p.over ++ (p.last ++ e ∷ []);
        last = [];
        joined = whole ∙ sym (append-nil _);
        repeated = repeated_more p.words p.over (p.last ++ e ∷ []) p.repeated k;
        balanced = Balanced_append s p.over (p.last ++ e ∷ []) p.balanced (ms.balanced _ k);
        even = omega (arith, p.even, ms.entered _ k, ms.left _ k, inn_after s p.over (p.last ++ e ∷ []) p.balanced, out_after s p.over (p.last ++ e ∷ []) p.balanced);
        solo = alone;
        open_still = inl refl;
      }

  pub parts : {h : List Event} → Live s h → Parts h
  parts start = record { words = []; over = []; last = []; joined = refl; repeated = refl; balanced = Balanced_nil s; even = inn_nil s ∙ sym (out_nil s); solo = alone; open_still = inl refl }
  parts (step w e {v = v} r m h) = parts_step w v e h m (parts r)

  pub live_behaves : (h : List Event) → Live s h → Behaves s h
  live_behaves h r = go (parts r)
    where
      go : Parts h → Behaves s h
      go p = let (z, k) = ms.finish p.last p.solo in
          (p.words ++ (p.last ++ z) ∷ [], (z, subst (IsRepeated s (p.words ++ (p.last ++ z) ∷ [])) (sym (ap (λ u. u ++ z) p.joined ∙ append_assoc p.over p.last z)) (repeated_more p.words p.over (p.last ++ z) p.repeated k)))
