-- The words of a tree are its executions, event by event.
use Rattle.std.proofs.Common.{◌≡◌, ◌≢◌, ◌⊎◌, ◌==◌, if◌then◌else◌, ◌<◌, ℕ, List, [], ◌∷◌, ◌++◌, refl, sym, ap, ◌∙◌, subst, inl, inr, arith}
use Rattle.std.proofs.lemmas.List.{append-nil, append_assoc}
use Rattle.std.proofs.lemmas.Bool.{eq-eqb, cond-true}
use Rattle.path_model.specs.declared.ids.OpId.{OpId}
use Rattle.path_model.specs.declared.history.Event.{Event}
use Rattle.path_model.specs.declared.history.Event.TheVariants.{Began, Ended}
use Rattle.path_model.specs.Trees.{Tree, op, seq, alt, Names, Apart}
use Rattle.path_model.specs.Histories.{op_of}
use Rattle.path_model.specs.Words.{IsWord}
use Rattle.path_model.specs.Behaviour.{IsFront}
use Rattle.path_model.proofs.Lists.{last_parts, nil_parts, cons_nil}
use Rattle.path_model.proofs.Counts.{ins, outs, inn, out, May, May-names, Foreign, Named}
use Rattle.path_model.proofs.Same.{Balanced, Same, May_same, May_weaken, Same_sym, inn_nil, out_nil, inn_after, out_after, Same_after, Balanced_append, foreign_inn, foreign_out, foreign_balanced, inn_before, out_before, Same_before, Starts, start_may, May_split, balanced_stuck}

-- the events of one execution so far
pub data Solo (s : Tree) : List Event → Type 0 where
  alone : Solo s []
  on : (w : List Event) (e : Event) {v : List Event} → Solo s w → May s w e (w ≡ []) → v ≡ w ++ e ∷ [] → Solo s v

pub named_more : (s : Tree) (w : List Event) (e : Event) → Named s w → Names s (op_of e) → Named s (w ++ e ∷ [])
named_more s [] e n m = (m, tt)
named_more s (f ∷ w) e n m = (n.0, named_more s w e n.1 m)

pub named_solo : (s : Tree) {w : List Event} → Solo s w → Named s w
named_solo s alone = tt
named_solo s (on w e r m h) = subst (Named s) (sym h) (named_more s w e (named_solo s r) (May-names s w e _ m))

pub apart_foreign : (s t : Tree) (w : List Event) → Apart s t → Named s w → Foreign t w
apart_foreign s t [] a n = tt
apart_foreign s t (e ∷ w) a n = (λ m. a (op_of e) n.0 m, apart_foreign s t w a n.1)

pub apart_swap : (s t : Tree) → Apart s t → Apart t s
apart_swap s t a o m n = a o n m

pub solo_front : (s : Tree) {v : List Event} → Solo s v → (x y : List Event) → v ≡ x ++ y → Solo s x
solo_front s alone x y h = subst (Solo s) (sym (nil_parts x y (sym h)).0) alone
solo_front s (on w e r m h) x y k =
    elim (last_parts x y w e (sym k ∙ h)) [ inl p ↦ on w e r m p.1 | inr p ↦ solo_front s r x p.0 p.2 ]

-- nothing yet, or within the execution, or it is over
abbrev pub Stage : Tree → List Event → Type 0
Stage s w = (w ≡ []) ⊎ (((w ≢ []) × (inn s w ≡ 1) × (out s w ≡ 0)) ⊎ IsWord s w)

-- the words of the tree are its whole executions
pub record Meets (s : Tree) : Type 0 where
  pub whole : (w : List Event) → IsWord s w → Solo s w
  pub balanced : (w : List Event) → IsWord s w → Balanced s w
  pub entered : (w : List Event) → IsWord s w → inn s w ≡ 1
  pub left : (w : List Event) → IsWord s w → out s w ≡ 1
  pub stage : (w : List Event) → Solo s w → Stage s w
  pub finish : (w : List Event) → Solo s w → IsFront (IsWord s) w
  pub begin : (e : Event) → Starts s e → May s [] e (Unit {0})

pub word_some : (s : Tree) → Meets s → (w : List Event) → IsWord s w → w ≢ []
word_some s m w h e = let f = m.entered w h in let g = inn_nil s in let k = ap (inn s) e in absurd (omega (arith, f, g, k))

-- an operation
self : (b : OpId) → ◌≡◌ {A = ℕ} (if b.0 == b.0 then 1 else 0) 1
self b = cond-true _ _ _ (eq-eqb b.0 b.0 refl)

op_solo : (b : OpId) {w : List Event} → Solo (op b) w → (w ≡ []) ⊎ ((w ≡ Began b ∷ []) ⊎ (w ≡ Began b ∷ Ended b ∷ []))
op_solo b alone = inl refl
op_solo b (on w e {v = v} r m h) = go e m h (op_solo b r)
  where
    go : (e : Event) → May (op b) w e (w ≡ []) → v ≡ w ++ e ∷ [] → (w ≡ []) ⊎ ((w ≡ Began b ∷ []) ⊎ (w ≡ Began b ∷ Ended b ∷ [])) → (v ≡ []) ⊎ ((v ≡ Began b ∷ []) ⊎ (v ≡ Began b ∷ Ended b ∷ []))
    go (Began a) m h c = inr (inl (h ∙ ap (λ x. x ++ Began a ∷ []) m.1 ∙ ap (λ x. Began x ∷ []) m.0))
    go (Ended a) m h (inl c) = absurd (omega (arith, m.1, ap (ins (op b)) c))
    go (Ended a) m h (inr (inl c)) = inr (inr (h ∙ ap (λ x. x ++ Ended a ∷ []) c ∙ ap (λ x. Began b ∷ Ended x ∷ []) m.0))
    go (Ended a) m h (inr (inr c)) = absurd (omega (arith, m.1, ap (ins (op b)) c, ap (outs (op b)) c, self b))

pub op_meets : (b : OpId) → Meets (op b)
op_meets b = record {
  whole = λ w h. on _ _ (on _ _ alone (refl, refl) refl) (refl, let k = self b in omega arith) h;
  balanced = λ w h. let k = self b in omega (arith, ap (ins (op b)) h, ap (outs (op b)) h, k);
  entered = λ w h. let k = self b in omega (arith, ap (ins (op b)) h, k);
  left = λ w h. let k = self b in omega (arith, ap (outs (op b)) h, k);
  stage = λ w r. stages w (op_solo b r);
  finish = λ w r. fronts w (op_solo b r);
  begin = λ e k. start_may (op b) tt [] e k tt;
}
  where
    stages : (w : List Event) → (w ≡ []) ⊎ ((w ≡ Began b ∷ []) ⊎ (w ≡ Began b ∷ Ended b ∷ [])) → Stage (op b) w
    stages w (inl h) = inl h
    stages w (inr (inl h)) = inr (inl (λ k. cons_nil (Began b) [] (sym h ∙ k), (let k = self b in omega (arith, ap (ins (op b)) h, k)), omega (arith, ap (outs (op b)) h)))
    stages w (inr (inr h)) = inr (inr h)

    fronts : (w : List Event) → (w ≡ []) ⊎ ((w ≡ Began b ∷ []) ⊎ (w ≡ Began b ∷ Ended b ∷ [])) → IsFront (IsWord (op b)) w
    fronts w (inl h) = (Began b ∷ Ended b ∷ [], ap (λ x. x ++ Began b ∷ Ended b ∷ []) h)
    fronts w (inr (inl h)) = (Ended b ∷ [], ap (λ x. x ++ Ended b ∷ []) h)
    fronts w (inr (inr h)) = ([], ap (λ x. x ++ []) h)

-- a sequence
module _ (s t : Tree) (ap_st : Apart s t) (ms : Meets s) (mt : Meets t) where
  foreign_t : (w : List Event) → Solo s w → Foreign t w
  foreign_t w r = apart_foreign s t w ap_st (named_solo s r)

  foreign_s : (w : List Event) → Solo t w → Foreign s w
  foreign_s w r = apart_foreign t s w (apart_swap s t ap_st) (named_solo t r)

  -- the left operand alone, or whole and then the right one
  abbrev pub SeqParts : List Event → Type 0
  SeqParts v = Solo s v ⊎ ((x : List Event) × (y : List Event) × (v ≡ x ++ y) × IsWord s x × Solo t y)

  seq_step : (w v : List Event) (e : Event) → v ≡ w ++ e ∷ [] → May s w e (w ≡ []) ⊎ May t w e (inn t w < out s w) → SeqParts w → SeqParts v
  seq_step w v e h (inl m) (inl r) = inl (on w e r m h)
  seq_step w v e h (inr m) (inl r) = go (May_split t w e m) (ms.stage w r)
    where
      go : (May t w e ⊥ ⊎ ((inn t w < out s w) × Starts t e)) → Stage s w → SeqParts v
      go (inl k) st = absurd (balanced_stuck t w e (foreign_balanced t w (foreign_t w r)) k)
      go (inr k) (inl z) = absurd (omega (arith, k.0, ap (out s) z, out_nil s))
      go (inr k) (inr (inl z)) = absurd (omega (arith, k.0, z.2))
      go (inr k) (inr (inr z)) = inr (w, e ∷ [], h, z, on [] e alone (May_weaken t [] e (λ _. refl) (mt.begin e k.1)) refl)
  seq_step w v e h (inl m) (inr (x, y, q, wx, ry)) = absurd (balanced_stuck s x e (ms.balanced x wx) (May_same s w x e no same m))
    where
      no : w ≡ [] → ⊥
      no k = word_some s ms x wx (nil_parts x y (sym q ∙ k)).0

      same : Same s w x
      same = subst (λ u. Same s u x) (sym q) (Same_before s x y (foreign_s y ry))
  seq_step w v e h (inr m) (inr (x, y, q, wx, ry)) = inr (x, y ++ e ∷ [], h ∙ ap (λ u. u ++ e ∷ []) q ∙ append_assoc x y (e ∷ []), wx, on y e ry (May_same t w y e yes same m) refl)
    where
      fx : Foreign t x
      fx = foreign_t x (ms.whole x wx)

      same : Same t w y
      same = subst (λ u. Same t u y) (sym q) (Same_after t x y (foreign_balanced t x fx))

      yes : inn t w < out s w → y ≡ []
      yes l = go (mt.stage y ry)
        where
          i : inn t w ≡ inn t y
          i = ap (inn t) q ∙ inn_after t x y (foreign_balanced t x fx) ∙ (let f = foreign_inn t x fx in omega arith)

          o : out s w ≡ 1
          o = ap (out s) q ∙ out_before s x y (foreign_s y ry) ∙ ms.left x wx

          go : Stage t y → y ≡ []
          go (inl z) = z
          go (inr (inl z)) = absurd (omega (arith, l, i, o, z.1))
          go (inr (inr z)) = absurd (omega (arith, l, i, o, mt.entered y z))

  pub seq_parts : {w : List Event} → Solo (seq s t) w → SeqParts w
  seq_parts alone = inl alone
  seq_parts (on w e {v = v} r m h) = seq_step w v e h m (seq_parts r)

  inn_right : (x y : List Event) → IsWord s x → inn t (x ++ y) ≡ inn t y
  inn_right x y wx =
      let f = foreign_t x (ms.whole x wx) in
      let g = inn_after t x y (foreign_balanced t x f) in
      let h = foreign_inn t x f in
      omega (arith, g, h)

  out_right : (x y : List Event) → IsWord s x → out t (x ++ y) ≡ out t y
  out_right x y wx =
      let f = foreign_t x (ms.whole x wx) in
      let g = out_after t x y (foreign_balanced t x f) in
      let h = foreign_out t x f in
      omega (arith, g, h)

  inn_both : (x y : List Event) → IsWord s x → Solo t y → inn s (x ++ y) ≡ 1
  inn_both x y wx ry = inn_before s x y (foreign_s y ry) ∙ ms.entered x wx

  out_both : (x y : List Event) → IsWord s x → Solo t y → out s (x ++ y) ≡ 1
  out_both x y wx ry = out_before s x y (foreign_s y ry) ∙ ms.left x wx

  solo_left : {w : List Event} → Solo s w → Solo (seq s t) w
  solo_left alone = alone
  solo_left (on w e r m h) = on w e (solo_left r) (inl m) h

  solo_right : (x : List Event) {y : List Event} → IsWord s x → Solo t y → Solo (seq s t) (x ++ y)
  solo_right x wx alone = subst (Solo (seq s t)) (sym (append-nil x)) (solo_left (ms.whole x wx))
  solo_right x wx (on y e r m h) = on (x ++ y) e (solo_right x wx r) (inr (May_same t y (x ++ y) e yes same m)) (ap (λ u. x ++ u) h ∙ sym (append_assoc x y (e ∷ [])))
    where
      same : Same t y (x ++ y)
      same = Same_sym t (x ++ y) y (Same_after t x y (foreign_balanced t x (foreign_t x (ms.whole x wx))))

      yes : y ≡ [] → inn t (x ++ y) < out s (x ++ y)
      yes z = let f = ap (inn t) z in omega (arith, inn_right x y wx, out_both x y wx r, f, inn_nil t)

  seq_balanced : (w : List Event) → IsWord (seq s t) w → Balanced (seq s t) w
  seq_balanced w (x, y, q, wx, wy) =
      let ry = mt.whole y wy in
      let b : Balanced (seq s t) (x ++ y) = (
        Balanced_append s x y (ms.balanced x wx) (foreign_balanced s y (foreign_s y ry)),
        Balanced_append t x y (foreign_balanced t x (foreign_t x (ms.whole x wx))) (mt.balanced y wy),
        inn_right x y wx ∙ mt.entered y wy ∙ sym (out_both x y wx ry),
      ) in
      subst (Balanced (seq s t)) (sym q) b

  seq_stage : (w : List Event) → SeqParts w → Stage (seq s t) w
  seq_stage w (inl r) = go (ms.stage w r)
    where
      go : Stage s w → Stage (seq s t) w
      go (inl z) = inl z
      go (inr (inl z)) = inr (inl (z.0, z.1, foreign_out t w (foreign_t w r)))
      go (inr (inr z)) = inr (inl (word_some s ms w z, ms.entered w z, foreign_out t w (foreign_t w r)))
  seq_stage w (inr (x, y, q, wx, ry)) = go (mt.stage y ry)
    where
      some : w ≢ []
      some k = word_some s ms x wx (nil_parts x y (sym q ∙ k)).0

      go : Stage t y → Stage (seq s t) w
      go (inl z) = inr (inl (some, ap (inn s) q ∙ inn_both x y wx ry, ap (out t) q ∙ out_right x y wx ∙ ap (out t) z ∙ out_nil t))
      go (inr (inl z)) = inr (inl (some, ap (inn s) q ∙ inn_both x y wx ry, ap (out t) q ∙ out_right x y wx ∙ z.2))
      go (inr (inr z)) = inr (inr (x, y, q, wx, z))

  seq_finish : (w : List Event) → SeqParts w → IsFront (IsWord (seq s t)) w
  seq_finish w (inl r) =
      let (z, wz) = ms.finish w r in
      let (u, wu) = mt.finish [] alone in
      (z ++ u, (w ++ z, u, sym (append_assoc w z u), wz, wu))
  seq_finish w (inr (x, y, q, wx, ry)) =
      let (z, wz) = mt.finish y ry in
      (z, (x, y ++ z, ap (λ u. u ++ z) q ∙ append_assoc x y z, wx, wz))

  pub seq_meets : Meets (seq s t)
  seq_meets = record {
    whole = whole;
    balanced = seq_balanced;
    entered = λ w h. ap (inn s) h.2 ∙ inn_both h.0 h.1 h.3 (mt.whole h.1 h.4);
    left = λ w h. ap (out t) h.2 ∙ out_right h.0 h.1 h.3 ∙ mt.left h.1 h.4;
    stage = λ w r. seq_stage w (seq_parts r);
    finish = λ w r. seq_finish w (seq_parts r);
    begin = λ e k. inl (May_weaken s [] e (λ _. tt) (ms.begin e k));
  }
    where
      whole : (w : List Event) → IsWord (seq s t) w → Solo (seq s t) w
      whole w (x, y, q, wx, wy) = subst (Solo (seq s t)) (sym q) (solo_right x wx (mt.whole y wy))

-- a selection
module _ (s t : Tree) (ap_st : Apart s t) (ms : Meets s) (mt : Meets t) where
  left_foreign : (w : List Event) → Solo s w → Foreign t w
  left_foreign w r = apart_foreign s t w ap_st (named_solo s r)

  right_foreign : (w : List Event) → Solo t w → Foreign s w
  right_foreign w r = apart_foreign t s w (apart_swap s t ap_st) (named_solo t r)

  alt_step : (w v : List Event) (e : Event) → v ≡ w ++ e ∷ [] → May s w e (w ≡ []) ⊎ May t w e (w ≡ []) → Solo s w ⊎ Solo t w → Solo s v ⊎ Solo t v
  alt_step w v e h (inl m) (inl r) = inl (on w e r m h)
  alt_step w v e h (inr m) (inr r) = inr (on w e r m h)
  alt_step w v e h (inr m) (inl r) = go (May_split t w e m)
    where
      go : (May t w e ⊥ ⊎ ((w ≡ []) × Starts t e)) → Solo s v ⊎ Solo t v
      go (inl k) = absurd (balanced_stuck t w e (foreign_balanced t w (left_foreign w r)) k)
      go (inr k) = inr (on [] e alone (May_weaken t [] e (λ _. refl) (mt.begin e k.1)) (h ∙ ap (λ u. u ++ e ∷ []) k.0))
  alt_step w v e h (inl m) (inr r) = go (May_split s w e m)
    where
      go : (May s w e ⊥ ⊎ ((w ≡ []) × Starts s e)) → Solo s v ⊎ Solo t v
      go (inl k) = absurd (balanced_stuck s w e (foreign_balanced s w (right_foreign w r)) k)
      go (inr k) = inl (on [] e alone (May_weaken s [] e (λ _. refl) (ms.begin e k.1)) (h ∙ ap (λ u. u ++ e ∷ []) k.0))

  pub alt_parts : {w : List Event} → Solo (alt s t) w → Solo s w ⊎ Solo t w
  alt_parts alone = inl alone
  alt_parts (on w e {v = v} r m h) = alt_step w v e h m (alt_parts r)

  from_left : {w : List Event} → Solo s w → Solo (alt s t) w
  from_left alone = alone
  from_left (on w e r m h) = on w e (from_left r) (inl m) h

  from_right : {w : List Event} → Solo t w → Solo (alt s t) w
  from_right alone = alone
  from_right (on w e r m h) = on w e (from_right r) (inr m) h

  alt_inn_left : (w : List Event) → Solo s w → inn (alt s t) w ≡ inn s w
  alt_inn_left w r = let f = foreign_inn t w (left_foreign w r) in omega (arith, f)

  alt_inn_right : (w : List Event) → Solo t w → inn (alt s t) w ≡ inn t w
  alt_inn_right w r = let f = foreign_inn s w (right_foreign w r) in omega (arith, f)

  alt_out_left : (w : List Event) → Solo s w → out (alt s t) w ≡ out s w
  alt_out_left w r = let f = foreign_out t w (left_foreign w r) in omega (arith, f)

  alt_out_right : (w : List Event) → Solo t w → out (alt s t) w ≡ out t w
  alt_out_right w r = let f = foreign_out s w (right_foreign w r) in omega (arith, f)

  pub alt_meets : Meets (alt s t)
  alt_meets = record { whole = whole; balanced = balanced; entered = entered; left = left; stage = λ w r. stage w (alt_parts r); finish = λ w r. finish w (alt_parts r); begin = begin }
    where
      whole : (w : List Event) → IsWord s w ⊎ IsWord t w → Solo (alt s t) w
      whole w (inl h) = from_left (ms.whole w h)
      whole w (inr h) = from_right (mt.whole w h)

      balanced : (w : List Event) → IsWord s w ⊎ IsWord t w → Balanced (alt s t) w
      balanced w (inl h) = (ms.balanced w h, foreign_balanced t w (left_foreign w (ms.whole w h)))
      balanced w (inr h) = (foreign_balanced s w (right_foreign w (mt.whole w h)), mt.balanced w h)

      entered : (w : List Event) → IsWord s w ⊎ IsWord t w → inn (alt s t) w ≡ 1
      entered w (inl h) = alt_inn_left w (ms.whole w h) ∙ ms.entered w h
      entered w (inr h) = alt_inn_right w (mt.whole w h) ∙ mt.entered w h

      left : (w : List Event) → IsWord s w ⊎ IsWord t w → out (alt s t) w ≡ 1
      left w (inl h) = alt_out_left w (ms.whole w h) ∙ ms.left w h
      left w (inr h) = alt_out_right w (mt.whole w h) ∙ mt.left w h

      stage : (w : List Event) → Solo s w ⊎ Solo t w → Stage (alt s t) w
      stage w (inl r) = elim (ms.stage w r) [
        | inl z ↦ inl z
        | inr z ↦ elim z [ inl k ↦ inr (inl (k.0, alt_inn_left w r ∙ k.1, alt_out_left w r ∙ k.2)) | inr k ↦ inr (inr (inl k)) ]
      ]
      stage w (inr r) = elim (mt.stage w r) [
        | inl z ↦ inl z
        | inr z ↦ elim z [ inl k ↦ inr (inl (k.0, alt_inn_right w r ∙ k.1, alt_out_right w r ∙ k.2)) | inr k ↦ inr (inr (inr k)) ]
      ]

      finish : (w : List Event) → Solo s w ⊎ Solo t w → IsFront (IsWord (alt s t)) w
      finish w (inl r) = let (z, h) = ms.finish w r in (z, inl h)
      finish w (inr r) = let (z, h) = mt.finish w r in (z, inr h)

      begin : (e : Event) → Starts s e ⊎ Starts t e → May s [] e (Unit {0}) ⊎ May t [] e (Unit {0})
      begin e (inl k) = inl (ms.begin e k)
      begin e (inr k) = inr (mt.begin e k)
