-- After a legal history each value is small, a start finds room, and a finish finds its counter above 0.
use Rattle.std.proofs.Common.{◌≡◌, ◌+◌, ◌<◌, ◌≤◌, ◌^◌, ◌==◌, ℕ, cond, Bool, true, false, List, [], ◌∷◌, ◌++◌, arith, refl, sym, inl, inr}
use Rattle.std.proofs.lemmas.Bool.{cond-true, cond-false, eq-eqb, ne_eqb}
use Rattle.path_model.specs.declared.ids.OpId.{OpId}
use Rattle.path_model.specs.declared.history.Event.{Event}
use Rattle.path_model.specs.declared.history.Event.TheVariants.{Ended}
use Rattle.path_model.specs.Trees.{Tree, op, seq, alt, burst, any, most, Names, FewAtOnce, WellFormed, has}
use Rattle.path_model.specs.Histories.{op_of, starts_in}
use Rattle.path_model.specs.Projection.{LegalOn}
use Rattle.path_model.specs.Machine.{braces, Term, Plain, Braced, Counted, epilogue, Values, bound_at, opening}
use Rattle.path_model.specs.AmongOthers.{values_among}
use Rattle.path_model.specs.BoundedValues.{Bounded}
use Rattle.path_model.specs.Flat.{HasBound}
use Rattle.path_model.specs.Trimmed.{is_burst, LeanTerm, nothing, does, limits, lean, lean_epilogue, lean_changed, lean_among, SameKept}
use Rattle.path_model.specs.KeptTerms.{TouchesKept, FindsCounter}
use Rattle.path_model.proofs.CallerLemmas.{bounds_out, bound_within, lean_now, each_path_trims, values_among_are_bounded, finishes_find_their_counters}
use Rattle.path_gate.proofs.OnePath.{StartFits, FinishFits}
use Rattle.path_gate.proofs.Passes.{next}

-- bounds are at most 65,535
bound_small : (s : Tree) (m c : ℕ) → FewAtOnce s → HasBound s m c → bound_at s m c ≤ 65535
bound_small (op a) m c f h = absurd h
bound_small (seq s t) m c f (inl h) = let k = bound_within s m c h in let z = bounds_out t (m + braces s) c (inl k.1) in let r = bound_small s m c f.0 h in omega (arith, z, r)
bound_small (seq s t) m c f (inr h) = let k = bound_within t (m + braces s) c h in let z = bounds_out s m c (inr k.0) in let r = bound_small t (m + braces s) c f.1 h in omega (arith, z, r)
bound_small (alt s t) m c f (inl h) = let k = bound_within s m c h in let z = bounds_out t (m + braces s) c (inl k.1) in let r = bound_small s m c f.0 h in omega (arith, z, r)
bound_small (alt s t) m c f (inr h) = let k = bound_within t (m + braces s) c h in let z = bounds_out s m c (inr k.0) in let r = bound_small t (m + braces s) c f.1 h in omega (arith, z, r)
bound_small (burst any s) m c f (inl h) = absurd h.0
bound_small (burst any s) m c f (inr h) =
    let k = bound_within s (m + 1) c h in
    let e = cond-false (c == m) 0 (bound_at s (m + 1) c) (ne_eqb c m (λ z. omega (arith, k.0, z))) in
    let r = bound_small s (m + 1) c f h in
    omega (arith, e, r)
bound_small (burst (most n) s) m c f (inl h) =
    let e = cond-true (c == m) n (bound_at s (m + 1) c) (eq-eqb c m h.1) in
    let r = f.0 in
    omega (arith, e, r)
bound_small (burst (most n) s) m c f (inr h) =
    let k = bound_within s (m + 1) c h in
    let e = cond-false (c == m) n (bound_at s (m + 1) c) (ne_eqb c m (λ z. omega (arith, k.0, z))) in
    let r = bound_small s (m + 1) c f.1 h in
    omega (arith, e, r)

-- the counter of a term is above 0 where it is kept
abbrev FindsKept : LeanTerm → Values → Type 0
FindsKept nothing v = Unit {0}
FindsKept (does t) v = FindsCounter t v
FindsKept (limits c) v = Unit {0}

finds_kept : (b : Bool) (t : Term) (v : Values) → FindsCounter t v → FindsKept (lean b t) v
finds_kept b (Plain q) v f = tt
finds_kept true (Braced c q) v f = tt
finds_kept false (Braced c q) v f = f
finds_kept true (Counted c q) v f = tt
finds_kept false (Counted c q) v f = f

module _ (s : Tree) (wf : WellFormed s) (few : FewAtOnce s) (h : List Event) (l : LegalOn s h) (small : starts_in h ≤ 2 ^ 63 + 2 ^ 32) where
  same : SameKept s (lean_now h s) (values_among s (opening s) h)
  same = (each_path_trims s wf h).kept_values

  bounded : Bounded s (values_among s (opening s) h) (starts_in h)
  bounded = values_among_are_bounded s wf h l

  pub start_fits : (t : LeanTerm) → TouchesKept s t → StartFits t (lean_now h s)
  start_fits nothing k = tt
  start_fits (does (Plain q)) k = tt
  start_fits (does (Braced c q)) k = let e = same.counters c k.0.1 in let b = bounded.counters c in omega (arith, e, b, small)
  start_fits (does (Counted c q)) k = let e = same.counters c k.0.1 in let b = bounded.counters c in omega (arith, e, b, small)
  start_fits (limits c) k = tt

  bound_fits : (c : ℕ) → HasBound s 0 c → (lean_now h s).bound c + 1 < 2 ^ 64
  bound_fits c k = let e = same.bounds c in let b = bounded.limits c in let m = bound_small s 0 c few k in omega (arith, e, b, m)

  finish_fits : (t : LeanTerm) → TouchesKept s t → FindsKept t (values_among s (opening s) h) → FinishFits t (lean_now h s)
  finish_fits nothing k f = tt
  finish_fits (does (Plain q)) k f = let e = same.semaphores q k.1 in let b = bounded.semaphores q in omega (arith, e, b, small)
  finish_fits (does (Braced c q)) k f = (
    (let e = same.counters c k.0.1 in omega (arith, e, f)),
    (let e = same.semaphores q k.2 in let b = bounded.semaphores q in omega (arith, e, b, small)),
  )
  finish_fits (does (Counted c q)) k f = (
    (let e = same.counters c k.0.1 in omega (arith, e, f)),
    (let e = same.semaphores q k.1.1 in let b = bounded.semaphores q in omega (arith, e, b, small)),
    bound_fits c k.2,
  )
  finish_fits (limits c) k f = bound_fits c k

  pub ends_fit : (a : OpId) → Names s a → LegalOn s (h ++ Ended a ∷ []) → TouchesKept s (lean_epilogue s a) → FinishFits (lean_epilogue s a) (lean_now h s)
  ends_fit a n k t = finish_fits (lean_epilogue s a) t (finds_kept (is_burst s) (epilogue s a) (values_among s (opening s) h) (finishes_find_their_counters s wf h a n k))

-- the trimmed values after one more event
lean_more : (s : Tree) (v : Values) (h : List Event) (e : Event) → lean_among s v (h ++ e ∷ []) ≡ cond (has s (op_of e)) (lean_changed s e (lean_among s v h)) (lean_among s v h)
lean_more s v [] e = refl
lean_more s v (d ∷ h) e = lean_more s (cond (has s (op_of d)) (lean_changed s d v) v) h e

pub next_now : (h : List Event) (e : Event) (s : Tree) → next e (lean_now h) s ≡ lean_now (h ++ e ∷ []) s
next_now h e s = sym (lean_more s (opening s) h e)
