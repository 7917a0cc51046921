-- The pasts of the paths: one more event, and one history for all.
use Rattle.std.proofs.Common.{◌≡◌, ◌≢◌, ◌⊎◌, ◌+◌, ◌-◌, ◌<◌, ◌≤◌, ◌^◌, ℕ, Bool, true, false, List, [], ◌∷◌, ◌++◌, length, get_or, arith, refl, sym, subst, ◌∙◌, inl, inr}
use Rattle.std.proofs.Math.ListN.{set}
use Rattle.std.proofs.lemmas.List.{get_or-set_other, get_or-set_same}
use Rattle.std.proofs.lemmas.Bool.{cases_Bool, cases_eq}
use Rattle.path_model.specs.declared.ids.OpId.{OpId}
use Rattle.path_model.specs.declared.history.Event.{Event}
use Rattle.path_model.specs.declared.history.Event.TheVariants.{Began, Ended}
use Rattle.path_model.specs.Trees.{Tree, Names, WellFormed, has}
use Rattle.path_model.specs.Histories.{begun, ended, starts_in, InProgress}
use Rattle.path_model.specs.Projection.{LegalOn}
use Rattle.path_model.specs.Legal as legal
use Rattle.path_model.specs.AllPaths.{Judged}
use Rattle.path_model.specs.Flat.{Sited}
use Rattle.path_model.specs.Trimmed.{lean_prologue, LeanPasses, LeanBlocks}
use Rattle.path_model.proofs.CallerLemmas.{has_names, names_has, all_paths_judge, every_map, every_both, lean_now, lean_after_placed, trimmed_admits_the_words}
use Rattle.path_gate.specs.declared.gate.Term.{Term}
use Rattle.path_gate.specs.Sites.{kept_paths, Shows}
use Rattle.path_gate.specs.Standings.{Standing, IsNamed, IsAt, HasPast, HavePasts}
use Rattle.path_gate.specs.Inner.Terms.{one_more, one_less}
use Rattle.path_gate.proofs.KeptPaths.{every_kept}
use Rattle.path_gate.proofs.Counts.{begun_few}

true_false : true ≡ false → ⊥
true_false z = cc

-- what a path that is kept names, a path names
each_not : (P : OpId → Sited → Type 0) (ys : List (ℕ × Sited)) → legal.Every (λ x. (a : OpId) → P a x → legal.Every (λ y. P a y → ⊥) ys → ⊥) ys
each_not P [] = tt
each_not P (y ∷ ys) = ((λ a p e. e.0 p), every_map (λ x k a p e. k a p e.1) ys (each_not P ys))

pub named_kept : (xs : List (ℕ × Tree)) → legal.Every (λ x. (a : OpId) → Names x.tree a → IsNamed xs a) (kept_paths xs)
named_kept xs = every_map (λ x k a n none. k a n (every_kept (λ s. Names s a → ⊥) xs none)) (kept_paths xs) (each_not (λ a x. Names x.tree a) (kept_paths xs))

-- a start that the path lets in, and a finish of what is in progress
module _ (s : Tree) (wf : WellFormed s) (h : List Event) (l : LegalOn s h) (a : OpId) where
  pub one_begins : (Names s a → LeanPasses (lean_prologue s a) (lean_now h s)) → LegalOn s (h ++ Began a ∷ [])
  one_begins passes =
      ((trimmed_admits_the_words ((0, s) ∷ []) (wf, tt) h (l, tt) a).starts.0
      (subst (λ m. legal.NoneOf (LeanBlocks a) m) (sym (lean_after_placed ((0, s) ∷ []) h)) ((λ b. b.1 (passes b.0)), tt))).0

  judged : Judged ((0, s) ∷ []) h
  judged = all_paths_judge ((0, s) ∷ []) (wf, tt) h (l, tt)

  pub one_ends : (Names s a → InProgress a h) → LegalOn s (h ++ Ended a ∷ [])
  one_ends progress = elim (cases_Bool (has s a)) [
    | inl named ↦ (judged.finishes a (progress (names_has s a named))).0
    | inr other ↦ ((judged.unnamed a ((λ n. true_false (sym (has_names s a n) ∙ other)), tt)).2).0
  ]

-- the counts with one more and with one less
module _ (counts : List ℕ) (a : ℕ) where
  pub more_at : (terms : List Term) → terms ≢ [] → a < length counts → get_or (one_more terms a counts) a 0 ≡ get_or counts a 0 + 1
  more_at [] n l = absurd (n refl)
  more_at (t ∷ terms) n l = get_or-set_same counts a (get_or counts a 0 + 1) 0 l

  pub more_off : (terms : List Term) (b : ℕ) → b ≢ a → get_or (one_more terms a counts) b 0 ≡ get_or counts b 0
  more_off [] b n = refl
  more_off (t ∷ terms) b n = get_or-set_other counts a b (get_or counts a 0 + 1) 0 n

  pub less_at : (terms : List Term) → terms ≢ [] → a < length counts → 0 < get_or counts a 0 → get_or (one_less terms a counts) a 0 + 1 ≡ get_or counts a 0
  less_at [] n l some = absurd (n refl)
  less_at (t ∷ terms) n l some = let e = get_or-set_same counts a (get_or counts a 0 - 1) 0 l in omega (arith, e, some)

  pub less_off : (terms : List Term) (b : ℕ) → b ≢ a → get_or (one_less terms a counts) b 0 ≡ get_or counts b 0
  less_off [] b n = refl
  less_off (t ∷ terms) b n = get_or-set_other counts a b (get_or counts a 0 - 1) 0 n

  -- none is more than one more than it was, and none more than it was
  pub more_few : (terms : List Term) (b : ℕ) → (terms ≢ [] → a < length counts) → get_or (one_more terms a counts) b 0 ≤ get_or counts b 0 + 1
  more_few [] b l = omega arith
  more_few (t ∷ terms) b l = elim (cases_eq b a) [
    | inl e ↦ (let same : get_or (set counts a (get_or counts a 0 + 1)) b 0 ≡ get_or counts b 0 + 1 = subst (λ y. get_or (set counts a (get_or counts a 0 + 1)) y 0 ≡ get_or counts y 0 + 1) (sym e) (get_or-set_same counts a (get_or counts a 0 + 1) 0 (l (λ z. cc))) in omega (arith, same))
    | inr n ↦ (let same = get_or-set_other counts a b (get_or counts a 0 + 1) 0 n in omega (arith, same))
  ]

  pub less_few : (terms : List Term) (b : ℕ) → (terms ≢ [] → a < length counts) → get_or (one_less terms a counts) b 0 ≤ get_or counts b 0
  less_few [] b l = omega arith
  less_few (t ∷ terms) b l = elim (cases_eq b a) [
    | inl e ↦ (let same : get_or (set counts a (get_or counts a 0 - 1)) b 0 ≡ get_or counts b 0 - 1 = subst (λ y. get_or (set counts a (get_or counts a 0 - 1)) y 0 ≡ get_or counts y 0 - 1) (sym e) (get_or-set_same counts a (get_or counts a 0 - 1) 0 (l (λ z. cc))) in omega (arith, same))
    | inr n ↦ (let same = get_or-set_other counts a b (get_or counts a 0 - 1) 0 n in omega (arith, same))
  ]

-- the same values and counts have the same pasts
module _ (g : Standing) (counts : List ℕ) (admitted : ℕ) (same : (a : OpId) → IsNamed g.paths a → get_or counts a.0 0 ≡ get_or g.in_progress a.0 0) (as_many : admitted ≡ g.admitted) where
  abbrev counted_so : Standing
  counted_so = record { paths = g.paths; levels = g.levels; in_progress = counts; admitted = admitted }

  same_past : (past : Tree → List Event) (x : Sited) → ((a : OpId) → Names x.tree a → IsNamed g.paths a) → HasPast g (past x.tree) x → HasPast counted_so (past x.tree) x
  same_past past x named k = record {
    follows = k.follows;
    values = k.values;
    progress = λ a n. (let e = same a (named a n) in let p = k.progress a n in omega (arith, e, p));
    few = (let f = k.few in omega (arith, f, as_many));
  }

  pub same_pasts : HavePasts g → HavePasts counted_so
  same_pasts pasts = record {
    past = pasts.past;
    each = every_both (same_past pasts.past) (kept_paths g.paths) (named_kept g.paths) pasts.each;
    counts = λ a n. (let e = same a n in let c = pasts.counts a n in omega (arith, e, c, as_many));
  }

-- one history of all paths is a past of each
module _ (g : Standing) (h : List Event) (l : legal.Legal g.paths h) (at : IsAt g h) (starts : starts_in h ≡ g.admitted) where
  abbrev StandsAt : Sited → Type 0
  StandsAt x = LegalOn x.tree h × Shows g.levels (lean_now h x.tree) x

  stand_at : legal.Every StandsAt (kept_paths g.paths)
  stand_at = every_both (λ x k v. (k, v)) (kept_paths g.paths) (every_kept (λ s. LegalOn s h) g.paths l) at.values

  one_past : (x : Sited) → ((a : OpId) → Names x.tree a → IsNamed g.paths a) → StandsAt x → HasPast g h x
  one_past x named k = record { follows = k.0; values = k.1; progress = λ a n. at.progress a (named a n); few = (omega (arith, starts)) }

  pub one_history : HavePasts g
  one_history = record {
    past = λ s. h;
    each = every_both one_past (kept_paths g.paths) (named_kept g.paths) stand_at;
    counts = λ a n. (let p = at.progress a n in let b = begun_few a h in omega (arith, p, b, starts));
  }
