-- A spare gate that has the values and counts of a gate is at each history at which that gate is.
use Rattle.std.proofs.Common.{ℕ, List, length, arith, refl, ap, sym, subst, ◌∙◌}
use Rattle.path_model.specs.declared.history.Event.{Event}
use Rattle.path_model.specs.Trees.{Names}
use Rattle.path_model.specs.Legal as legal
use Rattle.path_gate.specs.Levels.{Levels}
use Rattle.path_gate.specs.Standings.{Standing, IsAt, IsNamed, AreCounts, HavePasts, CanHave, Restored, having}
use Rattle.path_gate.proofs.CallerLemmas.{same_pasts}
use Rattle.path_order.specs.Beside.{Fits}

module _ (g spare : Standing) (n : ℕ) (fits : Fits g spare n) (counts : List ℕ) (so : AreCounts g n counts) where
  abbrev moved : ℕ → Standing
  moved m = having spare g.levels.semaphores g.levels.counters counts m

  having_at : (m : ℕ) (h : List Event) → IsAt g h → IsAt (moved m) h
  having_at m h at =
      let here : IsAt (record { paths = g.paths; levels = g.levels; in_progress = counts; admitted = m }) h =
      record { values = at.values; unkept_semaphores = at.unkept_semaphores; unkept_counters = at.unkept_counters; progress = λ a named. (let e = so.same a.0 (fits.named a named) in let p = at.progress a named in omega (arith, e, p)) } in
      subst (λ xs. IsAt (record { paths = xs; levels = g.levels; in_progress = counts; admitted = m }) h) (sym fits.paths) here

  pub can_stand : HavePasts g → CanHave spare g.levels.semaphores g.levels.counters counts g.admitted
  can_stand pasts = record {
    semaphores = sym fits.semaphores;
    counters = sym fits.counters;
    small = so.small;
    named = λ a named. (let l = fits.named a (subst (λ xs. IsNamed xs a) fits.paths named) in let e = so.long in omega (arith, l, e));
    idle = λ a none. so.idle a (subst (λ xs. legal.NoneOf (λ s. Names s a) xs) fits.paths none);
    pasts = subst (λ xs. HavePasts (record { paths = xs; levels = g.levels; in_progress = counts; admitted = g.admitted })) (sym fits.paths)
        (same_pasts g counts g.admitted (λ a named. so.same a.0 (fits.named a named)) refl pasts);
  }

  module _ (m : ℕ) (new : Standing) (back : Restored spare g.levels.semaphores g.levels.counters counts m new) where
    pub stands_at : (h : List Event) → IsAt g h → IsAt new h
    stands_at h at = back.at h (having_at m h at)

    pub fits_still : Fits g new n
    fits_still = record {
      paths = back.paths ∙ fits.paths;
      semaphores = ap (λ (v : Levels). length v.semaphores) back.values;
      counters = ap (λ (v : Levels). length v.counters) back.values;
      named = fits.named;
      well_formed = fits.well_formed;
    }
