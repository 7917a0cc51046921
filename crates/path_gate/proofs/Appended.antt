-- Values are put one after the other; one whose number comes next is put at the end.
use Rattle.std.proofs.Common.{◌≡◌, ◌+◌, ◌-◌, ◌<◌, ◌++◌, ◌∷◌, ℕ, List, [], length, map, get_or, drop, replicate, sym, ap, ◌∙◌, arith}
use Rattle.std.proofs.Math.Seq.{set-append_seam}
use Rattle.std.specs.Prelude.{slice_set}
use Rattle.path_gate.specs.Inner.Initial.{put_value, put_all, at_zero}
use Rattle.path_gate.proofs.Runs.{drop_more}

pub put_next : (values new : List ℕ) (i x : ℕ) → i ≡ length values → new ≡ values ++ x ∷ [] → new ≡ put_value values i x
put_next values new i x e is =
    let one : 1 ≡ i + 1 - length values = omega (arith, e) in
    is
    ∙ sym (set-append_seam values 0 [] x)
    ∙ ap (λ k. slice_set (values ++ 0 ∷ []) k x) (sym e)
    ∙ ap (λ k. slice_set (values ++ replicate k 0) i x) one

-- a counter is put, and those after it are left
pub counter_put : (counters values after all : List ℕ) (i : ℕ) → i < length counters → after ≡ put_value values (get_or counters i 0) 0
    → put_all (map at_zero (drop i counters)) values ≡ all → put_all (map at_zero (drop (i + 1) counters)) after ≡ all
counter_put counters values after all i inside put before =
    ap (put_all (map at_zero (drop (i + 1) counters))) put ∙ ap (λ left. put_all (map at_zero left) values) (sym (drop_more counters i 0 inside)) ∙ before
