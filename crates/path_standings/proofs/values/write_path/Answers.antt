-- What is written are the numbers that the walk finds.
use Rattle.std.proofs.Common.{◌≡◌, ◌+◌, ◌-◌, ℕ, false, true, List, [], ◌∷◌, ◌++◌, length, ap, ◌∙◌, subst}
use Rattle.path_model.specs.Trees.{shape}
use Rattle.path_model.specs.Flat.{Sited}
use Rattle.path_model.specs.Trimmed.{is_burst}
use Rattle.path_standings.specs.Told.{progress_of}
use Rattle.path_standings.specs.Numbers.{spares, tallies}
use Rattle.path_standings.specs.Written.{WritesFrom}
use Rattle.path_standings.proofs.Shown.{whole_written, other_written}
use Rattle.path_standings.proofs.values.write_path.Goals as goal
use Rattle.path_standings.proofs.values.write_path.Goals.{then-not-is_whole, else-not-is_whole}

pub returns : goal.returns
returns g c =
    let x : Sited = record { tree = shape c.args.tree.now; own = c.args.own; first = c.args.first } in
    let row : List ℕ = c.args.row.now in
    let left : List ℕ = spares (shape c.args.tree.now) 0 (progress_of c.args.in_progress.now) c.args.row.now in
    let inside : List ℕ = tallies (shape c.args.tree.now) 0 (progress_of c.args.in_progress.now) c.args.row.now in
    let is_left : c.deref.result.now ≡ left = c.deref.ensures.value ∙ c.in_ok-push_numbers.ensures.left ∙ ap (λ ns. ns ++ left) c.new-left.ensures.items in
    let second : WritesFrom c.write_from.new.values c.write_from-2.new.values (c.args.own + 1 + length c.args.row.now) left =
    subst (WritesFrom c.write_from.new.values c.write_from-2.new.values (c.args.own + 1 + length c.args.row.now)) is_left c.write_from-2.ensures in
    elim c.if-not-is_whole.branch [
      | then-not-is_whole w ↦
          let is_inside : w.deref-then-not-is_whole.result.now ≡ inside = w.deref-then-not-is_whole.ensures.value ∙ c.in_ok-push_numbers.ensures.inside ∙ ap (λ ns. ns ++ inside) c.new-inside.ensures.items in
          let other : is_burst (shape c.args.tree.now) ≡ false = cc in
          rw (w.semaphores-is, w.counters-is)
          (other_written x (progress_of c.args.in_progress.now) row c.requires.can c.args.semaphores.now c.write_from.new.values c.write_from-2.new.values c.write_from.ensures second
          w.write_from-then-not-is_whole.new.values c.args.counters.now w.write_from-then-not-is_whole-2.new.values
          (subst (λ u. WritesFrom c.write_from-2.new.values w.write_from-then-not-is_whole.new.values c.args.own ((1 - u) ∷ [])) c.walk-walked.ensures.underway w.write_from-then-not-is_whole.ensures)
          (subst (WritesFrom c.args.counters.now w.write_from-then-not-is_whole-2.new.values c.args.first) is_inside w.write_from-then-not-is_whole-2.ensures) other)
      | else-not-is_whole w ↦
          let whole : is_burst (shape c.args.tree.now) ≡ true = cc in
          rw (w.semaphores-is, w.counters-is)
          (whole_written x (progress_of c.args.in_progress.now) row c.requires.can c.args.semaphores.now c.write_from.new.values c.write_from-2.new.values c.write_from.ensures second c.args.counters.now whole)
    ]
