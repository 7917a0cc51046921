-- Lines that are taken over, one after another.
use Rattle.std.proofs.Common.{◌≡◌, ℕ, ◌+◌, ◌<◌, List, length, get_or, take, sym, subst}
use Rattle.std.proofs.lemmas.List.{take_more}
use Rattle.std.proofs.lemmas.Option.{slice_get-get_or}
use Rattle.path_model.specs.declared.journal.Line.{Line}
use Rattle.path_model.specs.declared.journal.Reply.{Reply}
use Rattle.path_service.specs.Serving.{Serving}
use Rattle.path_service.specs.Taken.{IsUnowed, StopsAt, TakesLine, TakesLines}

module _ (old : Serving) (lines : List Line) (n : ℕ) (x : Line) (within : n < length lines) (behind new : Serving) (so_far : TakesLines old (take n lines) behind) where
  -- one line more
  pub one_more : TakesLine behind (get_or lines n x) new → TakesLines old (take (n + 1) lines) new
  one_more takes = subst (λ ls. TakesLines old ls new) (sym (take_more lines n x within)) (TakesLines.more (take n lines) (get_or lines n x) behind new so_far takes)

  -- the first that isn't taken
  pub stops_here : (reply : Reply) → new ≡ behind → IsUnowed behind (get_or lines n x) reply → StopsAt old lines n reply new
  stops_here reply kept unowed = record {
    line = get_or lines n x;
    at = slice_get-get_or lines n x within;
    taken = subst (TakesLines old (take n lines)) (sym kept) so_far;
    unowed = subst (λ s. IsUnowed s (get_or lines n x) reply) (sym kept) unowed;
  }
