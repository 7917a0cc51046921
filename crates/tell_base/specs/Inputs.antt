-- Where an input is cut in two.
use Rattle.std.specs.Prelude.{◌≢◌, ℕ, List, [], ◌∷◌, ◌++◌}
use Rattle.path_fields.specs.Splits.{HasNone}

-- the input, line by line, with what precedes the first line that is `%` (37) alone, and what follows that line and its line
-- feed (10)
pub data Cuts : List ℕ → List ℕ → List ℕ → Type 0 where
  -- a line `%`, with a line feed or as the last line
  at_mark : {after : List ℕ} → Cuts (37 ∷ 10 ∷ after) [] after
  at_last_mark : Cuts (37 ∷ []) [] []
  -- another line
  past_line : {line rest before after : List ℕ} → HasNone 10 line → line ≢ 37 ∷ [] → Cuts rest before after
      → Cuts (line ++ 10 ∷ rest) (line ++ 10 ∷ before) after
  past_last : {line : List ℕ} → HasNone 10 line → line ≢ 37 ∷ [] → Cuts line line []
