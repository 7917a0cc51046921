-- A text that is appended piece by piece.
use Rattle.std.proofs.Common.{◌≡◌, ◌+◌, ◌<◌, ◌≤◌, ◌++◌, ℕ, List, length, take, get_or, flat_map, sym, ap, ◌∙◌}
use Rattle.std.proofs.lemmas.List.{take_more, take_all, flat_map_more}

-- one piece more is appended
pub piece_more : {X : Type 0} (piece : X → List ℕ) (xs : List X) (i : ℕ) (d : X) (first before after : List ℕ) → i < length xs
    → after ≡ before ++ piece (get_or xs i d) → before ≡ first ++ flat_map piece (take i xs) → after ≡ first ++ flat_map piece (take (i + 1) xs)
piece_more piece xs i d first before after within more so_far =
    more ∙ ap (λ text. text ++ piece (get_or xs i d)) so_far ∙ flat_map_more piece first (take i xs) (get_or xs i d)
    ∙ ap (λ ys. first ++ flat_map piece ys) (sym (take_more xs i d within))

-- all pieces are appended
pub piece_all : {X : Type 0} (piece : X → List ℕ) (xs : List X) (i : ℕ) (first text : List ℕ) → length xs ≤ i
    → text ≡ first ++ flat_map piece (take i xs) → text ≡ first ++ flat_map piece xs
piece_all piece xs i first text whole so_far = so_far ∙ ap (λ ys. first ++ flat_map piece ys) (take_all i xs whole)
