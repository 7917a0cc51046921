-- What a reader gave up to a bound.
use Rattle.std.proofs.Common.{◌≡◌, ℕ, ◌<◌, List, length, take, Option, Some, None, IfSome, ap, ◌∙◌, arith, min}
use Rattle.std.proofs.lemmas.List.{length-take, take_all}
use Rattle.std.specs.Option.{option_map}

pub read_whole : (known : Option (List ℕ)) (v : List ℕ) (most : ℕ) → IfSome (option_map (take most) known) (λ xs. v ≡ xs) → length v < most → IfSome known (λ bytes. v ≡ bytes)
read_whole None v most h lt = tt
read_whole (Some xs) v most h lt =
    let n : length v ≡ min most (length xs) = ap length h ∙ length-take most xs in
    h ∙ take_all most xs (omega arith)
