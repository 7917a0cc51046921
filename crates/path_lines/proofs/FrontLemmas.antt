-- What stands in the first eight bytes of a text stands in the text, and bytes that are compared as equal are.
use Rattle.std.proofs.Common.{◌≡◌, ℕ, ◌+◌, ◌-◌, ◌≤◌, List, ◌++◌, Bool, true, false, length, take, drop, sym, ap, ◌∙◌, append_assoc, arith, length-append, length-drop}
use Rattle.std.specs.Cmp.Lexicographic.{pointwise}
use Rattle.std.proofs.Math.Dec.{eqb}
use Rattle.std.proofs.Math.Seq.{drop-append_seam}
use Rattle.std.proofs.lemmas.Bool.{not-false}
use Rattle.std.proofs.lemmas.List.{take_all, take-append-drop, length-take-le}
use Rattle.std.proofs.lemmas.Slice.Eq.{bytes_eq-Decides}
use Rattle.std.specs.Prelude.{not}

module _ (text digits rest : List ℕ) (long : 8 ≤ length text) (e : take 8 text ≡ digits ++ rest) where
  both : length digits + length rest ≡ 8
  both = sym (length-append digits rest) ∙ ap length (sym e) ∙ length-take-le 8 text long

  pub front_left : length rest ≤ 8
  front_left = omega (arith, both)

  pub front_of : text ≡ digits ++ take (length text - (8 - length rest)) (drop (8 - length rest) text)
  front_of =
      let whole : text ≡ digits ++ (rest ++ drop 8 text) = sym (take-append-drop 8 text) ∙ ap (λ x. x ++ drop 8 text) e ∙ append_assoc digits rest (drop 8 text) in
      let cut : 8 - length rest ≡ length digits = let count = both in omega (arith, count) in
      let left : drop (8 - length rest) text ≡ rest ++ drop 8 text = ap (λ n. drop n text) cut ∙ ap (drop (length digits)) whole ∙ drop-append_seam digits (rest ++ drop 8 text) in
      let few : length (drop (8 - length rest) text) ≤ length text - (8 - length rest) = let k = length-drop (8 - length rest) text in omega (arith, k) in
      whole ∙ ap (λ x. digits ++ x) (sym left) ∙ ap (λ x. digits ++ x) (sym (take_all (length text - (8 - length rest)) (drop (8 - length rest) text) few))

pub same_bytes : (xs ys : List ℕ) → false ≡ not (pointwise eqb xs ys) → xs ≡ ys
same_bytes xs ys e = (bytes_eq-Decides xs ys).0 (not-false (pointwise eqb xs ys) (sym e))
