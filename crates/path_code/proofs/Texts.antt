-- The text of paths is the text of their codes.
use Rattle.std.proofs.Common.{◌≡◌, ◌+◌, ℕ, List, [], ◌∷◌, ◌++◌, refl, ap, ◌∙◌}
use Rattle.path_model.specs.Flat.{Sited}
use Rattle.path_model.specs.Declarations.{Declaration, Path}
use Rattle.path_code.specs.declared.code.PathCode.{PathCode}
use Rattle.path_code.specs.PathCodes.{IsPathCode, ArePathCodes, path_shown, paths_shown, semaphores_of, braces_of, sites}
use Rattle.path_code.specs.Listing.{parts_text, path_text, paths_text, listing_text}

-- the text of codes from the path number n on
abbrev pub codes_text : {Y : Type 0} → Declaration → ℕ → List (PathCode Y) → List ℕ
codes_text d n [] = []
codes_text d n (c ∷ cs) = parts_text d n c.resource.0 c.semaphores.items c.braces.items c.ops.items ++ codes_text d (n + 1) cs

one_text : {Y : Type 0} (d : Declaration) (n : ℕ) (x : Sited) (c : PathCode Y) → IsPathCode x c → parts_text d n c.resource.0 c.semaphores.items c.braces.items c.ops.items ≡ path_text d n (path_shown c) x
one_text d n x c is =
    ap (λ ss. parts_text d n c.resource.0 ss c.braces.items c.ops.items) is.semaphores
    ∙ ap (λ bs. parts_text d n c.resource.0 (semaphores_of x) bs c.ops.items) is.braces
    ∙ ap (λ os. parts_text d n c.resource.0 (semaphores_of x) (braces_of x) os) is.ops

text_of_codes : {Y : Type 0} (d : Declaration) (n : ℕ) (xs : List (ℕ × Sited)) (cs : List (PathCode Y)) → ArePathCodes xs cs → codes_text d n cs ≡ paths_text d n (paths_shown cs) xs
text_of_codes d n [] [] a = refl
text_of_codes d n [] (c ∷ cs) a = absurd a
text_of_codes d n (x ∷ xs) [] a = absurd a
text_of_codes d n (x ∷ xs) (c ∷ cs) a = ap (λ t. t ++ codes_text d (n + 1) cs) (one_text d n x.1 c a.0) ∙ ap (λ t. path_text d n (path_shown c) x.1 ++ t) (text_of_codes d (n + 1) xs cs a.1)

module _ {Y : Type 0} (ps : List Path) (cs : List (PathCode Y)) (shown : paths_shown cs ≡ ps) (table : ArePathCodes (sites ps) cs) where
  pub whole_text : (d : Declaration) → codes_text d 0 cs ≡ listing_text d ps
  whole_text d = text_of_codes d 0 (sites ps) cs table ∙ ap (λ qs. paths_text d 0 qs (sites ps)) shown
