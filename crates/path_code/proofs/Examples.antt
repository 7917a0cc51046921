-- The code of some paths, by hand.
use Rattle.std.proofs.Common.{◌≡◌, ℕ, List, [], ◌∷◌, refl, codes}
use Rattle.path_model.specs.Trees.{any, most, seq, alt, burst}
use Rattle.path_model.specs.Declarations.{Path}
use Rattle.path_code.specs.Listing.{lines_text, listing_text}
use Rattle.path_code.proofs.CallerLemmas.{digit0, digit1, digit2, digit3, digit4, a, b, declares, path_of}

abbrev shows : List Path → List (List ℕ) → Type 0
shows ps ls = listing_text (declares ps) ps ≡ lines_text ls

-- { a } , b
readers_and_writers : shows (path_of (alt (burst any a) b) ∷ []) (
    codes "path 0 of r" ∷ codes "s0 = 1" ∷ codes "c0 = 0" ∷ codes "m0 = 1"
    ∷ codes "a: PP(c0,m0,P(s0)) | VV(c0,m0,V(s0))" ∷ codes "b: P(s0) | V(s0)" ∷ []
    )
readers_and_writers = rw (digit0, digit1) refl

-- { a ; b }
crossing : shows (path_of (burst any (seq a b)) ∷ []) (
    codes "path 0 of r" ∷ codes "s0 = 1" ∷ codes "s1 = 0" ∷ codes "c0 = 0" ∷ codes "m0 = 1"
    ∷ codes "a: PP(c0,m0,P(s0)) | V(s1)" ∷ codes "b: P(s1) | VV(c0,m0,V(s0))" ∷ []
    )
crossing = rw (digit0, digit1) refl

-- { a : 2 } , b
pool : shows (path_of (alt (burst (most 2) a) b) ∷ []) (
    codes "path 0 of r" ∷ codes "s0 = 1" ∷ codes "s1 = 2" ∷ codes "c0 = 0" ∷ codes "m0 = 1"
    ∷ codes "a: P(s1); PP(c0,m0,P(s0)) | VV(c0,m0,V(s0)); V(s1)" ∷ codes "b: P(s0) | V(s0)" ∷ []
    )
pool = rw (digit0, digit1, digit2) refl

-- { a ; b : 2 }, after a path with two semaphores and a pair of braces
pipe : shows (path_of (burst (most 3) b) ∷ path_of (burst (most 2) (seq a b)) ∷ []) (
    codes "path 0 of r" ∷ codes "s0 = 1" ∷ codes "s1 = 3" ∷ codes "c0 = 0" ∷ codes "m0 = 1"
    ∷ codes "b: P(s1); PP(c0,m0,P(s0)) | VV(c0,m0,V(s0)); V(s1)"
    ∷ codes "path 1 of r" ∷ codes "s2 = 1" ∷ codes "s3 = 0" ∷ codes "s4 = 2" ∷ codes "c1 = 0" ∷ codes "m1 = 1"
    ∷ codes "a: P(s4); PP(c1,m1,P(s2)) | V(s3)" ∷ codes "b: P(s3) | VV(c1,m1,V(s2)); V(s4)" ∷ []
    )
pipe = rw (digit0, digit1, digit2, digit3, digit4) refl
