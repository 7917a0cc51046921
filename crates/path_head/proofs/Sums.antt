-- Sums in hex digits.
use Rattle.std.proofs.Common.{◌≡◌, ◌≢◌, ◌/◌, ◌<◌, ℕ, zero, suc, get_or, Bool, true, false, not, List, [], ◌∷◌, ◌++◌, length, take, refl, sym, ap, ◌∙◌, subst, arith, length-append}
use Rattle.std.specs.Prelude.{Result, Ok, Err, MatchResult, OnOk, is_err}
use Rattle.std.specs.List.{AllByRecursion}
use Rattle.std.specs.Cmp.Lexicographic.{pointwise}
use Rattle.std.proofs.Math.Dec.{eqb}
use Rattle.std.proofs.Math.Seq.{take-append_seam}
use Rattle.std.proofs.lemmas.List.{append_cancel_left}
use Rattle.hex.specs.Hex.{encode_lower, encode_with, lower_digits, IsBytes, decode_sized}
use Rattle.hex.specs.declared.error.FromHexError.{FromHexError}
use Rattle.path_fields.proofs.CallerLemmas.{is_text, is_other}
use Rattle.hex.proofs.HexLemmas.{length-encode_with, decode_sized-encode_lower, decode_sized-twice, decode_of-ok}

pub sum_long : (sum : List ℕ) → length sum ≡ 32 → length (encode_lower sum) ≡ 64
sum_long sum l = let k = length-encode_with lower_digits sum in omega (arith, k, l)

pub sum_short : (text sum rest : List ℕ) → length text < 64 → length sum ≡ 32 → text ≡ encode_lower sum ++ rest → ⊥
sum_short text sum rest few l e = omega (arith, few, ap length e, length-append (encode_lower sum) rest, sum_long sum l)

-- a sum in front of a text is its first digits
pub sum_digits : (text digits sum rest : List ℕ) → digits ≡ take 64 text → length sum ≡ 32 → text ≡ encode_lower sum ++ rest → digits ≡ encode_lower sum
sum_digits text digits sum rest d l e =
    d ∙ ap (take 64) e ∙ ap (λ n. take n (encode_lower sum ++ rest)) (sym (sum_long sum l)) ∙ take-append_seam (encode_lower sum) rest

abbrev pub Decoded : List ℕ → ℕ → Result (Unit {0}) FromHexError → List ℕ → Type 0
Decoded digits n result out = MatchResult (decode_sized digits n) (λ bytes. (result ≡ Ok tt) × (out ≡ bytes)) (λ e. result ≡ Err e)

pub sum_decoded : (text digits sum rest out : List ℕ) (n : ℕ) (result : Result (Unit {0}) FromHexError) → digits ≡ take 64 text → n ≡ 32 → length sum ≡ 32 → IsBytes sum → text ≡ encode_lower sum ++ rest
    → Decoded digits n result out → (result ≡ Ok tt) × (out ≡ sum)
sum_decoded text digits sum rest out n result d m l b e v =
    let same : decode_sized digits n ≡ Ok sum = ap (λ x. decode_sized x n) (sum_digits text digits sum rest d l e) ∙ ap (decode_sized (encode_lower sum)) m ∙ decode_sized-encode_lower sum 32 l b in
    subst (λ r. MatchResult r (λ bytes. (result ≡ Ok tt) × (out ≡ bytes)) (λ e. result ≡ Err e)) same v

-- a text begins with one sum
pub sum_once : (x y a b : List ℕ) → length x ≡ 32 → length y ≡ 32 → IsBytes x → IsBytes y → encode_lower x ++ a ≡ encode_lower y ++ b → (x ≡ y) × (a ≡ b)
sum_once x y a b l m p q e =
    let first : encode_lower x ≡ encode_lower y = sym (sum_digits (encode_lower y ++ b) (take 64 (encode_lower y ++ b)) x a refl l (sym e)) ∙ sum_digits (encode_lower y ++ b) (take 64 (encode_lower y ++ b)) y b refl m refl in
    let decoded : Ok x ≡ Ok y = sym (decode_sized-encode_lower x 32 l p) ∙ ap (λ z. decode_sized z 32) first ∙ decode_sized-encode_lower y 32 m q in
    (ok_same x y decoded, append_cancel_left (encode_lower y) a b (ap (λ z. z ++ a) (sym first) ∙ e))
  where
    ok_same : (x y : List ℕ) → ◌≡◌ {A = Result (List ℕ) FromHexError} (Ok x) (Ok y) → x ≡ y
    ok_same x y e = cc

-- what was decoded is no error, and is encoded again as it was
pub not_err : (r : Result (Unit {0}) FromHexError) → r ≡ Ok tt → true ≡ is_err r → ⊥
not_err r e h = let k : true ≡ false = h ∙ ap (λ x. is_err x) e in cc

on_ok : (r : Result (Unit {0}) FromHexError) (P : Type 0) → false ≡ is_err r → OnOk r P → P
on_ok (Ok x) P e p = p
on_ok (Err x) P e p = absurd (cc)

not_true : (b : Bool) → true ≡ not b → b ≡ false
not_true true e = absurd (cc)
not_true false e = refl

pub sum_again : (digits sum out again : List ℕ) (r : Result (Unit {0}) FromHexError) → digits ≡ encode_lower sum → out ≡ sum → false ≡ is_err r → OnOk r (again ≡ encode_lower out)
    → true ≡ not (pointwise eqb digits again) → ⊥
sum_again digits sum out again r d o e w n =
    let same : again ≡ digits = on_ok r (again ≡ encode_lower out) e w ∙ ap encode_lower o ∙ sym d in
    is_other (pointwise eqb digits again) digits again again refl (not_true (pointwise eqb digits again) n) refl (sym same)

-- a sum begins with a digit, and not with the sign of no link
not_sign : (xs : List ℕ) (k : ℕ) → AllByRecursion (λ x. x ≢ 45) xs → get_or xs k 0 ≢ 45
not_sign [] k h e = omega (arith, e)
not_sign (x ∷ xs) zero h e = h.0 e
not_sign (x ∷ xs) (suc k) h e = not_sign xs k h.1 e

signless : AllByRecursion (λ x. x ≢ 45) lower_digits
signless = (
  λ e. omega (arith, e),
  (
    λ e. omega (arith, e),
    (
      λ e. omega (arith, e),
      (
        λ e. omega (arith, e),
        (
          λ e. omega (arith, e),
          (
            λ e. omega (arith, e),
            (
              λ e. omega (arith, e),
              (
                λ e. omega (arith, e),
                (λ e. omega (arith, e), (λ e. omega (arith, e), (λ e. omega (arith, e), (λ e. omega (arith, e), (λ e. omega (arith, e), (λ e. omega (arith, e), (λ e. omega (arith, e), (λ e. omega (arith, e), tt)))))))),
              ),
            ),
          ),
        ),
      ),
    ),
  ),
)

pub sum_no_sign : (sum x y : List ℕ) → length sum ≡ 32 → encode_lower sum ++ x ≡ 45 ∷ y → ⊥
unfolding encode_with
sum_no_sign [] x y l e = omega (arith, l)
sum_no_sign (b ∷ sum) x y l e = not_sign lower_digits (b / 16) signless (same_head e)
  where
    same_head : {x y : ℕ} {xs ys : List ℕ} → x ∷ xs ≡ y ∷ ys → x ≡ y
    same_head e = cc

not_false : (b : Bool) → false ≡ not b → b ≡ true
not_false true e = refl
not_false false e = absurd (cc)

pub sum_same : (digits out again : List ℕ) (r : Result (Unit {0}) FromHexError) → false ≡ is_err r → OnOk r (again ≡ encode_lower out) → false ≡ not (pointwise eqb digits again) → digits ≡ encode_lower out
sum_same digits out again r e w n = is_text (pointwise eqb digits again) digits (encode_lower out) again (on_ok r (again ≡ encode_lower out) e w) (not_false (pointwise eqb digits again) n) refl

-- what was decoded are bytes
pub decoded_bytes : (digits out : List ℕ) (result : Result (Unit {0}) FromHexError) → length digits ≡ 64 → Decoded digits 32 result out → false ≡ is_err result → IsBytes out
decoded_bytes digits out result l v n = go (decode_sized digits 32) refl v
  where
    go : (r : Result (List ℕ) FromHexError) → decode_sized digits 32 ≡ r → MatchResult r (λ bytes. (result ≡ Ok tt) × (out ≡ bytes)) (λ e. result ≡ Err e) → IsBytes out
    go (Ok b) e w = subst IsBytes (sym w.1) (decode_of-ok digits b (sym (decode_sized-twice digits 32 (omega (arith, l))) ∙ e)).3
    go (Err x) e w = absurd (let k : false ≡ true = n ∙ ap (λ r. is_err r) w in cc)
