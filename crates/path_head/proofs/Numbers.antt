-- Numbers with what ends them.
use Rattle.std.proofs.Common.{◌≡◌, ◌<◌, ◌^◌, ℕ, List, ◌++◌, decimal, refl}
use Rattle.std.proofs.lemmas.List.{append_cancel_left}
use Rattle.path_fields.specs.Splits.{HasNoDigitNext}
use Rattle.path_fields.proofs.CallerLemmas.{same_number}

-- no digit begins what ends a number
abbrev pub Ends : List ℕ → Type 0
Ends end = (rest : List ℕ) → HasNoDigitNext (end ++ rest)

-- a text begins with one number
pub number_is : (text end : List ℕ) (m n : ℕ) (x y : List ℕ) → Ends end → text ≡ decimal m ++ x → HasNoDigitNext x → m < 2 ^ 64 → n < 2 ^ 64 → text ≡ decimal n ++ (end ++ y) → (m ≡ n) × (x ≡ end ++ y)
number_is text end m n x y f e stop h k g = same_number text m n x (end ++ y) e stop h k (f y) g

pub number_once_before : (end : List ℕ) (m n : ℕ) (x y : List ℕ) → Ends end → m < 2 ^ 64 → n < 2 ^ 64 → decimal m ++ (end ++ x) ≡ decimal n ++ (end ++ y) → (m ≡ n) × (x ≡ y)
number_once_before end m n x y f h k e =
    let p = number_is (decimal m ++ (end ++ x)) end m n (end ++ x) y f refl (f x) h k e in
    (p.0, append_cancel_left end x y p.1)
