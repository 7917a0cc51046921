-- What a law answers to a verb, and what the verb leaves.
use Rattle.std.specs.Prelude.{◌≡◌, ℕ, List, Bool, true, false, Result, Ok, Err}
use Rattle.path_model.specs.declared.journal.Reply.{Reply}
use Rattle.path_model.specs.declared.journal.Reply.TheVariants.{Used, DeviceFailed}
use Rattle.path_model.specs.Devices.{Outcome, serves, refuses}

-- the number with which the law serves, or its refusal
abbrev pub IsAnswer : Outcome → Result ℕ Reply → Type 0
IsAnswer (serves x rest) result = result ≡ Ok x
IsAnswer (refuses r) result = result ≡ Err r

-- a resource gives this reply for the outcome of its law, and its contents go from `before` to `left`; the device may fail although
-- the law would serve
abbrev pub Acts : Outcome → Bool → Reply → List ℕ → List ℕ → Type 0
Acts (serves x rest) false reply before left = (reply ≡ Used x) × (left ≡ rest)
Acts (serves x rest) true reply before left = (reply ≡ DeviceFailed) × (left ≡ before)
Acts (refuses r) fails reply before left = (reply ≡ r) × (left ≡ before)

-- the reply says that the device failed exactly where it should fail, if the law would serve
pub record IsLike (fails : Bool) (reply : Reply) : Type 0 where
  pub used : (x : ℕ) → reply ≡ Used x → fails ≡ false
  pub failed : reply ≡ DeviceFailed → fails ≡ true
