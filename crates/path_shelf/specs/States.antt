-- What contracts see of devices, and how a verb changes them.
use Rattle.std.specs.Prelude.{◌≡◌, ◌⊎◌, ◌+◌, ◌<◌, ◌^◌, ℕ, List, [], map, slice_index_or, slice_set, Result, IfOk, IfErr, OnErr}
use Rattle.path_model.specs.declared.resource.Law.{Law}
use Rattle.path_model.specs.declared.resource.Law.TheVariants.{Cell}
use Rattle.path_model.specs.declared.journal.Verb.{Verb}
use Rattle.path_model.specs.declared.journal.Reply.TheVariants as replies
use Rattle.path_model.specs.Devices.{Outcome, serves, refuses, outcome_of}
use Rattle.path_shelf.specs.declared.device.ActFault.{ActFault}
use Rattle.path_shelf.specs.declared.device.ActFault.TheVariants.{NotOffered, Empty, Full, Overflow, Failed}

-- the law of a device, what it contains, and how often it has failed
pub record State : Type 0 where
  pub law : Law
  pub contents : List ℕ
  pub failures : ℕ

-- the law would serve
abbrev pub WouldServe : Outcome → Type 0
WouldServe (serves x rest) = Unit {0}
WouldServe (refuses r) = ⊥

-- a failure was counted, or the count is at its maximum
abbrev pub IsCounted : ℕ → ℕ → Type 0
IsCounted before after = (after ≡ before + 1) ⊎ (after + 1 ≡ 2 ^ 64)

-- the fault is the law's refusal; or the device failed although its law would serve, and that was counted
abbrev pub IsOwedFault : Outcome → ActFault → ℕ → ℕ → Type 0
IsOwedFault outcome NotOffered before after = outcome ≡ refuses replies.NotOffered
IsOwedFault outcome Empty before after = outcome ≡ refuses replies.Empty
IsOwedFault outcome Full before after = outcome ≡ refuses replies.Full
IsOwedFault outcome Overflow before after = outcome ≡ refuses replies.Overflow
IsOwedFault outcome Failed before after = WouldServe outcome × IsCounted before after

-- a verb takes a device from old to new with this result: it serves as the table of the laws says, or there is a fault and the
-- contents stay
pub record Acts (old : State) (verb : Verb) (result : Result ℕ ActFault) (new : State) : Type 0 where
  pub law : new.law ≡ old.law
  pub served : IfOk result (λ x. outcome_of old.law verb old.contents ≡ serves x new.contents)
  pub fault : IfErr result (λ fault. IsOwedFault (outcome_of old.law verb old.contents) fault old.failures new.failures)
  pub kept : OnErr result (new.contents ≡ old.contents)

-- the state of the device at an index of a shelf; an arbitrary one past its end
abbrev pub state_at : List State → ℕ → State
state_at states i = slice_index_or states i (record { law = Cell; contents = []; failures = 0 })

-- a verb takes the device at an index of a shelf from old to new with this result, and all others stay
pub record ActsAt (old : List State) (i : ℕ) (verb : Verb) (result : Result ℕ ActFault) (new : List State) : Type 0 where
  pub acts : Acts (state_at old i) verb result (state_at new i)
  pub others : new ≡ slice_set old i (state_at new i)

-- some device of the type has failed
abbrev pub MayFail : {D : Type 0} → (D → State) → Type 0
MayFail {D} state = (d : D) × (0 < (state d).failures)

-- the laws of a shelf's devices
abbrev pub laws_of : List State → List Law
laws_of states = map (λ s. s.law) states
