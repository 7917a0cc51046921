-- Activations by their numbers: who started what, at the index that is its number.
use Rattle.std.specs.Prelude.{ℕ, ◌+◌, List, [], ◌∷◌, Option, Some, None}
use Rattle.path_model.specs.declared.journal.Activation.{Activation}
use Rattle.path_audit.specs.declared.activations.Owner.{Owner}

-- the activation of number n, if it is live
abbrev pub owned : ℕ → Option Owner → Option Activation
owned n None = None
owned n (Some o) = Some (record { act = record { 0 = n }; worker = o.worker; op = o.op })

-- the live activations, if the first index is number n
abbrev pub live_from : ℕ → List (Option Owner) → List Activation
live_from n [] = []
live_from n (None ∷ xs) = live_from (n + 1) xs
live_from n (Some o ∷ xs) = record { act = record { 0 = n }; worker = o.worker; op = o.op } ∷ live_from (n + 1) xs
