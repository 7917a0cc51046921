-- Whether a journal has a place for an attempt, and a number if it is a start.
use Rattle.std.specs.Prelude.{◌==◌, ◌||◌, ◌+◌, nat_le, ℕ, Bool, false, List, length, Option, Some, None}
use Rattle.path_model.specs.declared.journal.Attempt.{Attempt}
use Rattle.path_model.specs.declared.journal.Attempt.TheVariants.{Start, Apply, Finish}
use Rattle.path_model.specs.declared.journal.Activation.{Activation}
use Rattle.path_model.specs.Journals.{activation_of}

-- the places that the attempt needs: its own, and for a start also that of its finish
abbrev pub wanted_places : Attempt → ℕ
wanted_places (Start a) = 2
wanted_places (Apply n verb) = 1
wanted_places (Finish n) = 1

-- whether the activation is live, and the worker's own
abbrev pub is_own_of : ℕ → Option Activation → Bool
is_own_of w None = false
is_own_of w (Some a) = a.worker == w

-- whether the attempt finishes the worker's own live activation, whose place is kept since its start
abbrev pub has_place : List Activation → ℕ → Attempt → Bool
has_place activations w (Finish n) = is_own_of w (activation_of n activations)
has_place activations w attempt = false

-- whether there is room for the attempt after this number of lines
abbrev pub has_room : ℕ → ℕ → List Activation → ℕ → Attempt → Bool
has_room room lines activations w attempt =
    nat_le (lines + length activations + wanted_places attempt) room || has_place activations w attempt

-- whether the attempt is a start for which no number is left: so many were begun before it
abbrev pub lacks_number : ℕ → Attempt → Bool
lacks_number begun (Start a) = nat_le 4294967295 begun
lacks_number begun attempt = false
