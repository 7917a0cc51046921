-- Which attempts are drawn, and in which room.
use Rattle.std.proofs.Common.{ℕ, ◌<◌, ◌≤◌, List, length, inl, inr, arith}
use Rattle.path_model.specs.Declarations.{Declaration}
use Rattle.path_model.specs.Rooms.{IsBadRoom, IsRoom}
use Rattle.path_lines.specs.AttemptTexts.{Entry, IsAttemptsText}
use Rattle.tell_base.specs.Refusals.{HasAttempts}

-- a room that a system has is no bad one
pub good_room : (room : ℕ) → IsRoom room → IsBadRoom room → ⊥
good_room room good (inl none) = let low = good.0 in omega (arith, low, none)
good_room room good (inr much) = let high = good.1 in omega (arith, high, much)

-- a list of attempts that isn't too long
pub has_attempts : (d : Declaration) (text : List ℕ) (es : List Entry) → IsAttemptsText d text es → (134217728 < length text → ⊥) → HasAttempts d text
has_attempts d text es listed short =
    let within : length text ≤ 134217728 = omega (arith, short) in
    record { short = within; entries = es; listed = listed }
