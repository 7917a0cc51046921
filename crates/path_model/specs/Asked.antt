-- Which resource's device a line asked, and that a device that no line asked may be replaced.
use Rattle.std.specs.Prelude.{◌≡◌, ◌≢◌, ◌⊎◌, ℕ, Bool, true, false, List, [], ◌∷◌, ◌++◌, Option, Some, None, slice_index_or, if◌then◌else◌}
use Rattle.path_model.specs.declared.journal.Attempt.{Attempt}
use Rattle.path_model.specs.declared.journal.Attempt.TheVariants.{Apply}
use Rattle.path_model.specs.declared.journal.Reply.{Reply}
use Rattle.path_model.specs.declared.journal.Reply.TheVariants.{Used, NotOffered, Empty, Full, Overflow, DeviceFailed}
use Rattle.path_model.specs.declared.journal.Line.{Line}
use Rattle.path_model.specs.declared.journal.Activation.{Activation}
use Rattle.path_model.specs.Declarations.{Declaration, resource_of}
use Rattle.path_model.specs.Journals.{activation_of, live}
use Rattle.path_model.specs.Contents.{contents_after}
use Rattle.path_model.specs.Honest.{IsHonest}

-- the reply comes from a device, which was asked
abbrev pub is_device_reply : Reply → Bool
is_device_reply (Used x) = true
is_device_reply NotOffered = true
is_device_reply Empty = true
is_device_reply Full = true
is_device_reply Overflow = true
is_device_reply DeviceFailed = true
is_device_reply reply = false

-- the resource of an activation, if there is one
abbrev pub its_resource : Declaration → Option Activation → Option ℕ
its_resource d None = None
its_resource d (Some a) = Some (resource_of d a.op.0)

-- the resource whose device the attempt asked, by its reply: that of the live activation that it uses
abbrev pub resource_asked : Declaration → List Line → Attempt → Reply → Option ℕ
resource_asked d before (Apply n verb) reply =
    if is_device_reply reply then its_resource d (activation_of n (live before)) else None
resource_asked d before attempt reply = None

abbrev pub IsAskedFrom : Declaration → ℕ → List Line → List Line → Type 0
IsAskedFrom d r before [] = ⊥
IsAskedFrom d r before (l ∷ ls) =
    (resource_asked d before l.attempt l.reply ≡ Some r) ⊎ IsAskedFrom d r (before ++ l ∷ []) ls

-- a line of the journal asked the device of the resource
abbrev pub IsAsked : Declaration → List Line → ℕ → Type 0
IsAsked d ls r = IsAskedFrom d r [] ls

-- while no line asked the device of a resource, the resource may have other opening contents: the journal stays honest, and all other
-- resources contain the same
abbrev pub UnaskedDevicesMayBeReplaced : Type 0
UnaskedDevicesMayBeReplaced =
    (d : Declaration) (room : ℕ) (openings others : List (List ℕ)) (ls : List Line) (r : ℕ)
    → ((q : ℕ) → q ≢ r → slice_index_or others q [] ≡ slice_index_or openings q [])
    → IsHonest d room openings ls → (IsAsked d ls r → ⊥)
    → IsHonest d room others ls
    × (contents_after d others ls r ≡ slice_index_or others r [])
    × ((q : ℕ) → q ≢ r → contents_after d others ls q ≡ contents_after d openings ls q)
