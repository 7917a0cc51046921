-- The table of the laws: what a device answers to a verb, and what it then contains.
use Rattle.std.specs.Prelude.{◌≡◌, ◌≤◌, ℕ, ◌+◌, ◌^◌, List, [], ◌∷◌, ◌++◌, length, slice_index, nat_lt, if◌then◌else◌}
use Rattle.path_model.specs.declared.resource.Law.{Law}
use Rattle.path_model.specs.declared.resource.Law.TheVariants.{Cell, Tally, Queue}
use Rattle.path_model.specs.declared.journal.Verb.{Verb}
use Rattle.path_model.specs.declared.journal.Verb.TheVariants.{Put, Take, Look, Add}
use Rattle.path_model.specs.declared.journal.Reply.{Reply}
use Rattle.path_model.specs.declared.journal.Reply.TheVariants.{NotOffered, Empty, Full, Overflow}

-- a device serves a verb with a number, and contains this afterwards; or it refuses with a reply, and its contents stay
pub data Outcome : Type 0 where
  serves : ℕ → List ℕ → Outcome
  refuses : Reply → Outcome

-- a queue's first number, which is taken
abbrev pub first_taken : List ℕ → Outcome
first_taken [] = refuses Empty
first_taken (x ∷ xs) = serves x xs

-- a queue's first number, which stays
abbrev pub first_seen : List ℕ → Outcome
first_seen [] = refuses Empty
first_seen (x ∷ xs) = serves x (x ∷ xs)

-- the table: one line for each law and verb
abbrev pub outcome_of : Law → Verb → List ℕ → Outcome
outcome_of Cell (Put x) held = serves (slice_index held 0) (x ∷ [])
outcome_of Cell Take held = refuses NotOffered
outcome_of Cell Look held = serves (slice_index held 0) held
outcome_of Cell (Add x) held = refuses NotOffered
outcome_of Tally (Put x) held = refuses NotOffered
outcome_of Tally Take held = refuses NotOffered
outcome_of Tally Look held = serves (slice_index held 0) held
outcome_of Tally (Add x) held =
    if nat_lt (slice_index held 0 + x) (2 ^ 64)
    then serves (slice_index held 0 + x) ((slice_index held 0 + x) ∷ [])
    else refuses Overflow
outcome_of (Queue n) (Put x) held =
    if nat_lt (length held) n then serves (length held + 1) (held ++ x ∷ []) else refuses Full
outcome_of (Queue n) Take held = first_taken held
outcome_of (Queue n) Look held = first_seen held
outcome_of (Queue n) (Add x) held = refuses NotOffered

-- the contents after the verb
abbrev pub contents_left : Outcome → List ℕ → List ℕ
contents_left (serves x rest) held = rest
contents_left (refuses r) held = held

-- a device of this law may have these contents: one number, or at most as many as a queue's capacity
abbrev pub Fits : Law → List ℕ → Type 0
Fits Cell held = length held ≡ 1
Fits Tally held = length held ≡ 1
Fits (Queue n) held = length held ≤ n
