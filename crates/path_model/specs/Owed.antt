-- The reply that a journal owes to a worker's attempt: the first that applies.
use Rattle.std.specs.Prelude.{◌≡◌, ◌≢◌, ◌⊎◌, ◌<◌, ◌≤◌, ◌+◌, ℕ, List, length, Option, Some, None}
use Rattle.path_model.specs.declared.ids.OpId.{OpId}
use Rattle.path_model.specs.declared.ids.ActId.{ActId}
use Rattle.path_model.specs.declared.ids.PathId.{PathId}
use Rattle.path_model.specs.declared.history.Event.{Event}
use Rattle.path_model.specs.declared.journal.Verb.{Verb}
use Rattle.path_model.specs.declared.journal.Attempt.{Attempt}
use Rattle.path_model.specs.declared.journal.Attempt.TheVariants.{Start, Apply, Finish}
use Rattle.path_model.specs.declared.journal.Reply.{Reply}
use Rattle.path_model.specs.declared.journal.Reply.TheVariants.{Started, Blocked, UnknownOperation, Used, DeviceFailed}
use Rattle.path_model.specs.declared.journal.Reply.TheVariants.{Finished, Stale, NotYours, NoRoom}
use Rattle.path_model.specs.declared.journal.Line.{Line}
use Rattle.path_model.specs.declared.journal.Activation.{Activation}
use Rattle.path_model.specs.Legal as legal
use Rattle.path_model.specs.AllPaths.{after, Blocks}
use Rattle.path_model.specs.Declarations.{Declaration, paths_of, resource_of, law_of}
use Rattle.path_model.specs.Devices.{Outcome, serves, refuses, outcome_of}
use Rattle.path_model.specs.Journals.{live, begun_in, activation_of, admitted_history}
use Rattle.path_model.specs.Contents.{contents_after}

-- the places of a journal that are taken: one for each line, and one for the finish of each live activation
abbrev pub taken : List Line → ℕ
taken ls = length ls + length (live ls)

-- a judge: which path, if any, forbids a start of the operation after the history
abbrev pub Judge : Type 1
Judge = List Event → OpId → Option PathId → Type 0

-- the first path that forbids it by its words
abbrev pub by_words : Declaration → Judge
by_words d h a None = legal.NoneOf (legal.Forbids h a) (paths_of d)
by_words d h a (Some p) = legal.First (legal.Forbids h a) (paths_of d) p.0

-- the first path that blocks it by its semaphores
abbrev pub by_machine : Declaration → Judge
by_machine d h a None = legal.NoneOf (Blocks a) (after (paths_of d) h)
by_machine d h a (Some p) = legal.First (Blocks a) (after (paths_of d) h) p.0

-- a start needs two places, its own and that of its finish
pub data OwedToStart (judge : Judge) (d : Declaration) (room : ℕ) (ls : List Line) (a : OpId) : Reply → Type 0 where
  no_room : room < taken ls + 2 → OwedToStart judge d room ls a NoRoom
  unknown : taken ls + 2 ≤ room → length d.operations ≤ a.0 → OwedToStart judge d room ls a UnknownOperation
  -- the path that the judge names
  blocked :
      (p : PathId) → taken ls + 2 ≤ room → a.0 < length d.operations → judge (admitted_history ls) a (Some p)
      → OwedToStart judge d room ls a (Blocked p)
  -- if the judge names none: the number of starts before this one
  started :
      (n : ActId) → taken ls + 2 ≤ room → a.0 < length d.operations → judge (admitted_history ls) a None → n.0 ≡ begun_in ls
      → OwedToStart judge d room ls a (Started n)

-- the worker has a live activation of this number
pub record IsOwn (ls : List Line) (w : ℕ) (n : ActId) (a : Activation) : Type 0 where
  pub found : activation_of n (live ls) ≡ Some a
  pub own : a.worker ≡ w

-- what the table says for the verb and the device of the activation's resource
abbrev pub outcome_for : Declaration → List (List ℕ) → List Line → Verb → Activation → Outcome
outcome_for d openings ls verb a =
    outcome_of (law_of d (resource_of d a.op.0)) verb (contents_after d openings ls (resource_of d a.op.0))

pub data OwedToUse (d : Declaration) (room : ℕ) (openings : List (List ℕ)) (ls : List Line) (w : ℕ) (n : ActId) (verb : Verb)
    : Reply → Type 0 where
  no_room : room < taken ls + 1 → OwedToUse d room openings ls w n verb NoRoom
  stale : taken ls + 1 ≤ room → activation_of n (live ls) ≡ None → OwedToUse d room openings ls w n verb Stale
  not_yours :
      (a : Activation) → taken ls + 1 ≤ room → activation_of n (live ls) ≡ Some a → a.worker ≢ w
      → OwedToUse d room openings ls w n verb NotYours
  refused :
      (a : Activation) (r : Reply) → taken ls + 1 ≤ room → IsOwn ls w n a → outcome_for d openings ls verb a ≡ refuses r
      → OwedToUse d room openings ls w n verb r
  served :
      (a : Activation) (x : ℕ) (rest : List ℕ) → taken ls + 1 ≤ room → IsOwn ls w n a → outcome_for d openings ls verb a ≡ serves x rest
      → OwedToUse d room openings ls w n verb (Used x)
  -- a device may fail although its law would serve
  failed :
      (a : Activation) (x : ℕ) (rest : List ℕ) → taken ls + 1 ≤ room → IsOwn ls w n a → outcome_for d openings ls verb a ≡ serves x rest
      → OwedToUse d room openings ls w n verb DeviceFailed

-- the finish of the worker's own live activation needs no room: its start has taken the place
pub data OwedToFinish (d : Declaration) (room : ℕ) (ls : List Line) (w : ℕ) (n : ActId) : Reply → Type 0 where
  finished : (a : Activation) → IsOwn ls w n a → OwedToFinish d room ls w n Finished
  no_room : ((a : Activation) → IsOwn ls w n a → ⊥) → room < taken ls + 1 → OwedToFinish d room ls w n NoRoom
  stale : taken ls + 1 ≤ room → activation_of n (live ls) ≡ None → OwedToFinish d room ls w n Stale
  not_yours :
      (a : Activation) → taken ls + 1 ≤ room → activation_of n (live ls) ≡ Some a → a.worker ≢ w
      → OwedToFinish d room ls w n NotYours

-- the reply is owed to the worker's attempt after these lines, in a journal of this room, with starts judged by the judge
abbrev pub OwedBy : Judge → Declaration → ℕ → List (List ℕ) → List Line → ℕ → Attempt → Reply → Type 0
OwedBy judge d room openings ls w (Start a) reply = OwedToStart judge d room ls a reply
OwedBy judge d room openings ls w (Apply n verb) reply = OwedToUse d room openings ls w n verb reply
OwedBy judge d room openings ls w (Finish n) reply = OwedToFinish d room ls w n reply

-- owed by the words of the paths
abbrev pub Owed : Declaration → ℕ → List (List ℕ) → List Line → ℕ → Attempt → Reply → Type 0
Owed d room openings ls w attempt reply = OwedBy (by_words d) d room openings ls w attempt reply

-- owed by their semaphores
abbrev pub OwedByMachine : Declaration → ℕ → List (List ℕ) → List Line → ℕ → Attempt → Reply → Type 0
OwedByMachine d room openings ls w attempt reply = OwedBy (by_machine d) d room openings ls w attempt reply

-- the replies are equal; or the law serves, and one of them says that the device failed
abbrev pub AreSame : Reply → Reply → Type 0
AreSame r s = (r ≡ s) ⊎ ((x : ℕ) × (r ≡ Used x) × (s ≡ DeviceFailed)) ⊎ ((x : ℕ) × (r ≡ DeviceFailed) × (s ≡ Used x))

-- no two different replies are owed to one attempt, except when one says that a device failed
abbrev pub OneReplyIsOwed : Type 0
OneReplyIsOwed =
    (d : Declaration) (room : ℕ) (openings : List (List ℕ)) (ls : List Line) (w : ℕ) (attempt : Attempt) (r s : Reply)
    → Owed d room openings ls w attempt r → Owed d room openings ls w attempt s → AreSame r s
