-- How a command ends, and what it has written then. A command has a table: which bytes it may have written at which status.
use Rattle.std.specs.Prelude.{◌≡◌, ℕ, List, [], Option}
use Rattle.path_model.specs.Declarations.{Declaration}
use Rattle.tell_base.specs.declared.status.Status.{Status}
use Rattle.tell_base.specs.declared.status.Status.TheVariants.{Done, DeclarationRefused, CommandRefused, StreamFailed, TextRefused}
use Rattle.tell_base.specs.declared.status.Status.TheVariants.{Unsound, NoMemory}
use Rattle.tell_base.specs.Refusals.{Under, IsNoDeclaration, HasAttempts, IsBadAttempts, IsBadJournal, LacksRoom}
use Rattle.tell_base.specs.Writes.{AppendsSome, IsFrontOf}

-- what was written by a command with this table that has ended so: bytes that the table has at the status. If memory ran out, they are a
-- front of what it writes at some status; if a stream failed, nothing is known of them.
abbrev pub Wrote : (Status → List ℕ → Type 0) → Option (List ℕ) → Option (List ℕ) → Status → Type 0
Wrote table old new NoMemory = AppendsSome old new (IsFrontOf (λ out. (s : Status) × table s out))
Wrote table old new StreamFailed = Unit {0}
Wrote table old new status = AppendsSome old new (table status)

-- a command with this table has ended so
pub record Ends (table : Status → List ℕ → Type 0) (old new : Option (List ℕ)) (status : Status) : Type 0 where
  pub wrote : Wrote table old new status

-- what the table says of an end before anything was written
abbrev pub WroteNothing : (Status → List ℕ → Type 0) → Status → Type 0
WroteNothing table NoMemory = Unit {0}
WroteNothing table StreamFailed = Unit {0}
WroteNothing table status = table status []

-- a command with this table may end so before it has written anything
pub record MayEnd (table : Status → List ℕ → Type 0) (status : Status) : Type 0 where
  pub may : WroteNothing table status

-- nothing was written, for this cause
abbrev pub Refused : Type 0 → List ℕ → Type 0
Refused cause out = cause × (out ≡ [])

-- the table of what ends in one way alone: done, with bytes of which P holds
abbrev pub AtDone : (List ℕ → Type 0) → Status → List ℕ → Type 0
AtDone P Done out = P out
AtDone P status out = ⊥

-- the table of what writes these bytes, and ends so
abbrev pub Writes : Status → List ℕ → Status → List ℕ → Type 0
Writes status bytes end out = (end ≡ status) × (out ≡ bytes)

-- the table of a command on the text of a declaration: that of the declaration, unless the text is none
abbrev pub UnderText : List ℕ → (Declaration → Status → List ℕ → Type 0) → Status → List ℕ → Type 0
UnderText text table DeclarationRefused out = Refused (IsNoDeclaration text) out
UnderText text table status out = Under text (λ d. table d status out)

-- the table of a command on a text under a declaration: it writes bytes of which P holds at its status, unless the text is bad, or what the
-- command line says is refused
abbrev pub OfText : (Status → List ℕ → Type 0) → Type 0 → Type 0 → Status → List ℕ → Type 0
OfText P refused bad Done out = P Done out
OfText P refused bad Unsound out = P Unsound out
OfText P refused bad CommandRefused out = Refused refused out
OfText P refused bad TextRefused out = Refused bad out
OfText P refused bad status out = ⊥

-- how it may end so that it has written nothing
abbrev pub RefusesText : Type 0 → Type 0 → Status → Type 0
RefusesText refused bad = MayEnd (OfText (λ status out. ⊥) refused bad)

-- the table of a command on a text of attempts, over a system that this may keep from being opened
abbrev pub OfAttempts : (List ℕ → Type 0) → Type 0 → Declaration → List ℕ → Status → List ℕ → Type 0
OfAttempts P unopened d text = OfText (AtDone P) (HasAttempts d text × unopened) (IsBadAttempts d text)

-- the table of a command on the text of a journal, in this room if it names none
abbrev pub OfJournal : (Status → List ℕ → Type 0) → Declaration → ℕ → List ℕ → Status → List ℕ → Type 0
OfJournal P d room text = OfText P (LacksRoom d room text) (IsBadJournal d text)
