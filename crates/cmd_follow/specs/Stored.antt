-- Lines that a follow keeps in a file.
use Rattle.std.specs.Prelude.{◌≡◌, ◌≢◌, ◌⊎◌, ℕ, Bool, true, false, List, [], ◌++◌, take, unwrap_or, Option, None}
use Rattle.path_model.specs.declared.journal.Line.{Line}
use Rattle.path_model.specs.Declarations.{Declaration}
use Rattle.path_model.specs.Rooms.{IsBadRoom}
use Rattle.path_decl.specs.Text.{IsDeclarationText}
use Rattle.path_journal.specs.declared.version.Version.{Version}
use Rattle.path_journal.specs.declared.version.Version.TheVariants.{One}
use Rattle.path_journal.specs.CutTexts.{HasNoHead, VersionFits, front_of, room_of}
use Rattle.path_store.specs.Devices.{IsUntouched, LeavesOnly}
use Rattle.path_store.specs.Stores.{Finds, FindsSome, HasLines, IsFile, IsStored}
use Rattle.path_system.specs.Accounts.{account_of}
use Rattle.tell_base.specs.Own.{own_states}
use Rattle.tell_base.specs.Writes.{AppendsSome}
use Rattle.tell_base.specs.declared.status.Status.{Status}
use Rattle.tell_base.specs.declared.status.Status.TheVariants as statuses
use Rattle.cmd_follow.specs.Follows.{Follows, GaveAll, GaveFirst}
use Rattle.cmd_follow.specs.declared.stored.StoreKeeper.{StoreKeeper}
use Rattle.cmd_follow.specs.declared.stored.Unopened.{Unopened}
use Rattle.cmd_follow.specs.declared.stored.Unopened.TheVariants as unopenings
use Rattle.cmd_follow.specs.declared.stored.Syncing.{Syncing}
use Rattle.cmd_follow.specs.declared.stored.Syncing.TheVariants.{Each, Never}

-- The store has the second lines, and the first ones were on the disk when it was the first keeper's. A crash at any moment since then
-- leaves these, and the others up to one of them. Where each is synced before its answer, all are on the disk.
pub record KeepsLines {D A : Type 0} (holds may_leave : D → List ℕ → Type 0) (moment : D → ℕ) (left_since : D → ℕ → List ℕ → Type 0)
    (first keeper : StoreKeeper D A) (found ls : List Line) : Type 0 where
  pub declared : keeper.store.decl.declaration ≡ first.store.decl.declaration
  pub room : keeper.store.room ≡ first.store.room
  pub syncing : keeper.syncing ≡ first.syncing
  pub kept : List Line
  pub fresh : List Line
  pub whole : found ++ (kept ++ fresh) ≡ ls
  pub stored : IsStored holds may_leave keeper.store (found ++ kept) fresh
  pub none_fresh : keeper.syncing ≡ Each → fresh ≡ []
  pub any_moment : LeavesOnly moment left_since first.store.device keeper.store.device
      (FindsSome first.store.decl.declaration first.store.room found (kept ++ fresh))

-- From one device to the other a crash at any moment leaves the first lines, and of those behind them in the second, and then of some more,
-- up to one of them. Where each is synced before its answer, a crash now leaves all of the second.
pub record Outlasts {D : Type 0} (may_leave : D → List ℕ → Type 0) (moment : D → ℕ) (left_since : D → ℕ → List ℕ → Type 0)
    (d : Declaration) (room : ℕ) (syncing : Syncing) (before now : D) (found ls more : List Line) : Type 0 where
  pub since : List Line
  pub whole : found ++ since ≡ ls
  pub any_moment : LeavesOnly moment left_since before now (FindsSome d room found (since ++ more))
  pub synced : syncing ≡ Each → (c : List ℕ) → may_leave now c → FindsSome d room ls more c

-- so the lines of a keeper outlast a crash that has failed to keep one
pub record FailsLine {D A : Type 0} (may_leave : D → List ℕ → Type 0) (moment : D → ℕ) (left_since : D → ℕ → List ℕ → Type 0)
    (first keeper : StoreKeeper D A) (found ls more : List Line) : Type 0 where
  pub outlasts : Outlasts may_leave moment left_since first.store.decl.declaration first.store.room first.syncing first.store.device
      keeper.store.device found ls more
  pub failed : keeper.fault ≢ None

-- the device has these lines, and no others; unless the operating system was to write them, all of them are on the disk
pub record HasKept {D : Type 0} (holds may_leave : D → List ℕ → Type 0) (d : Declaration) (room : ℕ) (device : D) (syncing : Syncing)
    (ls : List Line) : Type 0 where
  pub size : ℕ
  pub synced : List Line
  pub fresh : List Line
  pub whole : synced ++ fresh ≡ ls
  pub lines : HasLines holds may_leave d room device size synced fresh
  pub none_fresh : syncing ≢ Never → fresh ≡ []

-- the bytes answer the lines of a text, of a system over the program's own devices that went on behind these lines; the journal has the
-- second lines then
abbrev pub IsFollowBehind : Declaration → ℕ → List Line → List Line → Bool → List ℕ → List ℕ → Type 0
IsFollowBehind d room found end refused text bytes =
    Follows d room (account_of d room (own_states d)).openings ⊥ true found false text end refused bytes

-- these are the lines of a file, if its bytes are known
abbrev pub AreFound : (List ℕ → Type 0) → Declaration → ℕ → List Line → Type 0
AreFound holds d room found = (b : List ℕ) → holds b → Finds d room b found

-- of a file that may be opened all lines were found, and all lines of the journal have been kept behind them
abbrev pub AreKept : {D : Type 0} → (D → List ℕ → Type 0) → (D → List ℕ → Type 0) → Declaration → ℕ → D → D → Syncing → List Line
    → List Line
    → Type 0
AreKept holds may_leave d room old new syncing found end = (synced fresh : List Line) → IsFile holds may_leave d room old synced fresh
    → (found ≡ synced ++ fresh) × HasKept holds may_leave d room new syncing end

-- the answers to all lines that a reader gave were written, of a system that went on behind the lines of a file, and the lines that it
-- then had are in the file; the bit says whether a line of the input was refused
pub record WroteBehind {D : Type 0} (holds may_leave : D → List ℕ → Type 0) (before now : D) (syncing : Syncing)
    (known old new : Option (List ℕ)) (declaration : List ℕ) (refused : Bool) : Type 0 where
  pub declared : Declaration
  pub written : IsDeclarationText declaration declared
  pub room : ℕ
  pub found : List Line
  pub are_found : AreFound (holds before) declared room found
  pub end : List Line
  pub gave : GaveAll known (λ text. AppendsSome old new (IsFollowBehind declared room found end refused text))
  pub kept : AreKept holds may_leave declared room before now syncing found end

-- the text begins with the head of this version, or with none
pub record IsHeadOf (text : List ℕ) (version : Version) : Type 0 where
  pub fits : VersionFits version
  pub none : version ≡ One → HasNoHead text
  pub body : List ℕ
  pub parts : text ≡ front_of version ++ body

-- the room that the first bytes of a file name, if its bytes are known, or else the one that is given
abbrev pub IsOwnRoom : (List ℕ → Type 0) → ℕ → ℕ → Type 0
IsOwnRoom holds given own =
    (b : List ℕ) → holds b → (version : Version) × IsHeadOf (take 64 b) version × (own ≡ unwrap_or (room_of version) given)

-- the journal has the second lines when the first lines of a text were taken, by a system over the program's own devices that went on
-- behind the first ones
abbrev pub TakesBehind : Declaration → ℕ → List Line → List Line → List ℕ → Type 0
TakesBehind d room found end text =
    (bytes : List ℕ) × (e : Bool) × Follows d room (account_of d room (own_states d)).openings ⊥ false found false text end e bytes

-- the bytes answer these lines of the text
abbrev pub AnswersBehind : Declaration → ℕ → List Line → List Line → List ℕ → List ℕ → Type 0
AnswersBehind d room found end text bytes =
    (e : Bool) × Follows d room (account_of d room (own_states d)).openings ⊥ false found false text end e bytes

-- answers to the first lines that a reader gave were written, of a system that went on behind the lines of a file. Where each is synced
-- before its answer, a crash now leaves the lines that were answered, perhaps with some more
pub record AnsweredBehind {D : Type 0} (holds may_leave : D → List ℕ → Type 0) (before now : D) (syncing : Syncing)
    (known old new : Option (List ℕ)) (declaration : List ℕ) (given : ℕ) : Type 0 where
  pub declared : Declaration
  pub written : IsDeclarationText declaration declared
  pub room : ℕ
  pub named : IsOwnRoom (holds before) given room
  pub found : List Line
  pub are_found : AreFound (holds before) declared room found
  pub end : List Line
  pub more : List Line
  pub gave : GaveFirst known (λ text. AppendsSome old new (AnswersBehind declared room found end text)
      × TakesBehind declared room found (end ++ more) text)
  pub left : (synced fresh : List Line) → IsFile holds may_leave declared room before synced fresh
      → (found ≡ synced ++ fresh) × (syncing ≡ Each → (c : List ℕ) → may_leave now c → FindsSome declared room end more c)

-- a crash at any moment leaves all lines of a file that were synced, and behind them the others and those that were taken of a text, up to
-- one of them
pub record LeavesBehind {D : Type 0} (holds may_leave : D → List ℕ → Type 0) (moment : D → ℕ) (left_since : D → ℕ → List ℕ → Type 0)
    (before now : D) (known : Option (List ℕ)) (declaration : List ℕ) (given : ℕ) : Type 0 where
  pub declared : Declaration
  pub written : IsDeclarationText declaration declared
  pub room : ℕ
  pub named : IsOwnRoom (holds before) given room
  pub left : (synced fresh : List Line) → IsFile holds may_leave declared room before synced fresh → (since : List Line)
      × GaveFirst known (λ text. TakesBehind declared room (synced ++ fresh) ((synced ++ fresh) ++ since) text)
      × LeavesOnly moment left_since before now (FindsSome declared room synced (fresh ++ since))

-- a file that isn't opened isn't touched at any moment, or a crash at any moment leaves the lines that it has left before
abbrev pub KeepsFile : {D : Type 0} → (D → List ℕ → Type 0) → (D → List ℕ → Type 0) → (D → ℕ) → (D → ℕ → List ℕ → Type 0) → D → D → ℕ
    → List ℕ
    → Type 0
KeepsFile holds may_leave moment left_since before now given declaration =
    IsUntouched holds may_leave moment left_since before now
    ⊎ ((d : Declaration) × IsDeclarationText declaration d × (room : ℕ) × IsOwnRoom (holds before) given room
    × ((synced fresh : List Line) → IsFile holds may_leave d room before synced fresh
    → LeavesOnly moment left_since before now (FindsSome d room synced fresh)))

-- how a follow ends whose file can't be opened
abbrev pub EndsUnopened : Status → Type 0
EndsUnopened statuses.TextRefused = Unit {0}
EndsUnopened statuses.StreamFailed = Unit {0}
EndsUnopened statuses.NoMemory = Unit {0}
EndsUnopened status = ⊥

-- no journal can have the room that was given, if that is the fault
abbrev pub IsUnroomed : ℕ → Unopened → Type 0
IsUnroomed room unopenings.BadRoom = IsBadRoom room
IsUnroomed room (unopenings.Store fault) = Unit {0}

-- how a file is told that can't be opened: the command line is at fault only where the room is
abbrev pub IsToldUnopened : Unopened → Status → Type 0
IsToldUnopened unopenings.BadRoom status = (status ≡ statuses.CommandRefused) ⊎ (status ≡ statuses.StreamFailed)
IsToldUnopened (unopenings.Store fault) status = EndsUnopened status
