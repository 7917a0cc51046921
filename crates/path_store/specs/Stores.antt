-- Journals that stand in files: which lines are found in one, and which of them are on the disk.
use Rattle.std.specs.Prelude.{◌≡◌, ◌≢◌, ◌⊎◌, ℕ, ◌+◌, ◌≤◌, true, List, [], ◌∷◌, ◌++◌, length, take, All}
use Rattle.std.specs.List.{AllByRecursion}
use Rattle.path_model.specs.declared.journal.Line.{Line}
use Rattle.path_model.specs.Declarations.{Declaration}
use Rattle.path_model.specs.Rooms.{IsRoom}
use Rattle.path_decl.specs.Lawful.{AreDistinctNames}
use Rattle.path_lines.specs.LineTexts.{operation_names}
use Rattle.path_journal.specs.declared.version.Version.TheVariants.{Three}
use Rattle.path_journal.specs.JournalTexts.{Kept, KeptFits, kept_text, lines_of}
use Rattle.path_journal.specs.CutTexts.{front_of, IsCutJournal}
use Rattle.path_store.specs.declared.store.Store.{Store}
use Rattle.path_store.specs.Devices.{IsImage}

-- a file that isn't too long to be opened
abbrev pub IsShort : List ℕ → Type 0
IsShort file = length file ≤ 134217728

-- the lines that are found in a file of this room: it is an image of the head alone, or a journal that was cut
abbrev pub Finds : Declaration → ℕ → List ℕ → List Line → Type 0
Finds d room file ls =
    (IsImage (front_of (Three room)) file × (ls ≡ [])) ⊎ ((bytes : ℕ) × IsCutJournal d file (Three room) ls bytes × IsShort file)

-- so many bytes of a file stand behind the lines that are found in it: all of a head that isn't whole, or a torn end
abbrev pub IsTornBy : Declaration → ℕ → List ℕ → List Line → ℕ → Type 0
IsTornBy d room file ls cut =
    (IsImage (front_of (Three room)) file × (file ≢ front_of (Three room)) × (ls ≡ []) × (cut ≡ length file))
    ⊎ ((bytes : ℕ) × IsCutJournal d file (Three room) ls bytes × (bytes + cut ≡ length file))

-- found are all lines that were synced, and those of the fresh ones up to one of them
abbrev pub FindsSome : Declaration → ℕ → List Line → List Line → List ℕ → Type 0
FindsSome d room synced fresh file = (n : ℕ) × (n ≤ length fresh) × Finds d room file (synced ++ take n fresh)

-- the same of a file of any length: it has a journal with these lines
abbrev pub HasSome : Declaration → ℕ → List Line → List Line → List ℕ → Type 0
HasSome d room synced fresh file =
    (n : ℕ) × (n ≤ length fresh) × (bytes : ℕ) × IsCutJournal d file (Three room) (synced ++ take n fresh) bytes

-- each line but the first was written while the one before it may not have been on the disk
abbrev pub AreMarked : List Kept → Type 0
AreMarked [] = Unit {0}
AreMarked (k ∷ ks) = AllByRecursion (λ m. m.0 ≡ true) ks

-- what a crash leaves of these lines: all that were synced, and an image of the text of the fresh ones
abbrev pub IsLeft : Declaration → ℕ → List Kept → List Kept → List ℕ → Type 0
IsLeft d room synced fresh file =
    (left : List ℕ) × (file ≡ (front_of (Three room) ++ kept_text d synced) ++ left) × IsImage (kept_text d fresh) left

-- a device has these lines, in so many bytes: those that are synced are on the disk
pub record HasLines {D : Type 0} (holds may_leave : D → List ℕ → Type 0) (d : Declaration) (room : ℕ) (device : D) (size : ℕ)
    (synced fresh : List Line) : Type 0 where
  pub is_room : IsRoom room
  pub names : AreDistinctNames (operation_names d)
  pub on_disk : List Kept
  pub not_yet : List Kept
  pub are_synced : lines_of on_disk ≡ synced
  pub are_fresh : lines_of not_yet ≡ fresh
  pub fits : All (KeptFits true) (on_disk ++ not_yet)
  pub marked : AreMarked not_yet
  pub text : holds device (front_of (Three room) ++ kept_text d (on_disk ++ not_yet))
  pub counted : size ≡ length (front_of (Three room) ++ kept_text d (on_disk ++ not_yet))
  pub short : size ≤ 134217728
  pub left : (c : List ℕ) → may_leave device c → IsLeft d room on_disk not_yet c

-- an open store has these lines, under its declaration
pub record IsStored {D A : Type 0} (holds may_leave : D → List ℕ → Type 0) (store : Store D A) (synced fresh : List Line) : Type 0 where
  pub lines : HasLines holds may_leave store.decl.declaration store.room store.device store.length synced fresh
  pub none_fresh : store.synced ≡ true → fresh ≡ []

-- a device that was read and repaired has these lines, all on the disk, in so many bytes
abbrev pub IsRecovered : {D : Type 0} → (D → List ℕ → Type 0) → (D → List ℕ → Type 0) → Declaration → ℕ → D → List Line → ℕ → Type 0
IsRecovered holds may_leave d room device ls size = HasLines holds may_leave d room device size ls []

-- a file that may be opened: these lines are found in what a read returns, and in what a crash may leave all that were synced and some
-- of the fresh ones. After a restart of the machine no line is fresh, since what is read is what is on the disk
pub record IsFile {D : Type 0} (holds may_leave : D → List ℕ → Type 0) (d : Declaration) (room : ℕ) (device : D)
    (synced fresh : List Line) : Type 0 where
  pub text : List ℕ
  pub read : holds device text
  pub found : Finds d room text (synced ++ fresh)
  pub left : (c : List ℕ) → may_leave device c → FindsSome d room synced fresh c
