-- A file is read before it is opened.
use Rattle.std.proofs.Common.{◌≡◌, ◌⊎◌, ℕ, List, [], ◌++◌, Option, inl, inr, sym, ap, ◌∙◌, subst}
use Rattle.std.specs.Prelude.{unwrap_or}
use Rattle.path_model.specs.declared.journal.Line.{Line}
use Rattle.path_model.specs.Declarations.{Declaration}
use Rattle.path_model.specs.Rooms.{IsBadRoom, IsRoom}
use Rattle.path_journal.specs.declared.version.Version.{Version}
use Rattle.path_journal.specs.declared.version.Version.TheVariants.{One, Two, Three}
use Rattle.path_journal.specs.CutTexts.{HasNoHead, VersionFits, front_of, room_of}
use Rattle.path_store.specs.Devices.{IsUntouched, LeavesOnly}
use Rattle.path_store.specs.Stores.{FindsSome, IsFile, IsStored}
use Rattle.path_store.specs.declared.store.Store.{Store}
use Rattle.path_store.proofs.CallerLemmas.{joined, weaker}
use Rattle.cmd_follow.specs.Stored.{IsHeadOf}
use Rattle.cmd_follow.proofs.Ending.{no_good_room}

-- a read changes nothing
pub read_file : {D : Type 0} (holds may_leave : D → List ℕ → Type 0) (d : Declaration) (room : ℕ) (old new : D) (synced fresh : List Line)
    → ((b : List ℕ) → holds old b → holds new b) → ((c : List ℕ) → may_leave new c → may_leave old c)
    → IsFile holds may_leave d room old synced fresh → IsFile holds may_leave d room new synced fresh
read_file holds may_leave d room old new synced fresh read crash file = record {
  text = file.text;
  read = read file.text file.read;
  found = file.found;
  left = λ c left. file.left c (crash c left);
}

-- the room that a text names, or else the one that is given
pub named_so : (version : Version) (given own : ℕ) (named : Option ℕ) (text other : List ℕ) → other ≡ text → VersionFits version → (version ≡ One → HasNoHead other)
    → (body : List ℕ) × (other ≡ front_of version ++ body) → named ≡ room_of version → own ≡ unwrap_or named given
    → (v : Version) × IsHeadOf text v × (own ≡ unwrap_or (room_of v) given)
named_so version given own named text other same fits none head is e = (
  version,
  record { fits = fits; none = λ one. subst HasNoHead same (none one); body = head.0; parts = sym same ∙ head.1 },
  e ∙ ap (λ x. unwrap_or x given) is,
)

-- a file that wasn't touched, and one whose store was opened behind that
module _ {D : Type 0} (holds may_leave : D → List ℕ → Type 0) (moment : D → ℕ) (left_since : D → ℕ → List ℕ → Type 0) (old mid : D)
    (same : IsUntouched holds may_leave moment left_since old mid) where
  pub opened_behind : (new : D) (d : Declaration) (room : ℕ) (synced fresh : List Line) → IsFile holds may_leave d room old synced fresh
      → LeavesOnly moment left_since mid new (FindsSome d room synced fresh) → LeavesOnly moment left_since old new (FindsSome d room synced fresh)
  opened_behind new d room synced fresh file run =
      joined moment left_since old mid new (FindsSome d room synced fresh)
      (weaker moment left_since old mid (may_leave old) (FindsSome d room synced fresh) file.left same.any_moment) run

  -- the lines that the file has are found and stored
  pub opened_all : {A : Type 0} (own d : Declaration) (room : ℕ) (synced fresh found : List Line) (store : Store D A) → own ≡ d
      → (IsFile holds may_leave d room mid synced fresh → found ≡ synced ++ fresh) → (IsFile holds may_leave d room mid synced fresh → IsStored holds may_leave store (synced ++ fresh) [])
      → (IsFile holds may_leave d room mid synced fresh → LeavesOnly moment left_since mid store.device (FindsSome d room synced fresh))
      → IsFile holds may_leave own room old synced fresh
      → (found ≡ synced ++ fresh) × IsStored holds may_leave store (synced ++ fresh) [] × LeavesOnly moment left_since old store.device (FindsSome own room synced fresh)
  opened_all own d room synced fresh found store is lines stored run at_own =
      let file : IsFile holds may_leave d room old synced fresh = subst (λ (e : Declaration). IsFile holds may_leave e room old synced fresh) is at_own in
      let read = read_file holds may_leave d room old mid synced fresh same.read same.left file in
      (lines read, stored read, subst (λ (e : Declaration). LeavesOnly moment left_since old store.device (FindsSome e room synced fresh)) (sym is) (opened_behind store.device d room synced fresh file (run read)))

-- the room that is named, or else the one that is given
pub named_or : (version : Version) (given own : ℕ) (named : Option ℕ) → VersionFits version → named ≡ room_of version → own ≡ unwrap_or named given → (own ≡ given) ⊎ IsRoom own
named_or One given own named fits is e = inl (e ∙ ap (λ x. unwrap_or x given) is)
named_or (Two room) given own named fits is e = inr (subst IsRoom (sym (e ∙ ap (λ x. unwrap_or x given) is)) fits)
named_or (Three room) given own named fits is e = inr (subst IsRoom (sym (e ∙ ap (λ x. unwrap_or x given) is)) fits)

-- a bad room was given
pub same_room : (own given : ℕ) → (own ≡ given) ⊎ IsRoom own → IsBadRoom own → IsBadRoom given
same_room own given (inl same) bad = subst IsBadRoom same bad
same_room own given (inr good) bad = absurd (no_good_room own good bad)

-- what holds under the declaration that was passed holds under the one of the store
pub opened_kept : (P : Declaration → Type 0) (own given : Declaration) → own ≡ given → P given → P own
opened_kept P own given same p = subst P (sym same) p
