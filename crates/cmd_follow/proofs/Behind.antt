-- A follow that goes on behind the lines of a file.
use Rattle.std.proofs.Common.{◌≡◌, ◌≢◌, ℕ, Bool, false, List, [], ◌++◌, ◌⊎◌, inl, inr, true, Option, refl, sym, ap, ◌∙◌, subst, append_assoc}
use Rattle.std.proofs.lemmas.List.{append-nil}
use Rattle.path_model.specs.declared.journal.Line.{Line}
use Rattle.path_model.specs.Declarations.{Declaration}
use Rattle.path_model.specs.Rooms.{IsBadRoom}
use Rattle.path_decl.specs.Text.{IsDeclarationText}
use Rattle.path_shelf.specs.Own.{own_state}
use Rattle.path_shelf.specs.States.{MayFail, State}
use Rattle.path_system.specs.Accounts.{Account, account_of}
use Rattle.tell_base.specs.Own.{own_states}
use Rattle.tell_base.specs.declared.status.Status.{Status}
use Rattle.tell_base.specs.declared.status.Status.TheVariants as statuses
use Rattle.tell_base.proofs.CallerLemmas.{unfailing}
use Rattle.cmd_follow.specs.Follows.{Follows, GaveAll, GaveFirst, at_end}
use Rattle.path_store.specs.Devices.{IsUntouched, LeavesOnly}
use Rattle.path_store.specs.Stores.{FindsSome, IsFile, IsStored}
use Rattle.path_store.proofs.CallerLemmas.{found_longer, joined, weaker}
use Rattle.cmd_follow.specs.declared.stored.StoreKeeper.{StoreKeeper}
use Rattle.cmd_follow.specs.declared.stored.Unopened.{Unopened}
use Rattle.cmd_follow.specs.declared.stored.Unopened.TheVariants as unopenings
use Rattle.cmd_follow.specs.Stops.{IsEnding}
use Rattle.cmd_follow.specs.Stored.{AnsweredBehind, AreFound, AreKept, EndsUnopened, HasKept, IsOwnRoom, IsToldUnopened, IsUnroomed, KeepsFile, KeepsLines, LeavesBehind, Outlasts, TakesBehind, WroteBehind}
use Rattle.cmd_follow.specs.Inner.Taken.{GoesOn, Sent, Through, Took}
use Rattle.cmd_follow.proofs.Ending.{follows_so}
use Rattle.cmd_follow.proofs.Outlasting.{found_behind, keeps_first}
use Rattle.cmd_follow.proofs.Written.{read_first, read_none}

-- how a follow ends that was closed
pub closed_done : (r s : Status) → (r ≡ s) ⊎ (r ≡ statuses.NoMemory) ⊎ (r ≡ statuses.StreamFailed) → r ≡ statuses.Done → s ≡ statuses.Done
closed_done r s (inl e) is = sym e ∙ is
closed_done r s (inr (inl e)) is = let no : statuses.NoMemory ≡ statuses.Done = sym e ∙ is in cc
closed_done r s (inr (inr e)) is = let no : statuses.StreamFailed ≡ statuses.Done = sym e ∙ is in cc

pub closed_refused : (r s : Status) → (r ≡ s) ⊎ (r ≡ statuses.NoMemory) ⊎ (r ≡ statuses.StreamFailed) → r ≡ statuses.TextRefused → s ≡ statuses.TextRefused
closed_refused r s (inl e) is = sym e ∙ is
closed_refused r s (inr (inl e)) is = let no : statuses.NoMemory ≡ statuses.TextRefused = sym e ∙ is in cc
closed_refused r s (inr (inr e)) is = let no : statuses.StreamFailed ≡ statuses.TextRefused = sym e ∙ is in cc

-- how one ends whose file has a wrong line
pub wrong_done : (r : Status) → (r ≡ statuses.Unsound) ⊎ (r ≡ statuses.StreamFailed) → r ≡ statuses.Done → ⊥
wrong_done r (inl e) is = let no : statuses.Unsound ≡ statuses.Done = sym e ∙ is in cc
wrong_done r (inr e) is = let no : statuses.StreamFailed ≡ statuses.Done = sym e ∙ is in cc

pub wrong_declared : (r : Status) → (r ≡ statuses.Unsound) ⊎ (r ≡ statuses.StreamFailed) → r ≡ statuses.DeclarationRefused → ⊥
wrong_declared r (inl e) is = let no : statuses.Unsound ≡ statuses.DeclarationRefused = sym e ∙ is in cc
wrong_declared r (inr e) is = let no : statuses.StreamFailed ≡ statuses.DeclarationRefused = sym e ∙ is in cc

-- one that has no command line at fault
pub closed_ending : (r s : Status) → (r ≡ s) ⊎ (r ≡ statuses.NoMemory) ⊎ (r ≡ statuses.StreamFailed) → IsEnding s → r ≡ statuses.CommandRefused → ⊥
closed_ending r s (inl e) end is = subst IsEnding (sym e ∙ is) end
closed_ending r s (inr (inl e)) end is = let no : statuses.NoMemory ≡ statuses.CommandRefused = sym e ∙ is in cc
closed_ending r s (inr (inr e)) end is = let no : statuses.StreamFailed ≡ statuses.CommandRefused = sym e ∙ is in cc

pub closed_declared : (r s : Status) → (r ≡ s) ⊎ (r ≡ statuses.NoMemory) ⊎ (r ≡ statuses.StreamFailed) → IsEnding s → r ≡ statuses.DeclarationRefused → ⊥
closed_declared r s (inl e) end is = subst IsEnding (sym e ∙ is) end
closed_declared r s (inr (inl e)) end is = let no : statuses.NoMemory ≡ statuses.DeclarationRefused = sym e ∙ is in cc
closed_declared r s (inr (inr e)) end is = let no : statuses.StreamFailed ≡ statuses.DeclarationRefused = sym e ∙ is in cc

pub wrong_command : (r : Status) → (r ≡ statuses.Unsound) ⊎ (r ≡ statuses.StreamFailed) → r ≡ statuses.CommandRefused → ⊥
wrong_command r (inl e) is = let no : statuses.Unsound ≡ statuses.CommandRefused = sym e ∙ is in cc
wrong_command r (inr e) is = let no : statuses.StreamFailed ≡ statuses.CommandRefused = sym e ∙ is in cc

-- one whose file can't be opened
pub told_done : (u : Unopened) (r : Status) → IsToldUnopened u r → r ≡ statuses.Done → ⊥
told_done unopenings.BadRoom r (inl e) is = let no : statuses.CommandRefused ≡ statuses.Done = sym e ∙ is in cc
told_done unopenings.BadRoom r (inr e) is = let no : statuses.StreamFailed ≡ statuses.Done = sym e ∙ is in cc
told_done (unopenings.Store fault) r told is = subst EndsUnopened is told

pub told_declared : (u : Unopened) (r : Status) → IsToldUnopened u r → r ≡ statuses.DeclarationRefused → ⊥
told_declared unopenings.BadRoom r (inl e) is = let no : statuses.CommandRefused ≡ statuses.DeclarationRefused = sym e ∙ is in cc
told_declared unopenings.BadRoom r (inr e) is = let no : statuses.StreamFailed ≡ statuses.DeclarationRefused = sym e ∙ is in cc
told_declared (unopenings.Store fault) r told is = subst EndsUnopened is told

pub told_room : (u : Unopened) (r : Status) (room : ℕ) → IsToldUnopened u r → IsUnroomed room u → r ≡ statuses.CommandRefused → IsBadRoom room
told_room unopenings.BadRoom r room told bad is = bad
told_room (unopenings.Store fault) r room told bad is = absurd (subst EndsUnopened is told)

-- how one doesn't end whose lines have been kept
pub done_kept : (r : Status) → r ≡ statuses.Done → (r ≢ statuses.NoMemory) × (r ≢ statuses.StreamFailed)
done_kept r is = ((λ e. (let no : statuses.Done ≡ statuses.NoMemory = sym is ∙ e in cc)), (λ e. (let no : statuses.Done ≡ statuses.StreamFailed = sym is ∙ e in cc)))

pub refused_kept : (r : Status) → r ≡ statuses.TextRefused → (r ≢ statuses.NoMemory) × (r ≢ statuses.StreamFailed)
refused_kept r is = ((λ e. (let no : statuses.TextRefused ≡ statuses.NoMemory = sym is ∙ e in cc)), (λ e. (let no : statuses.TextRefused ≡ statuses.StreamFailed = sym is ∙ e in cc)))

-- a run behind the opening of a file
moments_behind : {D : Type 0} (moment : D → ℕ) (left_since : D → ℕ → List ℕ → Type 0) (before mid now : D) (d : Declaration) (room : ℕ) (synced fresh more : List Line)
    → LeavesOnly moment left_since before mid (FindsSome d room synced fresh) → LeavesOnly moment left_since mid now (FindsSome d room (synced ++ fresh) more)
    → LeavesOnly moment left_since before now (FindsSome d room synced (fresh ++ more))
moments_behind moment left_since before mid now d room synced fresh more one two =
    joined moment left_since before mid now (FindsSome d room synced (fresh ++ more))
    (weaker moment left_since before mid (FindsSome d room synced fresh) (FindsSome d room synced (fresh ++ more)) (λ c some. found_longer d room synced fresh more (fresh ++ more) c refl some) one)
    (weaker moment left_since mid now (FindsSome d room (synced ++ fresh) more) (FindsSome d room synced (fresh ++ more)) (λ c some. found_behind d room synced fresh more c some) two)

module _ (Y : Type 0) (declaration : List ℕ) (had wrote writes : Option (List ℕ)) (d : Declaration) (states : List State) (room : ℕ) (holds : List ℕ → Type 0)
    (found given : List Line) (opened system : Account) (declares : IsDeclarationText declaration d) (own : states ≡ own_states d) (is : opened ≡ account_of d room states)
    (goes : GoesOn opened system × (system.journal ≡ opened.journal ++ given)) (same : given ≡ found) (are : AreFound holds d room found) where
  went : system ≡ record (account_of d room (own_states d)) { journal = found; failures = system.failures }
  went =
      goes.0
      ∙ ap (λ (a : Account). record a { journal = system.journal; failures = system.failures }) (is ∙ ap (λ xs. account_of d room xs) own)
      ∙ ap (λ ls. record (account_of d room (own_states d)) { journal = ls; failures = system.failures }) (goes.1 ∙ ap (λ (a : Account). a.journal ++ given) is ∙ same)

  followed_so : (end : List Line) (text bytes : List ℕ) (e whole : Bool)
      → Follows system.declaration system.room system.openings (MayFail (own_state {Y = Y})) whole system.journal false text end e bytes
      → Follows d room (account_of d room (own_states d)).openings ⊥ whole found false text end e bytes
  followed_so end text bytes e whole f =
      let g = subst (λ (s : Account). Follows s.declaration s.room s.openings (MayFail (own_state {Y = Y})) whole s.journal false text end e bytes) went f in
      follows_so (unfailing {Y = Y}) g

  module _ {D A : Type 0} (device may_leave : D → List ℕ → Type 0) (moment : D → ℕ) (left_since : D → ℕ → List ℕ → Type 0)
      (only_now : (file : D) (c : List ℕ) → left_since file (moment file) c → may_leave file c)
      (before now : D) (first : StoreKeeper D A) (under : first.store.decl.declaration ≡ d) (same_room : room ≡ first.store.room)
      (stored : (synced fresh : List Line) → IsFile device may_leave d room before synced fresh → (found ≡ synced ++ fresh)
      × IsStored device may_leave first.store (synced ++ fresh) [] × LeavesOnly moment left_since before first.store.device (FindsSome d room synced fresh)) where
    -- what was found is what the keeper begins with
    begins : (ls : List Line) → found ≡ ls → IsStored device may_leave first.store ls [] → KeepsLines device may_leave moment left_since first first ls system.journal
    begins ls is_found all =
        let same : ls ≡ system.journal = sym is_found ∙ sym (ap (λ (s : Account). s.journal) went) in
        subst (λ x. KeepsLines device may_leave moment left_since first first ls x) same (keeps_first device may_leave moment left_since only_now first ls all)

    kept_under : (e : Declaration) (r : ℕ) (end : List Line) → e ≡ d → r ≡ room → HasKept device may_leave e r now first.syncing end → HasKept device may_leave d room now first.syncing end
    kept_under e r end same is h = subst (λ (x : Declaration). HasKept device may_leave x room now first.syncing end) same (subst (λ (x : ℕ). HasKept device may_leave e x now first.syncing end) is h)

    pub kept_behind : (end : List Line)
        → ((ls : List Line) → KeepsLines device may_leave moment left_since first first ls system.journal → HasKept device may_leave first.store.decl.declaration first.store.room now first.syncing end)
        → AreKept device may_leave d room before now first.syncing found end
    kept_behind end ends = λ synced fresh file.
        let p = stored synced fresh file in
        (p.0, kept_under first.store.decl.declaration first.store.room end under (sym same_room) (ends (synced ++ fresh) (begins (synced ++ fresh) p.0 p.1)))

    pub wrote_behind : (refused : Bool) (end : List Line) → AreKept device may_leave d room before now first.syncing found end → ((b : List ℕ) → device before b → holds b)
        → GaveAll had (λ text. Through (MayFail (own_state {Y = Y})) system text false refused end wrote writes)
        → WroteBehind device may_leave before now first.syncing had wrote writes declaration refused
    wrote_behind refused end kept read t = record {
      declared = d;
      written = declares;
      room = room;
      found = found;
      are_found = λ b held. are b (read b held);
      end = end;
      gave = (t.0, t.1, (t.2.0, followed_so end t.0 t.2.0 refused true t.2.1, t.2.2));
      kept = kept;
    }

    -- what outlasts a crash
    module _ (given_room : ℕ) (named : IsOwnRoom (device before) given_room room) (end more : List Line)
        (outlasts : (ls : List Line) → KeepsLines device may_leave moment left_since first first ls system.journal
        → Outlasts may_leave moment left_since first.store.decl.declaration first.store.room first.syncing first.store.device now ls end more) where
      outlasts_under : (ls : List Line) → KeepsLines device may_leave moment left_since first first ls system.journal → Outlasts may_leave moment left_since d room first.syncing first.store.device now ls end more
      outlasts_under ls k =
          subst (λ (x : Declaration). Outlasts may_leave moment left_since x room first.syncing first.store.device now ls end more) under
          (subst (λ (x : ℕ). Outlasts may_leave moment left_since first.store.decl.declaration x first.syncing first.store.device now ls end more) (sym same_room) (outlasts ls k))

      pub answered_behind : ((b : List ℕ) → device before b → holds b)
          → GaveFirst had (λ text. Took (MayFail (own_state {Y = Y})) system text false (end ++ more) × Sent (MayFail (own_state {Y = Y})) system text false end wrote writes)
          → AnsweredBehind device may_leave before now first.syncing had wrote writes declaration given_room
      answered_behind read t = record {
        declared = d;
        written = declares;
        room = room;
        named = named;
        found = found;
        are_found = λ b held. are b (read b held);
        end = end;
        more = more;
        gave = (
          t.0,
          t.1,
          (
            (t.2.1.0, (t.2.1.1, followed_so end t.0 t.2.1.0 t.2.1.1 false t.2.1.2), t.2.1.3),
            (t.2.0.0, t.2.0.1, followed_so (end ++ more) t.0 t.2.0.0 t.2.0.1 false t.2.0.2),
          ),
        );
        left = λ synced fresh file. (
            let p = stored synced fresh file in
            let o = outlasts_under (synced ++ fresh) (begins (synced ++ fresh) p.0 p.1) in
            (p.0, o.synced));
      }

      pub leaves_behind : GaveFirst had (λ text. Took (MayFail (own_state {Y = Y})) system text false (end ++ more))
          → LeavesBehind device may_leave moment left_since before now had declaration given_room
      leaves_behind t = record {
        declared = d;
        written = declares;
        room = room;
        named = named;
        left = λ synced fresh file. (
            let p = stored synced fresh file in
            let o = outlasts_under (synced ++ fresh) (begins (synced ++ fresh) p.0 p.1) in
            let last : end ++ more ≡ (synced ++ fresh) ++ (o.since ++ more) = ap (λ x. x ++ more) (sym o.whole) ∙ append_assoc (synced ++ fresh) o.since more in
            let taken : TakesBehind d room found (end ++ more) t.0 = (t.2.0, t.2.1, followed_so (end ++ more) t.0 t.2.0 t.2.1 false t.2.2) in
            let behind = subst (λ x. TakesBehind d room x (end ++ more) t.0) p.0 taken in (
              o.since ++ more,
              (t.0, t.1, subst (λ x. TakesBehind d room (synced ++ fresh) x t.0) last behind),
              moments_behind moment left_since before first.store.device now d room synced fresh (o.since ++ more) p.2 o.any_moment,
            ));
      }

-- of a file that was opened, and then nothing was taken
pub opened_leaves : {D : Type 0} (holds may_leave : D → List ℕ → Type 0) (moment : D → ℕ) (left_since : D → ℕ → List ℕ → Type 0) (had : Option (List ℕ)) (declaration : List ℕ) (given room : ℕ) (d : Declaration) (before mid now : D)
    → now ≡ mid → IsDeclarationText declaration d → IsOwnRoom (holds before) given room
    → ((synced fresh : List Line) → IsFile holds may_leave d room before synced fresh → LeavesOnly moment left_since before mid (FindsSome d room synced fresh))
    → LeavesBehind holds may_leave moment left_since before now had declaration given
opened_leaves holds may_leave moment left_since had declaration given room d before mid now same declares named left = record {
  declared = d;
  written = declares;
  room = room;
  named = named;
  left = λ synced fresh file. (
    [],
    ([], read_first had had [] (read_none had), ([], false, subst (λ x. Follows d room (account_of d room (own_states d)).openings ⊥ false (synced ++ fresh) false [] x false []) (sym (append-nil (synced ++ fresh))) (at_end tt))),
    subst (λ x. LeavesOnly moment left_since before now (FindsSome d room synced x)) (sym (append-nil fresh)) (subst (λ x. LeavesOnly moment left_since before x (FindsSome d room synced fresh)) (sym same) (left synced fresh file)),
  );
}

-- and of one that wasn't
pub unopened_leaves : {D : Type 0} (holds may_leave : D → List ℕ → Type 0) (moment : D → ℕ) (left_since : D → ℕ → List ℕ → Type 0) (had : Option (List ℕ)) (declaration : List ℕ) (given : ℕ) (before now : D)
    → KeepsFile holds may_leave moment left_since before now given declaration
    → IsUntouched holds may_leave moment left_since before now ⊎ LeavesBehind holds may_leave moment left_since before now had declaration given
unopened_leaves holds may_leave moment left_since had declaration given before now (inl same) = inl same
unopened_leaves holds may_leave moment left_since had declaration given before now (inr (d, declares, room, named, left)) =
    inr (opened_leaves holds may_leave moment left_since had declaration given room d before now now refl declares named left)

-- what a text declares is said of the system and of the store
pub once_own : (a b : Declaration) (states : List State) → a ≡ b → states ≡ own_states a → states ≡ own_states b
once_own a b states same own = subst (λ (e : Declaration). states ≡ own_states e) same own

pub once_open : (a b : Declaration) (states : List State) (room : ℕ) (opened : Account) → a ≡ b → opened ≡ account_of a room states → opened ≡ account_of b room states
once_open a b states room opened same is = subst (λ (e : Declaration). opened ≡ account_of e room states) same is

-- how a follow ended that ended without memory when it was closed
pub not_failed : (r s : Status) → (s ≡ statuses.StreamFailed → r ≡ statuses.StreamFailed) → r ≡ statuses.NoMemory → s ≢ statuses.StreamFailed
not_failed r s failed is told = let both : statuses.NoMemory ≡ statuses.StreamFailed = sym is ∙ failed told in cc
