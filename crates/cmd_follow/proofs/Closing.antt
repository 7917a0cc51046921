-- What a keeper has kept when a follow is closed.
use Rattle.std.proofs.Common.{◌≡◌, ◌≢◌, ◌⊎◌, inl, inr, ℕ, List, [], ◌++◌, Some, None, refl, sym, ◌∙◌, subst, append_assoc}
use Rattle.std.proofs.lemmas.List.{append-nil}
use Rattle.path_model.specs.declared.journal.Line.{Line}
use Rattle.path_model.specs.Declarations.{Declaration}
use Rattle.path_store.specs.Stores.{HasLines, IsStored}
use Rattle.tell_base.specs.declared.status.Status.{Status}
use Rattle.tell_base.specs.declared.status.Status.TheVariants as statuses
use Rattle.cmd_follow.specs.declared.stored.StoreKeeper.{StoreKeeper}
use Rattle.cmd_follow.specs.declared.stored.Syncing.{Syncing}
use Rattle.cmd_follow.specs.declared.stored.Syncing.TheVariants.{Each, Close, Never}
use Rattle.cmd_follow.specs.Stored.{FailsLine, HasKept, KeepsLines, Outlasts}

none_left : (fresh : List Line) (at_first now : Syncing) → now ≡ at_first → (now ≡ Each → fresh ≡ []) → now ≢ Close → at_first ≢ Never → fresh ≡ []
none_left fresh Each now is each other left = each is
none_left fresh Close now is each other left = absurd (other is)
none_left fresh Never now is each other left = absurd (left refl)

pub some_none : {T : Type 0} (x : T) → Some x ≡ None → ⊥
some_none x e = cc

-- how a follow ends whose lines aren't kept
pub told_worse : (told r : Status) → (told ≡ statuses.NoMemory) ⊎ (told ≡ statuses.StreamFailed) → (r ≡ told) ⊎ (r ≡ statuses.StreamFailed) → (r ≡ statuses.NoMemory) ⊎ (r ≡ statuses.StreamFailed)
told_worse told r (inl m) (inl e) = inl (e ∙ m)
told_worse told r (inr m) (inl e) = inr (e ∙ m)
told_worse told r t (inr e) = inr e

module _ {D A : Type 0} (holds may_leave : D → List ℕ → Type 0) (moment : D → ℕ) (left_since : D → ℕ → List ℕ → Type 0)
    (first old new : StoreKeeper D A) (found ls : List Line) (k : KeepsLines holds may_leave moment left_since first old found ls) where
  under_first : (device : D) (size : ℕ) (own : Declaration) (room : ℕ) (synced fresh : List Line) → own ≡ first.store.decl.declaration → room ≡ first.store.room
      → HasLines holds may_leave own room device size synced fresh → HasLines holds may_leave first.store.decl.declaration first.store.room device size synced fresh
  under_first device size own room synced fresh same is lines =
      subst (λ (e : Declaration). HasLines holds may_leave e first.store.room device size synced fresh) same (subst (λ (r : ℕ). HasLines holds may_leave own r device size synced fresh) is lines)

  -- all lines were synced
  pub kept_synced : new.store.decl.declaration ≡ old.store.decl.declaration → new.store.room ≡ old.store.room → IsStored holds may_leave new.store ((found ++ k.kept) ++ k.fresh) []
      → HasKept holds may_leave first.store.decl.declaration first.store.room new.store.device first.syncing ls
  kept_synced declared room stored = record {
    size = new.store.length;
    synced = (found ++ k.kept) ++ k.fresh;
    fresh = [];
    whole = append-nil ((found ++ k.kept) ++ k.fresh) ∙ append_assoc found k.kept k.fresh ∙ k.whole;
    lines = under_first new.store.device new.store.length new.store.decl.declaration new.store.room ((found ++ k.kept) ++ k.fresh) [] (declared ∙ k.declared) (room ∙ k.room) stored.lines;
    none_fresh = λ e. refl;
  }

  -- nothing was left to be synced
  pub kept_same : old.syncing ≢ Close → HasKept holds may_leave first.store.decl.declaration first.store.room old.store.device first.syncing ls
  kept_same other = record {
    size = old.store.length;
    synced = found ++ k.kept;
    fresh = k.fresh;
    whole = append_assoc found k.kept k.fresh ∙ k.whole;
    lines = under_first old.store.device old.store.length old.store.decl.declaration old.store.room (found ++ k.kept) k.fresh k.declared k.room k.stored.lines;
    none_fresh = none_left k.fresh first.syncing old.syncing k.syncing k.none_fresh other;
  }

-- what was closed outlasts a crash, since no line failed
pub outlasts_closed : {D A : Type 0} (holds may_leave : D → List ℕ → Type 0) (moment : D → ℕ) (left_since : D → ℕ → List ℕ → Type 0)
    (first old new : StoreKeeper D A) (found ls more : List Line) → old.fault ≡ None
    → ((more ≡ []) × KeepsLines holds may_leave moment left_since first old found ls) ⊎ FailsLine may_leave moment left_since first old found ls more
    → (KeepsLines holds may_leave moment left_since first old found ls
    → Outlasts may_leave moment left_since first.store.decl.declaration first.store.room first.syncing first.store.device new.store.device found ls [])
    → Outlasts may_leave moment left_since first.store.decl.declaration first.store.room first.syncing first.store.device new.store.device found ls more
outlasts_closed holds may_leave moment left_since first old new found ls more none (inl p) close =
    subst (λ x. Outlasts may_leave moment left_since first.store.decl.declaration first.store.room first.syncing first.store.device new.store.device found ls x) (sym p.0) (close p.1)
outlasts_closed holds may_leave moment left_since first old new found ls more none (inr failed) close = absurd (failed.failed none)
