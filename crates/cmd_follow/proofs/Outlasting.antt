-- What a crash leaves of the lines of a keeper.
use Rattle.std.proofs.Common.{◌≡◌, ◌⊎◌, inl, inr, ℕ, zero, suc, ◌+◌, ◌≤◌, List, [], ◌∷◌, ◌++◌, length, take, refl, sym, ap, ◌∙◌, subst, arith, append_assoc, length-append}
use Rattle.std.proofs.lemmas.List.{append-nil}
use Rattle.std.specs.Prelude.{OnErr}
use Rattle.std.specs.declared.result.Result.{Result}
use Rattle.std.specs.declared.result.Result.TheVariants.{Ok, Err}
use Rattle.path_model.specs.declared.journal.Line.{Line}
use Rattle.path_model.specs.Declarations.{Declaration}
use Rattle.path_store.specs.declared.store.Store.{Store}
use Rattle.path_store.specs.Devices.{LeavesOnly}
use Rattle.path_store.specs.Stores.{Finds, FindsSome, IsStored}
use Rattle.path_store.proofs.CallerLemmas.{at_start, found_longer, joined, weaker}
use Rattle.cmd_follow.specs.declared.stored.StoreKeeper.{StoreKeeper}
use Rattle.cmd_follow.specs.declared.stored.Syncing.TheVariants.{Each}
use Rattle.cmd_follow.specs.Stored.{FailsLine, KeepsLines, Outlasts}

take_behind : (xs ys : List Line) (n : ℕ) → take (length xs + n) (xs ++ ys) ≡ xs ++ take n ys
take_behind [] ys n = let same : zero + n ≡ n = omega arith in ap (λ (k : ℕ). take k ys) same
take_behind (x ∷ xs) ys n =
    let same : length (x ∷ xs) + n ≡ suc (length xs + n) = omega arith in
    ap (λ (k : ℕ). take k (x ∷ (xs ++ ys))) same ∙ ap (λ (l : List Line). x ∷ l) (take_behind xs ys n)

-- of lines that were synced, those behind the first ones may be counted to the others
pub found_behind : (d : Declaration) (room : ℕ) (found kept fresh : List Line) (c : List ℕ) → FindsSome d room (found ++ kept) fresh c
    → FindsSome d room found (kept ++ fresh) c
found_behind d room found kept fresh c some =
    let few = some.1 in
    let size = length-append kept fresh in
    let same : (found ++ kept) ++ take some.0 fresh ≡ found ++ take (length kept + some.0) (kept ++ fresh) =
    append_assoc found kept (take some.0 fresh) ∙ ap (λ x. found ++ x) (sym (take_behind kept fresh some.0)) in
    (length kept + some.0, omega (arith, few, size), subst (λ ls. Finds d room c ls) same some.2)

-- found under an equal declaration and room
found_as : (own d : Declaration) (other room : ℕ) (found fresh : List Line) (c : List ℕ) → own ≡ d → other ≡ room → FindsSome own other found fresh c
    → FindsSome d room found fresh c
found_as own d other room found fresh c same is some = subst (λ (e : Declaration). FindsSome e room found fresh c) same (subst (λ (r : ℕ). FindsSome own r found fresh c) is some)

-- what holds anyway holds where a call failed
pub on_err : {T E : Type 0} {P : Type 0} (r : Result T E) → P → OnErr r P
on_err (Ok x) p = tt
on_err (Err e) p = p

module _ {D A : Type 0} (holds may_leave : D → List ℕ → Type 0) (moment : D → ℕ) (left_since : D → ℕ → List ℕ → Type 0)
    (counts_now : (file : D) (t : ℕ) (c : List ℕ) → t ≤ moment file → may_leave file c → left_since file t c)
    (only_now : (file : D) (c : List ℕ) → left_since file (moment file) c → may_leave file c) where
  module _ (first now : StoreKeeper D A) (found ls : List Line) (k : KeepsLines holds may_leave moment left_since first now found ls) where
    -- one call more, in which a line may be written
    goes_on : (next : D) (more : List Line) → LeavesOnly moment left_since now.store.device next (FindsSome now.store.decl.declaration now.store.room (found ++ k.kept) (k.fresh ++ more))
        → LeavesOnly moment left_since first.store.device next (FindsSome first.store.decl.declaration first.store.room found ((k.kept ++ k.fresh) ++ more))
    goes_on next more call =
        joined moment left_since first.store.device now.store.device next (FindsSome first.store.decl.declaration first.store.room found ((k.kept ++ k.fresh) ++ more))
        (weaker moment left_since first.store.device now.store.device (FindsSome first.store.decl.declaration first.store.room found (k.kept ++ k.fresh)) (FindsSome first.store.decl.declaration first.store.room found ((k.kept ++ k.fresh) ++ more))
        (λ c some. found_longer first.store.decl.declaration first.store.room found (k.kept ++ k.fresh) more ((k.kept ++ k.fresh) ++ more) c refl some) k.any_moment)
        (weaker moment left_since now.store.device next (FindsSome now.store.decl.declaration now.store.room (found ++ k.kept) (k.fresh ++ more)) (FindsSome first.store.decl.declaration first.store.room found ((k.kept ++ k.fresh) ++ more))
        (λ c some. subst (λ ls. FindsSome first.store.decl.declaration first.store.room found ls c) (sym (append_assoc k.kept k.fresh more))
        (found_behind first.store.decl.declaration first.store.room found k.kept (k.fresh ++ more) c
        (found_as now.store.decl.declaration first.store.decl.declaration now.store.room first.store.room (found ++ k.kept) (k.fresh ++ more) c k.declared k.room some))) call)

    -- where each is synced before its answer, what was kept is on the disk
    synced_now : (next : D) (more : List Line) → now.syncing ≡ Each → LeavesOnly moment left_since now.store.device next (FindsSome now.store.decl.declaration now.store.room (found ++ k.kept) (k.fresh ++ more))
        → (c : List ℕ) → may_leave next c → FindsSome first.store.decl.declaration first.store.room ls more c
    synced_now next more each call c left =
        let none = k.none_fresh each in
        let all : found ++ k.kept ≡ ls = ap (λ x. found ++ x) (sym (append-nil k.kept) ∙ ap (λ x. k.kept ++ x) (sym none)) ∙ k.whole in
        let some = call.each c (counts_now next (moment now.store.device) c call.later left) in
        let here = found_as now.store.decl.declaration first.store.decl.declaration now.store.room first.store.room (found ++ k.kept) (k.fresh ++ more) c k.declared k.room some in
        subst (λ x. FindsSome first.store.decl.declaration first.store.room x more c) all
        (subst (λ x. FindsSome first.store.decl.declaration first.store.room (found ++ k.kept) (x ++ more) c) none here)

    -- so its lines outlast a call
    pub outlasts_call : (next : D) (more : List Line) → LeavesOnly moment left_since now.store.device next (FindsSome now.store.decl.declaration now.store.room (found ++ k.kept) (k.fresh ++ more))
        → Outlasts may_leave moment left_since first.store.decl.declaration first.store.room first.syncing first.store.device next found ls more
    outlasts_call next more call = record {
      since = k.kept ++ k.fresh;
      whole = k.whole;
      any_moment = goes_on next more call;
      synced = λ each. synced_now next more (k.syncing ∙ each) call;
    }

    pub outlasts_here : Outlasts may_leave moment left_since first.store.decl.declaration first.store.room first.syncing first.store.device now.store.device found ls []
    outlasts_here =
        outlasts_call now.store.device []
        (subst (λ x. LeavesOnly moment left_since now.store.device now.store.device (FindsSome now.store.decl.declaration now.store.room (found ++ k.kept) x)) (sym (append-nil k.fresh))
        (at_start holds may_leave now.store.decl.declaration now.store.room moment left_since only_now now.store.device now.store.length (found ++ k.kept) k.fresh k.stored.lines))

    -- a line more was written
    pub keeps_more : (next : StoreKeeper D A) (line : Line) → next.store.decl.declaration ≡ now.store.decl.declaration → next.store.room ≡ now.store.room → next.syncing ≡ now.syncing
        → IsStored holds may_leave next.store (found ++ k.kept) (k.fresh ++ line ∷ []) → (next.syncing ≡ Each → k.fresh ++ line ∷ [] ≡ [])
        → LeavesOnly moment left_since now.store.device next.store.device (FindsSome now.store.decl.declaration now.store.room (found ++ k.kept) (k.fresh ++ line ∷ []))
        → KeepsLines holds may_leave moment left_since first next found (ls ++ line ∷ [])
    keeps_more next line declared room syncing stored none call = record {
      declared = declared ∙ k.declared;
      room = room ∙ k.room;
      syncing = syncing ∙ k.syncing;
      kept = k.kept;
      fresh = k.fresh ++ line ∷ [];
      whole = ap (λ x. found ++ x) (sym (append_assoc k.kept k.fresh (line ∷ []))) ∙ sym (append_assoc found (k.kept ++ k.fresh) (line ∷ [])) ∙ ap (λ x. x ++ line ∷ []) k.whole;
      stored = stored;
      none_fresh = none;
      any_moment = subst (λ x. LeavesOnly moment left_since first.store.device next.store.device (FindsSome first.store.decl.declaration first.store.room found x)) (append_assoc k.kept k.fresh (line ∷ []))
          (goes_on next.store.device (line ∷ []) call);
    }

    -- and synced
    pub keeps_synced : (next : StoreKeeper D A) (line : Line) → next.store.decl.declaration ≡ now.store.decl.declaration → next.store.room ≡ now.store.room → next.syncing ≡ now.syncing
        → IsStored holds may_leave next.store ((found ++ k.kept) ++ (k.fresh ++ line ∷ [])) []
        → LeavesOnly moment left_since now.store.device next.store.device (FindsSome now.store.decl.declaration now.store.room (found ++ k.kept) (k.fresh ++ line ∷ []))
        → KeepsLines holds may_leave moment left_since first next found (ls ++ line ∷ [])
    keeps_synced next line declared room syncing stored call = record {
      declared = declared ∙ k.declared;
      room = room ∙ k.room;
      syncing = syncing ∙ k.syncing;
      kept = k.kept ++ (k.fresh ++ line ∷ []);
      fresh = [];
      whole = ap (λ x. found ++ x) (append-nil (k.kept ++ (k.fresh ++ line ∷ [])) ∙ sym (append_assoc k.kept k.fresh (line ∷ []))) ∙ sym (append_assoc found (k.kept ++ k.fresh) (line ∷ [])) ∙ ap (λ x. x ++ line ∷ []) k.whole;
      stored = subst (λ x. IsStored holds may_leave next.store x []) (append_assoc found k.kept (k.fresh ++ line ∷ [])) stored;
      none_fresh = λ e. refl;
      any_moment = subst (λ x. LeavesOnly moment left_since first.store.device next.store.device (FindsSome first.store.decl.declaration first.store.room found x)) (append_assoc k.kept k.fresh (line ∷ []) ∙ sym (append-nil (k.kept ++ (k.fresh ++ line ∷ []))))
          (goes_on next.store.device (line ∷ []) call);
    }

  -- a call of a store behind another
  pub joined_calls : (old mid new : Store D A) (synced fresh : List Line) → mid.decl.declaration ≡ old.decl.declaration → mid.room ≡ old.room
      → LeavesOnly moment left_since old.device mid.device (FindsSome old.decl.declaration old.room synced fresh)
      → LeavesOnly moment left_since mid.device new.device (FindsSome mid.decl.declaration mid.room synced fresh)
      → LeavesOnly moment left_since old.device new.device (FindsSome old.decl.declaration old.room synced fresh)
  joined_calls old mid new synced fresh declared room one two =
      joined moment left_since old.device mid.device new.device (FindsSome old.decl.declaration old.room synced fresh) one
      (weaker moment left_since mid.device new.device (FindsSome mid.decl.declaration mid.room synced fresh) (FindsSome old.decl.declaration old.room synced fresh)
      (λ c some. found_as mid.decl.declaration old.decl.declaration mid.room old.room synced fresh c declared room some) two)

  -- so it is whether a line failed or not
  pub outlasts_either : (first now : StoreKeeper D A) (found ls more : List Line)
      → ((more ≡ []) × KeepsLines holds may_leave moment left_since first now found ls) ⊎ FailsLine may_leave moment left_since first now found ls more
      → Outlasts may_leave moment left_since first.store.decl.declaration first.store.room first.syncing first.store.device now.store.device found ls more
  outlasts_either first now found ls more (inl p) =
      subst (λ x. Outlasts may_leave moment left_since first.store.decl.declaration first.store.room first.syncing first.store.device now.store.device found ls x) (sym p.0) (outlasts_here first now found ls p.1)
  outlasts_either first now found ls more (inr failed) = failed.outlasts

-- what was on the disk at first is kept
pub keeps_first : {D A : Type 0} (holds may_leave : D → List ℕ → Type 0) (moment : D → ℕ) (left_since : D → ℕ → List ℕ → Type 0)
    → ((file : D) (c : List ℕ) → left_since file (moment file) c → may_leave file c)
    → (first : StoreKeeper D A) (found : List Line) → IsStored holds may_leave first.store found [] → KeepsLines holds may_leave moment left_since first first found found
keeps_first holds may_leave moment left_since only_now first found stored = record {
  declared = refl;
  room = refl;
  syncing = refl;
  kept = [];
  fresh = [];
  whole = append-nil found;
  stored = subst (λ x. IsStored holds may_leave first.store x []) (sym (append-nil found)) stored;
  none_fresh = λ e. refl;
  any_moment = at_start holds may_leave first.store.decl.declaration first.store.room moment left_since only_now first.store.device first.store.length found [] stored.lines;
}
