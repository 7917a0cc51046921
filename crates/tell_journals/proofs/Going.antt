-- How far the lines of segments have been taken over.
use Rattle.std.proofs.Common.{◌≡◌, ℕ, ◌+◌, ◌<◌, ◌≤◌, List, [], ◌∷◌, ◌++◌, length, get_or, take, refl, sym, ap, ◌∙◌, subst, arith}
use Rattle.std.proofs.lemmas.List.{take_more, take_all, nil_from_length}
use Rattle.path_model.specs.declared.journal.Line.{Line}
use Rattle.path_model.specs.Declarations.{Declaration}
use Rattle.path_shelf.specs.States.{State}
use Rattle.path_system.specs.Accounts.{Account, account_of, IsSystem, rotated}
use Rattle.path_system.specs.Controllers.{IsControlled}
use Rattle.path_system.specs.Taken.{IsTaken}
use Rattle.path_system.proofs.CallerLemmas.{is_system_of}
use Rattle.tell_base.specs.Own.{own_states}
use Rattle.tell_journals.specs.Behind.{HasAnswered, segments_of}
use Rattle.tell_journals.specs.Inner.{HasTaken, HasTakenAll, IsFresh}

-- a rotation leaves a system
pub turned : (system new : Account) → IsSystem system → new ≡ rotated system → IsControlled new → IsSystem new
turned system new right is controlled = is_system_of new (ap (λ (a : Account). a.opened) is ∙ right.first) controlled

-- no line was taken
pub none_taken : (old : Account) → IsSystem old → old.journal ≡ [] → HasTaken old [] old
none_taken old is none = record {
  taken = ap (λ ls. record old { journal = ls }) none;
  is_system = is;
}

-- one line more
pub one_taken : (old : Account) (lines : List Line) (n : ℕ) (x : Line) (system new : Account) → n < length lines → HasTaken old (take n lines) system
    → IsTaken system (get_or lines n x) new → IsSystem new → HasTaken old (take (n + 1) lines) new
one_taken old lines n x system new within so_far one is = record {
  taken = one.written
      ∙ ap (λ (a : Account). record a { journal = a.journal ++ get_or lines n x ∷ []; failures = new.failures }) so_far.taken
      ∙ ap (λ ls. record old { journal = ls; failures = new.failures }) (sym (take_more lines n x within));
  is_system = is;
}

-- all of them
pub all_taken : (old : Account) (lines : List Line) (n : ℕ) (new : Account) → length lines ≡ n → HasTaken old (take n lines) new → HasTaken old lines new
all_taken old lines n new whole h = subst (λ ls. HasTaken old ls new) (take_all n lines (omega (arith, whole))) h

module _ (old : Account) (segments : List (List Line)) where
  -- the first i segments were taken over
  pub record SoFar (i : ℕ) (system : Account) : Type 0 where
    pub stays : system ≡ record old { earlier = system.earlier; journal = system.journal; failures = system.failures }
    pub first : i ≡ 0 → (system.earlier ≡ []) × (system.journal ≡ [])
    pub later : 0 < i → system.earlier ++ system.journal ∷ [] ≡ take i segments
    pub is_system : IsSystem system

  -- and the next begins
  pub record Begins (i : ℕ) (system : Account) : Type 0 where
    pub stays : system ≡ record old { earlier = system.earlier; journal = system.journal; failures = system.failures }
    pub earlier : system.earlier ≡ take i segments
    pub empty : system.journal ≡ []
    pub is_system : IsSystem system

  pub nothing_yet : IsFresh old → SoFar 0 old
  nothing_yet fresh = record {
    stays = refl;
    first = λ e. (fresh.no_earlier, fresh.no_lines);
    later = λ l. absurd (omega (arith, l));
    is_system = fresh.is_system;
  }

  pub first_begins : (i : ℕ) (system : Account) → i ≡ 0 → SoFar i system → Begins i system
  first_begins i system start s = record {
    stays = s.stays;
    earlier = (s.first start).0 ∙ sym (ap (λ k. take k segments) start);
    empty = (s.first start).1;
    is_system = s.is_system;
  }

  pub next_begins : (i : ℕ) (system new : Account) → 0 < i → SoFar i system → new ≡ rotated system → IsSystem new → Begins i new
  next_begins i system new more s is right =
      let kept : new.earlier ≡ system.earlier ++ system.journal ∷ [] = ap (λ (a : Account). a.earlier) is in
      let none : new.journal ≡ [] = ap (λ (a : Account). a.journal) is in
      let failures : new.failures ≡ system.failures = ap (λ (a : Account). a.failures) is in
      record {
        stays = is
            ∙ ap (λ (a : Account). record a { earlier = system.earlier ++ system.journal ∷ []; journal = [] }) s.stays
            ∙ ap (λ es. record old { earlier = es; journal = []; failures = system.failures }) (sym kept)
            ∙ ap (λ ls. record old { earlier = new.earlier; journal = ls; failures = system.failures }) (sym none)
            ∙ ap (λ fs. record old { earlier = new.earlier; journal = new.journal; failures = fs }) (sym failures);
        earlier = kept ∙ s.later more;
        empty = none;
        is_system = right;
      }

  pub one_more : (i : ℕ) (lines : List Line) (system new : Account) → i < length segments → lines ≡ get_or segments i [] → Begins i system → HasTaken system lines new → SoFar (i + 1) new
  one_more i lines system new within is b t =
      let journal : new.journal ≡ lines = ap (λ (a : Account). a.journal) t.taken in
      let earlier : new.earlier ≡ system.earlier = ap (λ (a : Account). a.earlier) t.taken in
      record {
        stays = t.taken
            ∙ ap (λ (a : Account). record a { journal = lines; failures = new.failures }) b.stays
            ∙ ap (λ ls. record old { earlier = system.earlier; journal = ls; failures = new.failures }) (sym journal)
            ∙ ap (λ es. record old { earlier = es; journal = new.journal; failures = new.failures }) (sym earlier);
        first = λ e. absurd (omega (arith, e));
        later = λ l.
            ap (λ es. es ++ new.journal ∷ []) (earlier ∙ b.earlier)
            ∙ ap (λ ls. take i segments ++ ls ∷ []) (journal ∙ is)
            ∙ sym (take_more segments i [] within);
        is_system = t.is_system;
      }

none_in : (segments : List (List Line)) (i : ℕ) → i ≡ 0 → length segments ≡ i → segments ≡ []
none_in segments i start whole = nil_from_length segments (omega (arith, start, whole))

-- all of them
pub all_segments : (old : Account) (segments : List (List Line)) (i : ℕ) (new : Account) → length segments ≡ i → SoFar old segments i new → HasTakenAll old segments new
all_segments old [] i new whole s =
    let start : i ≡ 0 = sym whole in
    let none = s.first start in
    record {
      taken = s.stays;
      whole = ap (λ es. es ++ new.journal ∷ []) none.0 ∙ ap (λ ls. ls ∷ []) none.1;
      is_system = s.is_system;
    }
all_segments old (x ∷ segments) i new whole s =
    let some : 0 < i = omega (arith, whole) in
    record {
      taken = s.stays;
      whole = s.later some ∙ take_all i (x ∷ segments) (omega (arith, whole));
      is_system = s.is_system;
    }

-- a system that has answered them
pub all_answered : (d : Declaration) (room : ℕ) (segments : List (List Line)) (states : List State) (opened new : Account) → states ≡ own_states d → opened ≡ account_of d room states → HasTakenAll opened segments new
    → HasAnswered d room segments new
all_answered d room segments states opened new own is t = record {
  opened = t.taken ∙ ap (λ (a : Account). record a { earlier = new.earlier; journal = new.journal; failures = new.failures }) (is ∙ ap (account_of d room) own);
  whole = t.whole;
  is_system = t.is_system;
}
