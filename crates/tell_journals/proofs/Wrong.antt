-- A line that isn't taken over is the first wrong one, and what refuses the files of a journal.
use Rattle.std.proofs.Common.{◌≡◌, ◌≢◌, ℕ, ◌+◌, ◌<◌, ◌≤◌, List, [], ◌∷◌, ◌++◌, length, get_or, take, inl, inr, refl, sym, ap, ◌∙◌, subst, arith, append_assoc, ◌⊎◌}
use Rattle.std.specs.Prelude.{map}
use Rattle.std.proofs.lemmas.List.{append-nil, take_more, get_or-map, length-map}
use Rattle.path_model.specs.declared.journal.Line.{Line}
use Rattle.path_model.specs.declared.journal.Reply.TheVariants.{NoRoom}
use Rattle.path_model.specs.Declarations.{Declaration, Resource}
use Rattle.path_model.specs.Rooms.{IsRoom, IsBadRoom}
use Rattle.path_model.specs.Segments.{joined, OwedBehind, IsSegmentFrom, IsSegment, AreHonestFrom, AreHonest}
use Rattle.path_audit.specs.Judged.{IsFirstWrongBehind}
use Rattle.path_shelf.specs.Openings.{opening_numbers, opening_state}
use Rattle.path_shelf.specs.States.{State}
use Rattle.path_system.specs.Accounts.{Account, IsSystem, account_of, contents_of}
use Rattle.path_system.specs.Taken.{IsNext, IsTakeFault}
use Rattle.path_system.specs.declared.fault.TakeFault.{TakeFault}
use Rattle.path_system.specs.declared.fault.TakeFault.TheVariants.{NotOwed, DeviceFailed}
use Rattle.tell_base.specs.Own.{own_openings, own_states}
use Rattle.path_decl.specs.Text.{IsDeclarationText}
use Rattle.path_audit.specs.declared.journals.SegmentsVerdict.TheVariants.{WrongLine}
use Rattle.cmd_audit.specs.Segments.{AreAuditOf, AreSegmentTexts, LackRoom}
use Rattle.tell_journals.specs.declared.taking.Place.{Place}
use Rattle.tell_journals.specs.declared.behind.BehindFault.{BehindFault}
use Rattle.tell_journals.specs.declared.behind.BehindFault.TheVariants as faults
use Rattle.tell_journals.specs.Behind.{NamesWrong, NamesWrongUnder}
use Rattle.tell_journals.specs.Inner.{HasTaken, IsFirstWrongOf}
use Rattle.tell_journals.proofs.Going.{Begins}

-- the last line of a segment is owed by those before it
last_owed : (d : Declaration) (room : ℕ) (openings : List (List ℕ)) (earlier before ls : List Line) (l : Line) → IsSegmentFrom d room openings earlier before (ls ++ l ∷ [])
    → OwedBehind d room openings earlier (before ++ ls) l.worker l.attempt l.reply × (l.reply ≢ NoRoom)
last_owed d room openings earlier before [] l (owed, roomy, rest) =
    (subst (λ xs. OwedBehind d room openings earlier xs l.worker l.attempt l.reply) (sym (append-nil before)) owed, roomy)
last_owed d room openings earlier before (x ∷ ls) l (owed, roomy, rest) =
    let h = last_owed d room openings earlier (before ++ x ∷ []) ls l rest in
    (subst (λ xs. OwedBehind d room openings earlier xs l.worker l.attempt l.reply) (append_assoc before (x ∷ []) ls) h.0, h.1)

-- and the last of honest segments is one behind those before it
last_segment : (d : Declaration) (room : ℕ) (openings : List (List ℕ)) (earlier : List Line) (ss : List (List Line)) (s : List Line) → AreHonestFrom d room openings earlier (ss ++ s ∷ [])
    → IsSegment d room openings (earlier ++ joined ss) s
last_segment d room openings earlier [] s (h, rest) = subst (λ xs. IsSegment d room openings xs s) (sym (append-nil earlier)) h
last_segment d room openings earlier (x ∷ ss) s (h, rest) =
    subst (λ xs. IsSegment d room openings xs s) (append_assoc earlier x (joined ss)) (last_segment d room openings (earlier ++ x) ss s rest)

-- so a line that is honest behind others is the next there
is_next : (account : Account) (l : Line) → AreHonest account.declaration account.room account.openings (account.earlier ++ (account.journal ++ l ∷ []) ∷ []) → IsNext account l
is_next account l honest =
    let h = last_owed account.declaration account.room account.openings (joined account.earlier) [] account.journal l
    (last_segment account.declaration account.room account.openings [] account.earlier (account.journal ++ l ∷ []) honest) in
    record { owed = h.0; roomy = h.1 }

-- a line that isn't taken isn't the next, unless a device failed
not_next : (may_fail : Type 0) (account next : Account) (l : Line) (fault : TakeFault) → (may_fail → ⊥) → IsTakeFault may_fail account l fault next → IsNext account l → ⊥
not_next may_fail account next l (NotOwed reply) never wrong = wrong.other
not_next may_fail account next l DeviceFailed never wrong = λ h. never wrong.may

-- the first line that isn't taken
pub one_wrong : (may_fail : Type 0) (old : Account) (lines : List Line) (n : ℕ) (x : Line) (system next : Account) (fault : TakeFault) → (may_fail → ⊥) → n < length lines
    → HasTaken old (take n lines) system → IsTakeFault may_fail system (get_or lines n x) fault next → IsFirstWrongBehind old.declaration old.room old.openings old.earlier lines n
one_wrong may_fail old lines n x system next fault never within so_far wrong =
    let here : Account = record old { journal = take n lines; failures = system.failures } in
    record {
      within = within;
      honest = (subst IsSystem so_far.taken so_far.is_system).honest;
      wrong = λ h.
          not_next may_fail system next (get_or lines n x) fault never wrong
          (subst (λ (a : Account). IsNext a (get_or lines n x)) (sym so_far.taken)
          (is_next here (get_or lines n x) (subst (λ ls. AreHonest old.declaration old.room old.openings (old.earlier ++ ls ∷ [])) (take_more lines n x within) h)));
    }

-- in the segment that has begun
pub wrong_of : (old : Account) (segments : List (List Line)) (i n : ℕ) (lines : List Line) (system : Account) → i < length segments → lines ≡ get_or segments i [] → Begins old segments i system
    → IsFirstWrongBehind system.declaration system.room system.openings system.earlier lines n → IsFirstWrongOf old segments (record { file = i; line = n })
wrong_of old segments i n lines system within is b wrong = (
  within,
  subst (λ ls. IsFirstWrongBehind old.declaration old.room old.openings (take i segments) ls n) is
      (subst (λ es. IsFirstWrongBehind old.declaration old.room old.openings es lines n) b.earlier
      (subst (λ (a : Account). IsFirstWrongBehind a.declaration a.room a.openings a.earlier lines n) b.stays wrong)),
)

-- the lines of a segment in a list of them
module _ {X : Type 0} (f : X → List Line) (segments : List X) (i : ℕ) (v : X) (within : i < length segments) (at : v ≡ get_or segments i v) where
  pub lines_there : f v ≡ get_or (map f segments) i []
  lines_there = ap f at ∙ sym (get_or-map f segments i v [] within)

  pub within_lists : i < length (map f segments)
  within_lists = omega (arith, within, length-map segments f)

contents_own : (rs : List Resource) → map (λ (s : State). s.contents) (map (λ (r : Resource). opening_state r.law) rs) ≡ map (λ (r : Resource). opening_numbers r.law) rs
contents_own [] = refl
contents_own (r ∷ rs) = ap (λ xs. opening_numbers r.law ∷ xs) (contents_own rs)

-- what an audit finds, too
pub audit_wrong : (d : Declaration) (given room : ℕ) (texts : List (List ℕ)) (segments : List (List Line)) (states : List State) (system : Account) (place : Place) → states ≡ own_states d
    → AreSegmentTexts d given texts room segments → IsRoom room → system ≡ account_of d room states → IsFirstWrongOf system segments place → AreAuditOf d given texts (WrongLine place.file place.line)
audit_wrong d given room texts segments states system place own told good is wrong =
    let opened : system ≡ account_of d room (own_states d) = is ∙ ap (account_of d room) own in
    let here = subst (λ (a : Account). IsFirstWrongOf a segments place) opened wrong in
    record {
      room = room;
      segments = segments;
      told = told;
      in_range = good;
      judged = (
        here.0,
        subst (λ os. IsFirstWrongBehind d room os (take place.file segments) (get_or segments place.file []) place.line) (contents_own d.resources) here.1,
      );
    }

-- under the declaration in a text
pub names_under : (declaration : List ℕ) (d : Declaration) (given : ℕ) (texts : List (List ℕ)) (fault : BehindFault) → IsDeclarationText declaration d → NamesWrong d given texts fault → NamesWrongUnder declaration given texts fault
names_under declaration d given texts (faults.WrongLine place) declares named = (d, declares, named)
names_under declaration d given texts (faults.Files fault) declares named = tt
names_under declaration d given texts (faults.Other fault) declares named = tt

-- texts whose room is refused name none
pub lack_room : (d : Declaration) (given room : ℕ) (texts : List (List ℕ)) (segments : List (List Line)) → AreSegmentTexts d given texts room segments → IsBadRoom room → LackRoom d given texts
lack_room d given room texts segments read bad = elim read.first [
  | inl same ↦ record { segments = segments; told = subst (λ k. AreSegmentTexts d given texts k segments) same read; bad = subst (λ x. IsBadRoom x) same bad }
  | inr named ↦ absurd (elim bad [ inl none ↦ (let fits = named.1.room_fits in omega (arith, fits.0, none)) | inr much ↦ (let fits = named.1.room_fits in omega (arith, fits.1, much)) ])
]
