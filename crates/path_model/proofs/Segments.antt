-- Journals in segments are journals in more room.
use Rattle.std.proofs.Common.{◌≡◌, ◌≢◌, ◌≤◌, ◌+◌, ◌↔◌, ℕ, Bool, true, false, List, [], ◌∷◌, ◌++◌, length, get_or, Some, refl, sym, ap, ◌∙◌, subst, inl, inr, arith, append_assoc, append-nil, length-append}
use Rattle.path_model.specs.declared.ids.OpId.{OpId}
use Rattle.path_model.specs.declared.ids.ActId.{ActId}
use Rattle.path_model.specs.declared.journal.Verb.{Verb}
use Rattle.path_model.specs.declared.journal.Attempt.{Attempt}
use Rattle.path_model.specs.declared.journal.Attempt.TheVariants.{Start, Apply, Finish}
use Rattle.path_model.specs.declared.journal.Reply.{Reply}
use Rattle.path_model.specs.declared.journal.Reply.TheVariants.{NoRoom}
use Rattle.path_model.specs.declared.journal.Line.{Line}
use Rattle.path_model.specs.Declarations.{Declaration}
use Rattle.path_model.specs.Owed.{by_words, OwedToStart, OwedToUse, OwedToFinish, Owed, AreSame}
use Rattle.path_model.specs.Honest.{IsHonestFrom, IsHonest}
use Rattle.path_model.specs.Asked.{resource_asked, IsAsked}
use Rattle.path_model.specs.Segments.{joined, room_behind, has_no_number, OwedUnless, OwedBehind, IsSegmentFrom, IsSegment, AreHonestFrom, AreHonest, OneSegmentIsAJournal, MoreRoomKeepsHonest, SegmentsAreOneJournal, EachSegmentHasRoom, EachAttemptIsOwedAReplyBehind, OneReplyIsOwedBehind}
use Rattle.path_model.proofs.HonestJournals.{honest_more, honest_induction}
use Rattle.path_model.proofs.Progress.{room_kept}
use Rattle.path_model.proofs.Unasked.{owed_same, asked_more, unasked_devices_may_be_replaced}
use Rattle.path_model.proofs.OwedReplies.{each_attempt_is_owed_a_reply, one_reply_is_owed}

module _ (d : Declaration) (room : ℕ) (openings : List (List ℕ)) where
  one_from : (before ls : List Line) → IsSegmentFrom d room openings [] before ls ↔ IsHonestFrom (by_words d) d room openings before ls
  one_from before [] = (λ h. tt, λ h. tt)
  one_from before (l ∷ ls) =
      let rest = one_from (before ++ l ∷ []) ls in
      (λ h. (h.0, h.1, rest.0 h.2), λ h. (h.0, h.1, rest.1 h.2))

pub one_segment_is_a_journal : OneSegmentIsAJournal
one_segment_is_a_journal d room openings ls =
    let one = one_from d room openings [] ls in
    (λ h. one.0 h.0, λ h. (one.1 h, tt))

module _ (d : Declaration) (room more : ℕ) (openings : List (List ℕ)) (wider : room ≤ more) (ls : List Line) (w : ℕ) where
  start_in_more : (a : OpId) (r : Reply) → OwedToStart (by_words d) d room ls a r → r ≢ NoRoom → OwedToStart (by_words d) d more ls a r
  start_in_more a _ (OwedToStart.no_room l) some = absurd (some refl)
  start_in_more a _ (OwedToStart.unknown l k) some = OwedToStart.unknown (omega (arith, l, wider)) k
  start_in_more a _ (OwedToStart.blocked p l k f) some = OwedToStart.blocked p (omega (arith, l, wider)) k f
  start_in_more a _ (OwedToStart.started n l k f e) some = OwedToStart.started n (omega (arith, l, wider)) k f e

  use_in_more : (n : ActId) (verb : Verb) (r : Reply) → OwedToUse d room openings ls w n verb r → r ≢ NoRoom → OwedToUse d more openings ls w n verb r
  use_in_more n verb _ (OwedToUse.no_room l) some = absurd (some refl)
  use_in_more n verb _ (OwedToUse.stale l k) some = OwedToUse.stale (omega (arith, l, wider)) k
  use_in_more n verb _ (OwedToUse.not_yours a l k o) some = OwedToUse.not_yours a (omega (arith, l, wider)) k o
  use_in_more n verb _ (OwedToUse.refused a r l k o) some = OwedToUse.refused a r (omega (arith, l, wider)) k o
  use_in_more n verb _ (OwedToUse.served a x rest l k o) some = OwedToUse.served a x rest (omega (arith, l, wider)) k o
  use_in_more n verb _ (OwedToUse.failed a x rest l k o) some = OwedToUse.failed a x rest (omega (arith, l, wider)) k o

  finish_in_more : (n : ActId) (r : Reply) → OwedToFinish d room ls w n r → r ≢ NoRoom → OwedToFinish d more ls w n r
  finish_in_more n _ (OwedToFinish.finished a k) some = OwedToFinish.finished a k
  finish_in_more n _ (OwedToFinish.no_room k l) some = absurd (some refl)
  finish_in_more n _ (OwedToFinish.stale l k) some = OwedToFinish.stale (omega (arith, l, wider)) k
  finish_in_more n _ (OwedToFinish.not_yours a l k o) some = OwedToFinish.not_yours a (omega (arith, l, wider)) k o

  owed_in_more : (attempt : Attempt) (r : Reply) → Owed d room openings ls w attempt r → r ≢ NoRoom → Owed d more openings ls w attempt r
  owed_in_more (Start a) r o some = start_in_more a r o some
  owed_in_more (Apply n verb) r o some = use_in_more n verb r o some
  owed_in_more (Finish n) r o some = finish_in_more n r o some

pub more_room_keeps_honest : MoreRoomKeepsHonest
more_room_keeps_honest d room more openings ls wider h =
    honest_induction d room openings (IsHonest d more openings) tt
    (λ ls l old new owed some. honest_more d more openings ls l new (owed_in_more d room more openings wider ls l.worker l.attempt l.reply owed some) some) ls h

pub room_behind_is : (earlier : List Line) (room : ℕ) → room_behind earlier room ≡ room + length earlier
room_behind_is [] room = omega arith
room_behind_is (l ∷ earlier) room = refl

-- what is owed where there is a number
pub owed_numbered : (b : Bool) (owed : Type 0) (r : Reply) → OwedUnless b owed r → r ≢ NoRoom → owed
owed_numbered true owed r e some = absurd (some e)
owed_numbered false owed r o some = o

-- the lines of all segments and one more
pub joined_more : (ss : List (List Line)) (s : List Line) → joined (ss ++ s ∷ []) ≡ joined ss ++ s
joined_more [] s = append-nil s
joined_more (t ∷ ss) s = ap (λ xs. t ++ xs) (joined_more ss s) ∙ sym (append_assoc t (joined ss) s)

module _ (d : Declaration) (room : ℕ) (openings : List (List ℕ)) where
  -- a segment behind honest lines
  segment_behind : (earlier before ls : List Line) → IsHonest d (room_behind earlier room) openings (earlier ++ before) → IsSegmentFrom d room openings earlier before ls
      → IsHonest d (room_behind earlier room) openings (earlier ++ (before ++ ls))
  segment_behind earlier before [] h s = subst (λ xs. IsHonest d (room_behind earlier room) openings (earlier ++ xs)) (sym (append-nil before)) h
  segment_behind earlier before (l ∷ ls) h s =
      let owed = owed_numbered (has_no_number earlier before l.attempt) (Owed d (room_behind earlier room) openings (earlier ++ before) l.worker l.attempt l.reply) l.reply s.0 s.1 in
      let next = subst (IsHonest d (room_behind earlier room) openings) (append_assoc earlier before (l ∷ [])) (honest_more d (room_behind earlier room) openings (earlier ++ before) l h owed s.1) in
      subst (λ xs. IsHonest d (room_behind earlier room) openings (earlier ++ xs)) (append_assoc before (l ∷ []) ls) (segment_behind earlier (before ++ l ∷ []) ls next s.2)

  one_behind : (earlier ls : List Line) → IsHonest d (room_behind earlier room) openings earlier → IsSegment d room openings earlier ls → IsHonest d (room_behind earlier room) openings (earlier ++ ls)
  one_behind earlier ls h s = segment_behind earlier [] ls (subst (IsHonest d (room_behind earlier room) openings) (sym (append-nil earlier)) h) s

  all_behind : (earlier : List Line) (ss : List (List Line)) (ls : List Line) → IsHonest d (room_behind earlier room) openings earlier → AreHonestFrom d room openings earlier (ss ++ ls ∷ [])
      → IsHonest d (room_behind (earlier ++ joined ss) room) openings ((earlier ++ joined ss) ++ ls)
  all_behind earlier [] ls h s = subst (λ xs. IsHonest d (room_behind xs room) openings (xs ++ ls)) (sym (append-nil earlier)) (one_behind earlier ls h s.0)
  all_behind earlier (t ∷ ss) ls h s =
      let k = length-append earlier t in
      let before = room_behind_is earlier room in
      let now = room_behind_is (earlier ++ t) room in
      let next = more_room_keeps_honest d (room_behind earlier room) (room_behind (earlier ++ t) room) openings (earlier ++ t) (omega (arith, k, before, now)) (one_behind earlier t h s.0) in
      subst (λ xs. IsHonest d (room_behind xs room) openings (xs ++ ls)) (append_assoc earlier t (joined ss)) (all_behind (earlier ++ t) ss ls next s.1)

  segment_from_more : (earlier before ls : List Line) (l : Line) → IsSegmentFrom d room openings earlier before ls
      → OwedBehind d room openings earlier (before ++ ls) l.worker l.attempt l.reply → l.reply ≢ NoRoom → IsSegmentFrom d room openings earlier before (ls ++ l ∷ [])
  segment_from_more earlier before [] l s o some = (subst (λ b. OwedBehind d room openings earlier b l.worker l.attempt l.reply) (append-nil before) o, some, tt)
  segment_from_more earlier before (k ∷ ls) l s o some =
      (s.0, s.1, segment_from_more earlier (before ++ k ∷ []) ls l s.2 (subst (λ b. OwedBehind d room openings earlier b l.worker l.attempt l.reply) (sym (append_assoc before (k ∷ []) ls)) o) some)

  honest_from_line : (earlier : List Line) (ss : List (List Line)) (ls : List Line) (l : Line) → AreHonestFrom d room openings earlier (ss ++ ls ∷ [])
      → OwedBehind d room openings (earlier ++ joined ss) ls l.worker l.attempt l.reply → l.reply ≢ NoRoom → AreHonestFrom d room openings earlier (ss ++ (ls ++ l ∷ []) ∷ [])
  honest_from_line earlier [] ls l s o some =
      (segment_from_more earlier [] ls l s.0 (subst (λ xs. OwedBehind d room openings xs ls l.worker l.attempt l.reply) (append-nil earlier) o) some, tt)
  honest_from_line earlier (t ∷ ss) ls l s o some =
      (s.0, honest_from_line (earlier ++ t) ss ls l s.1 (subst (λ xs. OwedBehind d room openings xs ls l.worker l.attempt l.reply) (sym (append_assoc earlier t (joined ss))) o) some)

  -- one more line of the present segment, if it is owed
  pub segments_more : (earlier : List (List Line)) (ls : List Line) (l : Line) → AreHonest d room openings (earlier ++ ls ∷ [])
      → OwedBehind d room openings (joined earlier) ls l.worker l.attempt l.reply → l.reply ≢ NoRoom → AreHonest d room openings (earlier ++ (ls ++ l ∷ []) ∷ [])
  segments_more earlier ls l s o some = honest_from_line [] earlier ls l s o some

  honest_from_rotated : (earlier : List Line) (ss : List (List Line)) → AreHonestFrom d room openings earlier ss → AreHonestFrom d room openings earlier (ss ++ [] ∷ [])
  honest_from_rotated earlier [] s = (tt, tt)
  honest_from_rotated earlier (t ∷ ss) s = (s.0, honest_from_rotated (earlier ++ t) ss s.1)

  -- a new segment without lines
  pub segments_rotated : (ss : List (List Line)) → AreHonest d room openings ss → AreHonest d room openings (ss ++ [] ∷ [])
  segments_rotated ss s = honest_from_rotated [] ss s

pub segments_are_one_journal : SegmentsAreOneJournal
segments_are_one_journal d room openings earlier ls h = all_behind d room openings [] earlier ls tt h

pub each_segment_has_room : EachSegmentHasRoom
each_segment_has_room d room openings earlier ls h =
    let k = room_kept d (room_behind (joined earlier) room) openings (joined earlier ++ ls) (segments_are_one_journal d room openings earlier ls h) in
    let l = length-append (joined earlier) ls in
    let m = room_behind_is (joined earlier) room in
    omega (arith, k, l, m)

pub each_attempt_is_owed_a_reply_behind : EachAttemptIsOwedAReplyBehind
each_attempt_is_owed_a_reply_behind d room openings wf earlier ls h w attempt = go (has_no_number (joined earlier) ls attempt)
  where
    owed : (r : Reply) × Owed d (room_behind (joined earlier) room) openings (joined earlier ++ ls) w attempt r
    owed = each_attempt_is_owed_a_reply d (room_behind (joined earlier) room) openings wf (joined earlier ++ ls) (segments_are_one_journal d room openings earlier ls h) w attempt

    go : (b : Bool) → (r : Reply) × OwedUnless b (Owed d (room_behind (joined earlier) room) openings (joined earlier ++ ls) w attempt r) r
    go true = (NoRoom, refl)
    go false = owed

pub one_reply_is_owed_behind : OneReplyIsOwedBehind
one_reply_is_owed_behind d room openings earlier ls w attempt r s = go (has_no_number earlier ls attempt)
  where
    go : (b : Bool) → OwedUnless b (Owed d (room_behind earlier room) openings (earlier ++ ls) w attempt r) r → OwedUnless b (Owed d (room_behind earlier room) openings (earlier ++ ls) w attempt s) s → AreSame r s
    go true e f = inl (e ∙ sym f)
    go false o p = one_reply_is_owed d (room_behind earlier room) openings (earlier ++ ls) w attempt r s o p

-- a line asked the device of a resource, so all lines did
asked_front : (d : Declaration) (r : ℕ) (x y : List Line) → IsAsked d x r → IsAsked d (x ++ y) r
asked_front d r x [] k = subst (λ xs. IsAsked d xs r) (sym (append-nil x)) k
asked_front d r x (l ∷ y) k =
    subst (λ xs. IsAsked d xs r) (append_assoc x (l ∷ []) y) (asked_front d r (x ++ l ∷ []) y ((asked_more d r x l).1 (inl k)))

-- a resource whose device no line asked may have other opening contents
module _ (d : Declaration) (room : ℕ) (openings others : List (List ℕ)) (r : ℕ) (elsewhere : (q : ℕ) → q ≢ r → get_or others q [] ≡ get_or openings q []) where
  segment_over : (earlier before ls : List Line) → IsHonest d (room_behind earlier room) openings (earlier ++ before) → (IsAsked d ((earlier ++ before) ++ ls) r → ⊥)
      → IsSegmentFrom d room openings earlier before ls → IsSegmentFrom d room others earlier before ls
  segment_over earlier before [] h unasked s = tt
  segment_over earlier before (l ∷ ls) h unasked s =
      let all : List Line = earlier ++ before in
      let so_far = unasked_devices_may_be_replaced d (room_behind earlier room) openings others all r elsewhere h (λ k. unasked (asked_front d r all (l ∷ ls) k)) in
      let other : resource_asked d all l.attempt l.reply ≢ Some r =
      (λ e. unasked (subst (λ xs. IsAsked d xs r) (append_assoc all (l ∷ []) ls) (asked_front d r (all ++ l ∷ []) ls ((asked_more d r all l).1 (inr e))))) in
      let owed = owed_numbered (has_no_number earlier before l.attempt) (Owed d (room_behind earlier room) openings all l.worker l.attempt l.reply) l.reply s.0 s.1 in
      let next = append_assoc earlier before (l ∷ []) in (
        over (has_no_number earlier before l.attempt) (Owed d (room_behind earlier room) openings all l.worker l.attempt l.reply) _ s.0 (owed_same d (room_behind earlier room) openings others all r so_far.2 l.worker l.attempt l.reply owed other),
        s.1,
        segment_over earlier (before ++ l ∷ []) ls (subst (IsHonest d (room_behind earlier room) openings) next (honest_more d (room_behind earlier room) openings all l h owed s.1))
            (λ k. unasked (subst (λ xs. IsAsked d xs r) (ap (λ xs. xs ++ ls) (sym next) ∙ append_assoc all (l ∷ []) ls) k)) s.2,
      )
    where
      over : (b : Bool) (P Q : Type 0) → OwedUnless b P l.reply → Q → OwedUnless b Q l.reply
      over true P Q e q = e
      over false P Q p q = q

  honest_over : (earlier : List Line) (ss : List (List Line)) (ls : List Line) → IsHonest d (room_behind earlier room) openings earlier → (IsAsked d ((earlier ++ joined ss) ++ ls) r → ⊥)
      → AreHonestFrom d room openings earlier (ss ++ ls ∷ []) → AreHonestFrom d room others earlier (ss ++ ls ∷ [])
  honest_over earlier [] ls h unasked s =
      (segment_over earlier [] ls (subst (IsHonest d (room_behind earlier room) openings) (sym (append-nil earlier)) h) unasked s.0, tt)
  honest_over earlier (t ∷ ss) ls h unasked s =
      let k = length-append earlier t in
      let before = room_behind_is earlier room in
      let now = room_behind_is (earlier ++ t) room in
      let next = more_room_keeps_honest d (room_behind earlier room) (room_behind (earlier ++ t) room) openings (earlier ++ t) (omega (arith, k, before, now)) (one_behind d room openings earlier t h s.0) in
      let same : ((earlier ++ t) ++ joined ss) ++ ls ≡ (earlier ++ (t ++ joined ss)) ++ ls = ap (λ xs. xs ++ ls) (append_assoc earlier t (joined ss)) in
      let apart : ((earlier ++ []) ++ t) ++ (joined ss ++ ls) ≡ (earlier ++ (t ++ joined ss)) ++ ls =
      ap (λ xs. (xs ++ t) ++ (joined ss ++ ls)) (append-nil earlier) ∙ sym (append_assoc (earlier ++ t) (joined ss) ls) ∙ same in (
        segment_over earlier [] t (subst (IsHonest d (room_behind earlier room) openings) (sym (append-nil earlier)) h)
            (λ k. unasked (subst (λ xs. IsAsked d xs r) apart (asked_front d r ((earlier ++ []) ++ t) (joined ss ++ ls) k))) s.0,
        honest_over (earlier ++ t) ss ls next (λ k. unasked (subst (λ xs. IsAsked d xs r) same k)) s.1,
      )

pub segments_over : (d : Declaration) (room : ℕ) (openings others : List (List ℕ)) (earlier : List (List Line)) (ls : List Line) (r : ℕ)
    → ((q : ℕ) → q ≢ r → get_or others q [] ≡ get_or openings q []) → AreHonest d room openings (earlier ++ ls ∷ [])
    → (IsAsked d (joined earlier ++ ls) r → ⊥) → AreHonest d room others (earlier ++ ls ∷ [])
segments_over d room openings others earlier ls r elsewhere h unasked = honest_over d room openings others r elsewhere [] earlier ls tt unasked h
