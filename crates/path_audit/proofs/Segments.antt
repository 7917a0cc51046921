-- The segments that an auditor has judged, and the front of the next.
use Rattle.std.proofs.Common.{◌≡◌, ◌≢◌, ℕ, ◌+◌, ◌<◌, ◌≤◌, Bool, true, false, List, [], ◌∷◌, ◌++◌, length, get_or, take, append-nil, append_assoc, length-append, arith, refl, ap, sym, subst, ◌∙◌, Vec}
use Rattle.std.specs.Prelude.{◌&&◌, not, map, slice_get, Some}
use Rattle.std.proofs.lemmas.List.{take_more, length-take-le, length-map, get_or-map}
use Rattle.path_model.specs.declared.journal.Reply.{Reply}
use Rattle.path_model.specs.declared.journal.Reply.TheVariants.{NoRoom}
use Rattle.path_model.specs.declared.journal.Line.{Line}
use Rattle.path_model.specs.Declarations.{Declaration}
use Rattle.path_model.specs.Honest.{IsHonest}
use Rattle.path_model.specs.Journals.{with_line}
use Rattle.path_model.specs.Rooms.{IsRoom}
use Rattle.path_model.specs.Segments.{joined, room_behind, OwedBehind, IsSegmentFrom, AreHonestFrom, AreHonest}
use Rattle.path_model.proofs.CallerLemmas.{each_honest_journal_has_room, room_behind_is, joined_more, one_reply_is_owed_behind, one_segment_is_a_journal, segments_more, segments_rotated}
use Rattle.path_decl.specs.Lawful.{Lawful}
use Rattle.path_model.specs.Places.{has_room, lacks_number}
use Rattle.path_gate.proofs.CallerLemmas.{right_fails, same_room, owed_without_number, owed_with_number}
use Rattle.path_step.specs.Presents.{IsPresentOf}
use Rattle.path_step.specs.Steps.{can_take}
use Rattle.path_step.proofs.CallerLemmas.{in_more_room, owed_is, taken_is, with_the_line, without_room}
use Rattle.path_audit.specs.Inner.Replays.{Held, ReplayValue, Replays, IsReplayOf, asked, held_for}
use Rattle.path_audit.specs.Verdicts.{IsFirstWrong}
use Rattle.path_audit.specs.Judged.{AuditorValue, HasJudged, IsFirstWrongBehind, IsOwedInstead}
use Rattle.path_audit.proofs.Likeness.{like_line}
use Rattle.path_audit.proofs.Replayed.{told_apart}

-- the replay agrees with honest segments and with lines behind them
pub record IsReplayBehind (replay : ReplayValue) (d : Declaration) (room : ℕ) (openings : List (List ℕ)) (segments : List (List Line)) (lines : List Line) : Type 0 where
  pub good_room : IsRoom room
  pub honest : AreHonest d room openings (segments ++ lines ∷ [])
  pub replayed : IsReplayOf replay d (room_behind (joined segments) room) openings (joined segments ++ lines)

-- the last line of segments was owed
module _ (d : Declaration) (room : ℕ) (openings : List (List ℕ)) where
  last_of_segment : (earlier before ls : List Line) (l : Line) → IsSegmentFrom d room openings earlier before (ls ++ l ∷ [])
      → OwedBehind d room openings earlier (before ++ ls) l.worker l.attempt l.reply × (l.reply ≢ NoRoom)
  last_of_segment earlier before [] l h = (subst (λ b. OwedBehind d room openings earlier b l.worker l.attempt l.reply) (sym (append-nil before)) h.0, h.1)
  last_of_segment earlier before (k ∷ ls) l h =
      let r = last_of_segment earlier (before ++ k ∷ []) ls l h.2 in
      (subst (λ b. OwedBehind d room openings earlier b l.worker l.attempt l.reply) (append_assoc before (k ∷ []) ls) r.0, r.1)

  last_from : (earlier : List Line) (ss : List (List Line)) (ls : List Line) (l : Line) → AreHonestFrom d room openings earlier (ss ++ (ls ++ l ∷ []) ∷ [])
      → OwedBehind d room openings (earlier ++ joined ss) ls l.worker l.attempt l.reply × (l.reply ≢ NoRoom)
  last_from earlier [] ls l h =
      let r = last_of_segment earlier [] ls l h.0 in
      (subst (λ b. OwedBehind d room openings b ls l.worker l.attempt l.reply) (sym (append-nil earlier)) r.0, r.1)
  last_from earlier (s ∷ ss) ls l h =
      let r = last_from (earlier ++ s) ss ls l h.1 in
      (subst (λ b. OwedBehind d room openings b ls l.worker l.attempt l.reply) (append_assoc earlier s (joined ss)) r.0, r.1)

-- the front of the next segment is empty at first
pub begins_next : (auditor : AuditorValue) (d : Declaration) (openings : List (List ℕ)) (segments : List (List Line)) → HasJudged auditor d openings segments
    → IsReplayBehind auditor.replay d auditor.room openings segments []
begins_next auditor d openings segments h = record {
  good_room = h.good_room;
  honest = segments_rotated d auditor.room openings segments h.honest;
  replayed = subst (IsReplayOf auditor.replay d (room_behind (joined segments) auditor.room) openings) (sym (append-nil (joined segments))) h.replayed;
}

-- the whole next segment was judged
pub has_judged : (replay : ReplayValue) (d : Declaration) (room : ℕ) (openings : List (List ℕ)) (segments : List (List Line)) (lines : List Line) → IsReplayBehind replay d room openings segments lines
    → HasJudged (record { replay = replay; room = room }) d openings (segments ++ lines ∷ [])
has_judged replay d room openings segments lines s =
    let k = length-append (joined segments) lines in
    let before = room_behind_is (joined segments) room in
    let now = room_behind_is (joined segments ++ lines) room in
    record {
      good_room = s.good_room;
      honest = s.honest;
      replayed = subst (λ xs. IsReplayOf replay d (room_behind xs room) openings xs) (sym (joined_more segments lines))
          (in_more_room replay.present replay.held.contents d (room_behind (joined segments) room) (room_behind (joined segments ++ lines) room) openings (joined segments ++ lines) (omega (arith, k, before, now)) s.replayed);
    }

module _ (d : Declaration) (lawful : Lawful d) (old : ReplayValue) (room : ℕ) (openings : List (List ℕ)) (segments : List (List Line)) (lines : List Line) (n : ℕ)
    (s : IsReplayBehind old d room openings segments (take n lines)) (within : n < length lines) where
  abbrev earlier : List Line
  earlier = joined segments

  abbrev whole : ℕ
  whole = room_behind earlier room

  abbrev all : List Line
  all = earlier ++ take n lines

  so_many : length all ≡ n + length earlier
  so_many = let k = length-append earlier (take n lines) in let l = length-take-le n lines (omega arith) in omega (arith, k, l)

  -- the lines and the finishes to come have room
  pub few_lines : n + length old.present.register.live ≤ room
  few_lines =
      let k = each_honest_journal_has_room d whole openings all s.replayed.honest in
      let l = taken_is d lawful old.present old.held.contents whole openings all s.replayed in
      let m = room_behind_is earlier room in
      let o = so_many in
      omega (arith, k, l, m, o)

  pub admitted_is : old.present.standing.admitted ≡ old.present.register.begun
  admitted_is = s.replayed.admitted ∙ sym s.replayed.begun

  module _ (line : Line) (at : line ≡ get_or lines n line) (reply : Reply) (new : ReplayValue) (answers : Replays d old room n line reply new) where
    one_line : take (n + 1) lines ≡ take n lines ++ line ∷ []
    one_line = take_more lines n line within ∙ ap (λ x. take n lines ++ x ∷ []) (sym at)

    -- the answer is that of all lines in the whole room
    answers_all : Replays d old whole (length all) line reply new
    answers_all =
        let same : can_take old.present (room + length earlier) (n + length earlier) line.worker line.attempt ≡ can_take old.present room n line.worker line.attempt =
        ap (λ b. b && not (lacks_number old.present.register.begun line.attempt)) (same_room room n (length earlier) old.present.register.live line.worker line.attempt) in
        rw (room_behind_is earlier room, so_many) (record {
          inside = λ is. answers.inside (sym same ∙ is);
          outside = λ is. answers.outside (sym same ∙ is);
        })

    owed_behind : OwedBehind d room openings earlier (take n lines) line.worker line.attempt reply
    owed_behind = go _ refl
      where
        go : (b : Bool) → lacks_number old.present.register.begun line.attempt ≡ b → OwedBehind d room openings earlier (take n lines) line.worker line.attempt reply
        go true is =
            owed_without_number d room openings s.good_room line.worker old.present.register.begun reply earlier (take n lines) line.attempt s.replayed.begun is
            (answers.outside (right_fails (has_room room n old.present.register.live line.worker line.attempt) (lacks_number old.present.register.begun line.attempt) is)).0
        go false is =
            owed_with_number d room openings s.good_room line.worker old.present.register.begun reply earlier (take n lines) line.attempt s.replayed.begun is
            (owed_is (λ (h : Held). h.contents) asked d lawful old.present (held_for old.held line) whole openings all s.replayed line.worker line.attempt reply new.present new.held is answers_all)

    -- the line is right
    pub line_right : (reply ≡ line.reply) × (line.reply ≢ NoRoom) → IsReplayBehind new d room openings segments (take (n + 1) lines)
    line_right told =
        let some : reply ≢ NoRoom = λ e. told.1 (sym told.0 ∙ e) in
        let owed : OwedBehind d room openings earlier (take n lines) line.worker line.attempt line.reply = subst (OwedBehind d room openings earlier (take n lines) line.worker line.attempt) told.0 owed_behind in
        subst (IsReplayBehind new d room openings segments) (sym one_line) (record {
          good_room = s.good_room;
          honest = segments_more d room openings segments (take n lines) line s.honest owed told.1;
          replayed = subst (IsReplayOf new d whole openings) (append_assoc earlier (take n lines) (line ∷ []))
              (subst (λ r. IsReplayOf new d whole openings (all ++ record { worker = line.worker; attempt = line.attempt; reply = r } ∷ [])) told.0
              (with_the_line (λ (h : Held). h.contents) asked d lawful old.present (held_for old.held line) whole openings all s.replayed line.worker line.attempt reply new.present new.held answers_all some));
        })

    -- the line is wrong
    pub line_wrong : ((reply ≡ line.reply) × (line.reply ≢ NoRoom) → ⊥) → IsFirstWrongBehind d room openings segments lines n
    line_wrong other = record {
      within = within;
      honest = s.honest;
      wrong = λ honest.
          let last = last_from d room openings [] segments (take n lines) line (subst (λ xs. AreHonest d room openings (segments ++ xs ∷ [])) one_line honest) in
          let same = one_reply_is_owed_behind d room openings earlier (take n lines) line.worker line.attempt reply line.reply owed_behind last.0 in
          other (told_apart reply line.reply (like_line d old new whole (length all) line reply answers_all) same, last.1);
    }

    -- the replay agrees with the lines before and with this one as it should have been answered
    answered : (r : Reply) → reply ≡ r → IsReplayOf new d whole openings (earlier ++ with_line (take n lines) line.worker line.attempt r)
    answered NoRoom is =
        let still = without_room (λ (h : Held). h.contents) asked d old.present new.present (held_for old.held line) new.held line.worker reply whole (length all) line.attempt answers_all is in
        subst (λ p. IsPresentOf p new.held.contents d whole openings all) (sym still.0)
        (subst (λ (h : Held). IsPresentOf old.present h.contents d whole openings all) (sym still.1) s.replayed)
    answered r is =
        subst (IsReplayOf new d whole openings) (append_assoc earlier (take n lines) (record { worker = line.worker; attempt = line.attempt; reply = r } ∷ []))
        (subst (λ x. IsReplayOf new d whole openings (all ++ record { worker = line.worker; attempt = line.attempt; reply = x } ∷ [])) is
        (with_the_line (λ (h : Held). h.contents) asked d lawful old.present (held_for old.held line) whole openings all s.replayed line.worker line.attempt reply new.present new.held answers_all (λ e. let told = is in cc)))

    -- the line is wrong, and this is what was owed
    pub owed_instead : slice_get lines n ≡ Some line → ((reply ≡ line.reply) × (line.reply ≢ NoRoom) → ⊥) → IsOwedInstead new d room openings segments lines n reply
    owed_instead there other = record {
      worker = line.worker;
      attempt = line.attempt;
      told = line.reply;
      at = there;
      first = line_wrong other;
      owed = owed_behind;
      replayed = answered reply refl;
    }

-- a journal of one segment
pub alone_honest : (d : Declaration) (room : ℕ) (openings : List (List ℕ)) (lines : List Line) (next : AuditorValue) → next.room ≡ room → HasJudged next d openings (lines ∷ [])
    → IsHonest d room openings lines
alone_honest d room openings lines next same h = (one_segment_is_a_journal d room openings lines).0 (subst (λ k. AreHonest d k openings (lines ∷ [])) same h.honest)

pub alone_wrong : (d : Declaration) (room : ℕ) (openings : List (List ℕ)) (lines : List Line) (n : ℕ) → IsFirstWrongBehind d room openings [] lines n → IsFirstWrong d room openings lines n
alone_wrong d room openings lines n w = record {
  within = w.within;
  honest = (one_segment_is_a_journal d room openings (take n lines)).0 w.honest;
  wrong = λ h. w.wrong ((one_segment_is_a_journal d room openings (take (n + 1) lines)).1 h);
}

-- the segment at a place of a list
module _ {Z : Type 0} (xs : List (Vec Line Z)) (i : ℕ) (v : Vec Line Z) (within : i < length xs) (at : v ≡ get_or xs i v) where
  abbrev pub segments_in : List (List Line)
  segments_in = map (λ lines. lines.items) xs

  pub place_in : i < length segments_in
  place_in = omega (arith, within, length-map xs (λ lines. lines.items))

  pub segment_there : get_or segments_in i [] ≡ v.items
  segment_there = get_or-map (λ lines. lines.items) xs i v [] within ∙ ap (λ lines. lines.items) (sym at)

  pub segment_more : take (i + 1) segments_in ≡ take i segments_in ++ v.items ∷ []
  segment_more = take_more segments_in i [] place_in ∙ ap (λ x. take i segments_in ++ x ∷ []) segment_there
