-- The parts agree with all lines: those that may have come before, the earlier ones and those since.
use Rattle.std.proofs.Common.{◌≡◌, ◌≢◌, ◌≤◌, ◌<◌, ◌+◌, ℕ, Bool, true, false, List, [], ◌∷◌, ◌++◌, Option, None, length, get_or, ◌↔◌, refl, sym, ap, ◌∙◌, subst, arith, append_assoc, append-nil, length-append}
use Rattle.std.specs.Prelude.{◌&&◌, not}
use Rattle.path_model.specs.declared.journal.Attempt.{Attempt}
use Rattle.path_model.specs.declared.journal.Reply.{Reply}
use Rattle.path_model.specs.declared.journal.Reply.TheVariants.{NoRoom}
use Rattle.path_model.specs.declared.journal.Line.{Line}
use Rattle.path_model.specs.Journals.{live}
use Rattle.path_model.specs.Segments.{joined, room_behind, OwedBehind, AreHonestFrom}
use Rattle.path_model.proofs.CallerLemmas.{line_of, room_behind_is, joined_more}
use Rattle.path_model.specs.Places.{has_room, lacks_number}
use Rattle.path_gate.proofs.CallerLemmas.{right_fails, same_room, owed_without_number, owed_with_number}
use Rattle.path_step.specs.Steps.{can_take}
use Rattle.path_step.proofs.CallerLemmas as step
use Rattle.path_step.specs.Presents.{IsLeftBy}
use Rattle.path_state.specs.States.{State}
use Rattle.path_system.specs.Before.{LeadTo, WasAsked}
use Rattle.path_system.specs.Controllers.{IsControlled}
use Rattle.path_system.specs.Inner.Openings.{Row, AreFor, numbers_of}
use Rattle.path_system.specs.Inner.Parts.{PartsValue, Answers, AreMarked, AreReady, AreTrueTo, IsTold, contents}
use Rattle.path_system.specs.Inner.Pasts.{Lines, one_more, rotated}
use Rattle.path_system.proofs.Agreed.{ready}
use Rattle.path_system.proofs.Behind.{segments_line, segments_turned}
use Rattle.path_system.proofs.Stepped.{Known, Marks, sound_more, marked_more, stays}

answers_with : (known : Known) (old new : PartsValue) (room lines k w : ℕ) (attempt : Attempt) (reply : Reply) → Answers known old room lines w attempt reply new → Answers known old (room + k) (lines + k) w attempt reply new
answers_with known old new room lines k w attempt reply answers =
    let same : can_take old.present (room + k) (lines + k) w attempt ≡ can_take old.present room lines w attempt =
    ap (λ b. b && not (lacks_number old.present.register.begun attempt)) (same_room room lines k old.present.register.live w attempt) in
    record {
      declaration = answers.declaration;
      places = answers.places;
      step = record {
        inside = λ is. answers.step.inside (sym same ∙ is);
        outside = λ is. answers.step.outside (sym same ∙ is);
      };
    }

module _ (old : PartsValue) (room : ℕ) (rows : List Row) (past : Lines) (count : ℕ) (t : IsTold old room rows past count) where
  -- what a caller may know of it
  pub is_controlled : (failures : List ℕ)
      → IsControlled (record { declaration = old.declaration; room = room; opened = past.opened; openings = numbers_of rows; earlier = past.earlier; journal = past.present; failures = failures })
  is_controlled failures = record {
    lawful = t.sound.lawful;
    good_room = t.good_room;
    within = (let k = t.sound.few in let n = t.counted in omega (arith, k, n));
    honest = λ openings before leads. (t.behind openings before leads).segments;
    room = λ openings before leads. (let k = t.sound.few in let l = ap length (t.behind openings before leads).left.live in let n = t.counted in omega (arith, k, l, n));
  }

  -- the parts may answer
  pub ready_now : AreReady old room count
  ready_now = ready old room count t.sound

  -- where no lines came before
  pub none_before : past.opened ≡ None → AreTrueTo old room (numbers_of rows) [] past
  none_before first = t.behind (numbers_of rows) [] (subst (λ (o : Option State). LeadTo old.declaration o (numbers_of rows) (numbers_of rows) []) (sym first) (refl, refl))

  module _ (openings : List (List ℕ)) (before : List Line) (leads : LeadTo old.declaration past.opened (numbers_of rows) openings before) where
    abbrev pub earlier : List Line
    earlier = before ++ joined past.earlier

    abbrev pub all : List Line
    all = earlier ++ past.present

    abbrev pub whole : ℕ
    whole = room_behind earlier room

    pub left_now : IsLeftBy old.present (contents old.devices) old.declaration openings all
    left_now = (t.behind openings before leads).left

    module _ (known : Known) (marks : Marks known) (new : PartsValue) (w : ℕ) (attempt : Attempt) (reply : Reply) (answers : Answers known old room count w attempt reply new) where
      -- the answer is that of all lines in the whole room
      answers_all : Answers known old whole (length all) w attempt reply new
      answers_all =
          let lines : length all ≡ count + length earlier = (let l = length-append earlier past.present in let n = t.counted in omega (arith, l, n)) in
          rw (room_behind_is earlier room, lines) (answers_with known old new room count (length earlier) w attempt reply answers)

      -- the reply is owed behind the earlier lines
      pub owed_behind : OwedBehind old.declaration room openings earlier past.present w attempt reply
      owed_behind = go _ refl
        where
          go : (b : Bool) → lacks_number old.present.register.begun attempt ≡ b → OwedBehind old.declaration room openings earlier past.present w attempt reply
          go true is =
              owed_without_number old.declaration room openings t.good_room w old.present.register.begun reply earlier past.present attempt left_now.begun is
              (answers.step.outside (right_fails (has_room room count old.present.register.live w attempt) (lacks_number old.present.register.begun attempt) is)).0
          go false is =
              owed_with_number old.declaration room openings t.good_room w old.present.register.begun reply earlier past.present attempt left_now.begun is
              (step.owed_left contents known old.declaration t.sound.lawful old.present old.devices whole openings all left_now w attempt reply new.present new.devices is answers_all.step)

      -- one line more
      pub true_more : reply ≢ NoRoom → AreTrueTo new room openings before (one_more past (line_of w attempt reply))
      true_more some =
          let line : Line = line_of w attempt reply in
          let left : IsLeftBy new.present (contents new.devices) old.declaration openings (all ++ line ∷ []) =
          step.with_line_left contents known old.declaration t.sound.lawful old.present old.devices whole openings all left_now w attempt reply new.present new.devices answers_all.step some in
          record {
            left = subst (λ d. IsLeftBy new.present (contents new.devices) d openings (earlier ++ (past.present ++ line ∷ []))) (sym answers.declaration)
                (subst (IsLeftBy new.present (contents new.devices) old.declaration openings) (append_assoc earlier past.present (line ∷ [])) left);
            segments = subst (λ d. AreHonestFrom d room openings before (past.earlier ++ (past.present ++ line ∷ []) ∷ [])) (sym answers.declaration)
                (segments_line old.declaration room openings before past.earlier past.present line (t.behind openings before leads).segments owed_behind some);
          }

  module _ (known : Known) (marks : Marks known) (new : PartsValue) (w : ℕ) (attempt : Attempt) (reply : Reply) (answers : Answers known old room count w attempt reply new) where
    -- one line more
    pub told_more : reply ≢ NoRoom → IsTold new room rows (one_more past (line_of w attempt reply)) (count + 1)
    told_more some =
        let line : Line = line_of w attempt reply in
        let k = length-append past.present (line ∷ []) in
        let n = t.counted in
        record {
          sound = sound_more known marks old room count t.sound new w attempt reply answers some;
          marked = subst (λ d. AreMarked d new.devices.asked (one_more past line)) (sym answers.declaration)
              (marked_more known marks old room count t.sound new w attempt reply answers past.opened past.earlier past.present (λ first. (none_before first).left.live) t.marked);
          behind = λ openings before leads.
              true_more openings before (subst (λ d. LeadTo d past.opened (numbers_of rows) openings before) answers.declaration leads) known marks new w attempt reply answers some;
          good_room = t.good_room;
          counted = omega (arith, k, n);
          roomy = subst (AreFor rows) (sym answers.declaration) t.roomy;
        }

    -- no line
    pub told_still : reply ≡ NoRoom → IsTold new room rows past count
    told_still none = subst (λ p. IsTold p room rows past count) (sym (stays known old new room count w attempt reply answers none)) t

    -- there is a place for the line
    pub place_left : reply ≢ NoRoom → count < room
    place_left some = let k = (told_more some).sound.few in omega (arith, k)

  -- a new segment
  pub told_rotated : IsTold old room rows (rotated past) 0
  told_rotated =
      let gone : joined (past.earlier ++ past.present ∷ []) ++ [] ≡ joined past.earlier ++ past.present = append-nil (joined (past.earlier ++ past.present ∷ [])) ∙ joined_more past.earlier past.present in
      record {
        sound = record {
          lawful = t.sound.lawful;
          paths = t.sound.paths;
          together = t.sound.together;
          few = (let k = t.sound.few in omega (arith, k));
          places = t.sound.places;
          laws = t.sound.laws;
          marks = t.sound.marks;
        };
        marked = λ r within. subst (λ xs. (get_or old.devices.asked r false ≡ true) ↔ WasAsked old.declaration past.opened xs r) (sym gone) (t.marked r within);
        behind = λ openings before leads.
            let all_same : (before ++ joined (past.earlier ++ past.present ∷ [])) ++ [] ≡ (before ++ joined past.earlier) ++ past.present =
            append-nil (before ++ joined (past.earlier ++ past.present ∷ [])) ∙ ap (λ xs. before ++ xs) (joined_more past.earlier past.present) ∙ sym (append_assoc before (joined past.earlier) past.present) in
            record {
              left = subst (IsLeftBy old.present (contents old.devices) old.declaration openings) (sym all_same) (t.behind openings before leads).left;
              segments = segments_turned old.declaration room openings before (past.earlier ++ past.present ∷ []) (t.behind openings before leads).segments;
            };
        good_room = t.good_room;
        counted = refl;
        roomy = t.roomy;
      }
