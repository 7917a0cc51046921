-- What is said of a journal is its judgement.
use Rattle.std.proofs.Common.{◌≡◌, ℕ, ◌+◌, zero, suc, List, [], ◌∷◌, ◌++◌, length, take, get_or, Option, Some, None, ap, ◌∙◌, subst, append_assoc}
use Rattle.std.specs.Prelude.{slice_get, is_some}
use Rattle.std.specs.Option.{unwrap_or}
use Rattle.path_model.specs.declared.journal.Line.{Line}
use Rattle.path_model.specs.Declarations.{Declaration}
use Rattle.path_model.specs.Honest.{IsHonest}
use Rattle.path_model.specs.Rooms.{IsRoom}
use Rattle.path_model.proofs.CallerLemmas.{one_segment_is_a_journal}
use Rattle.path_journal.specs.JournalTexts.{IsJournalText}
use Rattle.path_audit.specs.declared.auditor.Wrong.{Wrong}
use Rattle.path_audit.specs.Judged.{ExaminedValue, IsExamined, IsExaminedAs, IsFirstWrongBehind}
use Rattle.path_audit.specs.Verdicts.{IsFirstWrong}
use Rattle.tell_base.specs.Own.{own_openings}
use Rattle.cmd_explain.specs.Judgements.{Begins, IsSoundTold, IsWrongTold, owed_lines, sound_line}

-- a text that was empty got these bytes, and then more
pub begins_so : (front empty a b c hint rest : List ℕ) → empty ≡ [] → a ≡ empty ++ front → b ≡ a ++ hint → c ≡ b ++ rest → Begins front c
begins_so front empty a b c hint rest none ea eb ec =
    (hint ++ rest, ec ∙ ap (λ x. x ++ rest) (eb ∙ ap (λ x. x ++ hint) (ea ∙ ap (λ x. x ++ front) none)) ∙ append_assoc front hint rest)

-- what is at a place of a list
pub found_at : {X : Type 0} (xs : List X) (n : ℕ) (x z : X) → slice_get xs n ≡ Some x → get_or xs n z ≡ x
found_at [] n x z e = absurd (cc)
found_at (y ∷ xs) zero x z e = cc
found_at (y ∷ xs) (suc n) x z e = found_at xs n x z e

first_alone : (d : Declaration) (room : ℕ) (openings : List (List ℕ)) (lines : List Line) (n : ℕ) → IsFirstWrongBehind d room openings [] lines n → IsFirstWrong d room openings lines n
first_alone d room openings lines n w = record {
  within = w.within;
  honest = (one_segment_is_a_journal d room openings (take n lines)).0 w.honest;
  wrong = λ h. w.wrong ((one_segment_is_a_journal d room openings (take (n + 1) lines)).1 h);
}

module _ (d : Declaration) (given r : ℕ) (text bytes : List ℕ) (named : Option ℕ) (lines xs : List Line) (x : ExaminedValue) (told : IsJournalText d text named lines)
    (room : r ≡ unwrap_or named given) (same : xs ≡ lines) (in_range : IsRoom r) (kept : x.room ≡ r) (examined : IsExamined x d (own_openings d) [] xs) where
  abbrev openings : List (List ℕ)
  openings = own_openings d

  -- what was found holds of the lines of the text, in their room
  found : (w : Option Wrong) → x.wrong ≡ w → IsExaminedAs w x.replay d (unwrap_or named given) openings [] lines
  found w is =
      subst (λ k. IsExaminedAs w x.replay d k openings [] lines) (kept ∙ room)
      (subst (λ ys. IsExaminedAs w x.replay d x.room openings [] ys) same (subst (λ v. IsExaminedAs v x.replay d x.room openings [] xs) is examined))

  -- the journal is sound
  pub sound_told : x.wrong ≡ None → Begins (sound_line (length xs)) bytes → IsSoundTold d given text bytes
  sound_told none begins =
      let honest : IsHonest d (unwrap_or named given) openings lines = (one_segment_is_a_journal d (unwrap_or named given) openings lines).0 ((found None none).honest) in
      record {
        named = named;
        lines = lines;
        rest = begins.0;
        told = told;
        sound = record { named = named; lines = lines; told = told; in_range = subst IsRoom room in_range; judged = honest };
        spelled = begins.1 ∙ ap (λ ys. sound_line (length ys) ++ begins.0) same;
      }

  -- or it has a first wrong line
  pub wrong_told : (w : Wrong) → x.wrong ≡ Some w → ((l : Line) → slice_get lines w.line ≡ Some l → Begins (owed_lines d (is_some named) w.line l w.owed) bytes) → IsWrongTold d given text bytes
  wrong_told w is begins =
      let f = found (Some w) is in
      let l : Line = record { worker = f.worker; attempt = f.attempt; reply = f.told } in
      let b = begins l f.at in
      record {
        named = named;
        lines = lines;
        number = w.line;
        line = l;
        owed = w.owed;
        rest = b.0;
        told = told;
        first = first_alone d (unwrap_or named given) openings lines w.line f.first;
        at = f.at;
        is_owed = f.owed;
        spelled = b.1;
      }
