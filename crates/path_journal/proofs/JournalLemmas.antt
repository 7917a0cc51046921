-- The text of a journal: what its first byte decides, its head, and its lines.
use Rattle.std.proofs.Common.{◌≡◌, ◌≢◌, ℕ, ◌+◌, ◌<◌, ◌^◌, List, [], ◌∷◌, ◌++◌, Option, Some, None, length, drop, ◌⊎◌, inl, inr, All, decimal, refl, sym, ap, ◌∙◌, subst, append_assoc, arith}
use Rattle.std.proofs.lemmas.List.{append-nil, append_cancel_right, nil_from_length}
use Rattle.std.proofs.lemmas.List.Elements.{All-nil}
use Rattle.path_model.specs.declared.journal.Line.{Line}
use Rattle.path_model.specs.Declarations.{Declaration}
use Rattle.path_model.specs.Rooms.{IsRoom}
use Rattle.path_decl.specs.Lawful.{AreDistinctNames}
use Rattle.path_fields.specs.Splits.{HasNone, EndsAt, IsDigit}
use Rattle.path_fields.proofs.CallerLemmas.{none_in_number}
use Rattle.path_lines.specs.declared.entry.LineFault.{LineFault}
use Rattle.path_lines.specs.declared.entry.LineFault.TheVariants as line_faults
use Rattle.path_lines.specs.declared.texts.TextFault.{TextFault}
use Rattle.path_lines.specs.declared.texts.TextFault.TheVariants as faults
use Rattle.path_lines.specs.LineTexts.{operation_names, attempt_text, reply_text, journal_line_text}
use Rattle.path_lines.specs.AttemptTexts.{IsFirstLine, fault_of}
use Rattle.path_lines.proofs.CallerLemmas.{ReadLines, first_line, is_first, ends_first, whole_parts, lines_more, all_read, first_of_text, ends_in_feed, refuted, nothing_spelled, spells_once}
use Rattle.path_journal.specs.JournalTexts.{LineFits, lines_text, head_text, kept_head, journal_text, AreLinesOf, IsPlainText, AreNoLines, IsNoPlainText}
use Rattle.path_journal.specs.JournalFaults.{IsUndeclared, IsFirstRecordFault, AreLinesAtFault, IsLinesFault, IsPlainFaultAt, IsPlainFault}
use Rattle.path_journal.proofs.HeadLemmas.{one_head}
use Rattle.path_journal.proofs.RecordLemmas.{record_is_line, record_is_some, record_once}

same_byte : {x y : ℕ} {xs ys : List ℕ} → x ∷ xs ≡ y ∷ ys → x ≡ y
same_byte e = cc

-- how far the lines were read
abbrev pub ReadRecords : Declaration → List ℕ → List Line → List ℕ → Type 0
ReadRecords d text ls rest = ReadLines Line (journal_line_text d) LineFits text ls rest

pub records_more : (d : Declaration) (text rest after : List ℕ) (ls ms : List Line) (l : Line) (n : ℕ) → rest ≢ [] → IsFirstLine (journal_line_text d l) rest → n ≡ length (journal_line_text d l) → after ≡ drop (n + 1) rest → LineFits l → ms ≡ ls ++ l ∷ [] → ReadRecords d text ls rest → ReadRecords d text ms after
records_more d = lines_more Line (journal_line_text d) LineFits

pub records_end : (d : Declaration) (text rest : List ℕ) (ls : List Line) → rest ≡ [] → ReadRecords d text ls rest → AreLinesOf d text ls
records_end d text rest ls none r = record { fits = r.fits; spelled = all_read Line (journal_line_text d) LineFits text rest ls none r }

pub records_fault : (d : Declaration) (text rest : List ℕ) (ls : List Line) (n : ℕ) (f : LineFault) → n ≡ length ls → rest ≢ [] → IsFirstRecordFault d rest f → ReadRecords d text ls rest → AreLinesAtFault d text n f
records_fault d text rest ls n f count some at r = record {
  before = ls;
  line = at.0;
  count = sym count;
  faulty = record { rest = rest; fits = r.fits; parts = whole_parts Line (journal_line_text d) LineFits text rest ls some r; more = some; first = at.1; none = at.2 };
  fault = at.3;
}

pub lines_fault : (d : Declaration) (text : List ℕ) (before k : ℕ) (f : LineFault) → AreLinesAtFault d text k f → IsLinesFault d text before (fault_of (before + k) f)
lines_fault d text before k line_faults.Bad at = (k, refl, at)
lines_fault d text before k line_faults.Undeclared at = (k, refl, at)

module _ (d : Declaration) (names : AreDistinctNames (operation_names d)) where
  clean : (l : Line) → LineFits l → HasNone 10 (journal_line_text d l)
  clean l h = record_is_line d names.each l h

  some : (l : Line) → journal_line_text d l ≢ []
  some l = record_is_some d names.each l

  once : (l m : Line) → LineFits l → LineFits m → journal_line_text d l ≡ journal_line_text d m → l ≡ m
  once l m h k e = record_once d l m names h k e

  pub no_lines : (text : List ℕ) (n : ℕ) (f : LineFault) → AreLinesAtFault d text n f → AreNoLines d text
  no_lines text n f at ls t =
      let spelled = subst (λ x. (x ≡ lines_text d ls) ⊎ (x ++ 10 ∷ [] ≡ lines_text d ls)) at.faulty.parts t.spelled in
      refuted Line (journal_line_text d) LineFits clean at.before at.faulty.rest at.line ls at.faulty.fits t.fits at.faulty.more at.faulty.first at.faulty.none spelled

  pub one_list : (text : List ℕ) (ls : List Line) → AreLinesOf d text ls → (ms : List Line) → AreLinesOf d text ms → ms ≡ ls
  one_list text ls t ms u = spells_once Line (journal_line_text d) LineFits clean some once ms ls text u.fits t.fits u.spelled t.spelled

  nothing_told : (ls : List Line) → AreLinesOf d [] ls → ls ≡ []
  nothing_told ls t = nothing_spelled Line (journal_line_text d) LineFits clean some once ls t.spelled

  -- a number begins with no letter
  digit_first : (ds xs rest : List ℕ) → HasNone 106 ds → ds ++ (32 ∷ xs) ≡ 106 ∷ rest → ⊥
  digit_first [] xs rest h e = let i = same_byte e in omega (arith, i)
  digit_first (x ∷ ds) xs rest h e = h.0 (let i : x ≡ 106 = cc in i)

  letter : IsDigit 106 → ⊥
  letter i = let high = i.1 in omega (arith, high)

  number_first : (w : ℕ) (xs rest : List ℕ) → w < 2 ^ 32 → decimal w ++ (32 ∷ xs) ≡ 106 ∷ rest → ⊥
  number_first w xs rest small e = digit_first (decimal w) xs rest (none_in_number 106 w letter (omega (arith, small))) e

  line_first : (l : Line) (more rest : List ℕ) → LineFits l → journal_line_text d l ++ more ≡ 106 ∷ rest → ⊥
  line_first l more rest h e =
      let regroup : journal_line_text d l ++ more ≡ decimal l.worker ++ (32 ∷ (attempt_text d l.attempt ++ (58 ∷ 32 ∷ (reply_text l.reply ++ more)))) = simp append_assoc in
      number_first l.worker (attempt_text d l.attempt ++ (58 ∷ 32 ∷ (reply_text l.reply ++ more))) rest h.worker (sym regroup ∙ e)

  undeclared_first : (line rest : List ℕ) → line ≡ 106 ∷ rest → IsUndeclared d line → ⊥
  undeclared_first line rest e u =
      let regroup : (decimal u.undeclared.worker ++ (32 ∷ u.undeclared.attempt)) ++ (58 ∷ 32 ∷ reply_text u.reply) ≡ decimal u.undeclared.worker ++ (32 ∷ (u.undeclared.attempt ++ (58 ∷ 32 ∷ reply_text u.reply))) = append_assoc (decimal u.undeclared.worker) (32 ∷ u.undeclared.attempt) (58 ∷ 32 ∷ reply_text u.reply) in
      number_first u.undeclared.worker (u.undeclared.attempt ++ (58 ∷ 32 ∷ reply_text u.reply)) rest u.undeclared.fits (sym regroup ∙ ap (λ x. x ++ (58 ∷ 32 ∷ reply_text u.reply)) (sym u.undeclared.spelled) ∙ sym u.spelled ∙ e)

  lines_first : (ls : List Line) (rest : List ℕ) → All LineFits ls → lines_text d ls ≡ 106 ∷ rest → ⊥
  lines_first [] rest h e = cc
  lines_first (l ∷ ls) rest h e = line_first l (10 ∷ lines_text d ls) rest (h 0 l (omega arith)) (sym (first_of_text Line (journal_line_text d) LineFits l ls) ∙ e)

  -- a text that begins with a letter has no lines
  pub letter_no_lines : (text rest : List ℕ) (ls : List Line) → text ≡ 106 ∷ rest → AreLinesOf d text ls → ⊥
  letter_no_lines text rest ls e t = elim t.spelled [
    | inl s ↦ lines_first ls rest t.fits (sym s ∙ e)
    | inr s ↦ lines_first ls (rest ++ 10 ∷ []) t.fits (sym s ∙ ap (λ x. x ++ 10 ∷ []) e)
  ]

  pub of_lines : (text : List ℕ) (ls : List Line) → AreLinesOf d text ls → IsPlainText d text None ls
  of_lines text ls t = record { room_fits = tt; fits = t.fits; spelled = t.spelled }

  pub to_lines : (text : List ℕ) (ls : List Line) → IsPlainText d text None ls → AreLinesOf d text ls
  to_lines text ls t = record { fits = t.fits; spelled = t.spelled }

  -- a head begins with a letter
  short_head : (text xs : List ℕ) → text ++ 10 ∷ [] ≡ 106 ∷ xs → (rest : List ℕ) × (text ≡ 106 ∷ rest)
  short_head [] xs e = let i = same_byte e in absurd (omega (arith, i))
  short_head (b ∷ bs) xs e = (bs, let i : b ≡ 106 = cc in ap (λ x. x ∷ bs) i)

  head_first : (text : List ℕ) (m : ℕ) (ls : List Line) → IsPlainText d text (Some m) ls → (rest : List ℕ) × (text ≡ 106 ∷ rest)
  head_first text m ls t = elim t.spelled [
    | inl s ↦ (_, s)
    | inr s ↦ short_head text _ s
  ]

  -- what begins with no such letter is of version 1
  pub old_once : (text : List ℕ) (ls : List Line) → ((rest : List ℕ) → text ≢ 106 ∷ rest) → AreLinesOf d text ls → (room : Option ℕ) (ms : List Line) → IsPlainText d text room ms → (room ≡ None) × (ms ≡ ls)
  old_once text ls plain t None ms u = (refl, one_list text ls t ms (to_lines text ms u))
  old_once text ls plain t (Some m) ms u = let p = head_first text m ms u in absurd (plain p.0 p.1)

  pub old_none : (text : List ℕ) → ((rest : List ℕ) → text ≢ 106 ∷ rest) → AreNoLines d text → IsNoPlainText d text
  old_none text plain none None ms u = none ms (to_lines text ms u)
  old_none text plain none (Some m) ms u = let p = head_first text m ms u in plain p.0 p.1

  old_at : (text : List ℕ) (n k : ℕ) (f : LineFault) → ((rest : List ℕ) → text ≢ 106 ∷ rest) → n ≡ 0 + k → AreLinesAtFault d text k f → IsPlainFaultAt d text n f
  old_at text n k f plain is at = (
    at.line,
    record {
      room = None;
      before = at.before;
      rest = at.faulty.rest;
      count = let c = at.count in omega (arith, is, c);
      room_fits = tt;
      fits = at.faulty.fits;
      parts = at.faulty.parts;
      more = at.faulty.more;
      first = at.faulty.first;
      none = at.faulty.none;
      no_head = λ zero m room. (
          let none : at.before ≡ [] = nil_from_length at.before (let c = at.count in omega (arith, is, c, zero)) in
          let p = ends_first at.line at.faulty.rest at.faulty.first in
          let whole : text ≡ at.line ++ p.0 = at.faulty.parts ∙ ap (λ x. lines_text d x ++ at.faulty.rest) none ∙ p.2 in
          (λ e. plain _ (whole ∙ ap (λ x. x ++ p.0) e), λ e. plain _ (whole ∙ ap (λ x. x ++ p.0) e)));
    },
    at.fault,
  )

  pub old_fault : (text : List ℕ) (e : TextFault) → ((rest : List ℕ) → text ≢ 106 ∷ rest) → IsLinesFault d text 0 e → IsPlainFault d text e
  old_fault text faults.TooLong plain at = absurd at
  old_fault text (faults.BadLine n) plain at = old_at text n at.0 line_faults.Bad plain at.1 at.2
  old_fault text (faults.Undeclared n) plain at = old_at text n at.0 line_faults.Undeclared plain at.1 at.2
  old_fault text faults.OutOfMemory plain at = tt

  -- a text with a head has the lines that stand behind it
  pub new_text : (text r : List ℕ) (m : ℕ) (ls : List Line) → text ≡ head_text m ++ r → EndsAt 10 r → IsRoom m → AreLinesOf d (drop 1 r) ls → IsPlainText d text (Some m) ls
  new_text text [] m ls e end room t =
      let none : ls ≡ [] = nothing_told ls t in
      record { room_fits = room; fits = t.fits; spelled = inr (ap (λ x. x ++ 10 ∷ []) (e ∙ append-nil (head_text m)) ∙ sym (append-nil (head_text m ++ 10 ∷ [])) ∙ ap (λ x. (head_text m ++ 10 ∷ []) ++ lines_text d x) (sym none)) }
  new_text text (b ∷ more) m ls e end room t =
      let whole : text ≡ (head_text m ++ 10 ∷ []) ++ more = e ∙ ap (λ x. head_text m ++ x ∷ more) end ∙ sym (append_assoc (head_text m) (10 ∷ []) more) in
      record {
        room_fits = room;
        fits = t.fits;
        spelled = elim t.spelled [
          | inl s ↦ inl (whole ∙ ap (λ x. (head_text m ++ 10 ∷ []) ++ x) s)
          | inr s ↦ inr (ap (λ x. x ++ 10 ∷ []) whole ∙ append_assoc (head_text m ++ 10 ∷ []) more (10 ∷ []) ∙ ap (λ x. (head_text m ++ 10 ∷ []) ++ x) s)
        ];
      }

  feed_last : (r : List ℕ) → EndsAt 10 r → EndsAt 10 (r ++ 10 ∷ [])
  feed_last [] end = refl
  feed_last (b ∷ bs) end = end

  behind_feed : (r : List ℕ) (ls : List Line) → All LineFits ls → r ++ 10 ∷ [] ≡ 10 ∷ lines_text d ls → AreLinesOf d (drop 1 r) ls
  behind_feed [] ls fits e = record { fits = fits; spelled = inl (let i : [] ≡ lines_text d ls = cc in i) }
  behind_feed (b ∷ bs) ls fits e = record { fits = fits; spelled = inr (let i : bs ++ 10 ∷ [] ≡ lines_text d ls = cc in i) }

  room_small : (m : ℕ) → IsRoom m → m < 2 ^ 64
  room_small m h = let few = h.1 in omega (arith, few)

  pub under_head : (text r : List ℕ) (m n : ℕ) (ls : List Line) → text ≡ head_text m ++ r → EndsAt 10 r → IsRoom m → IsPlainText d text (Some n) ls → (n ≡ m) × AreLinesOf d (drop 1 r) ls
  under_head text r m n ls e end room t = elim t.spelled [
    | inl s ↦ (
        let p = one_head m n r (10 ∷ lines_text d ls) (room_small m room) end (room_small n t.room_fits) refl (sym e ∙ s ∙ append_assoc (head_text n) (10 ∷ []) (lines_text d ls)) in
        (sym p.0, record { fits = t.fits; spelled = inl (ap (drop 1) p.1) }))
    | inr s ↦ (
        let p = one_head m n (r ++ 10 ∷ []) (10 ∷ lines_text d ls) (room_small m room) (feed_last r end) (room_small n t.room_fits) refl (sym (append_assoc (head_text m) r (10 ∷ [])) ∙ ap (λ x. x ++ 10 ∷ []) (sym e) ∙ s ∙ append_assoc (head_text n) (10 ∷ []) (lines_text d ls)) in
        (sym p.0, behind_feed r ls t.fits p.1))
  ]

  pub new_once : (text rest r : List ℕ) (m : ℕ) (ls : List Line) → text ≡ 106 ∷ rest → text ≡ head_text m ++ r → EndsAt 10 r → IsRoom m → AreLinesOf d (drop 1 r) ls → (room : Option ℕ) (ms : List Line) → IsPlainText d text room ms → (room ≡ Some m) × (ms ≡ ls)
  new_once text rest r m ls first e end room t None ms u = absurd (letter_no_lines text rest ms first (to_lines text ms u))
  new_once text rest r m ls first e end room t (Some n) ms u =
      let p = under_head text r m n ms e end room u in
      (ap (λ x. Some x) p.0, one_list (drop 1 r) ls t ms p.1)

  pub new_none : (text rest r : List ℕ) (m : ℕ) → text ≡ 106 ∷ rest → text ≡ head_text m ++ r → EndsAt 10 r → IsRoom m → AreNoLines d (drop 1 r) → IsNoPlainText d text
  new_none text rest r m first e end room none None ms u = letter_no_lines text rest ms first (to_lines text ms u)
  new_none text rest r m first e end room none (Some n) ms u = none ms (under_head text r m n ms e end room u).1

  nothing_left : (xs ys : List ℕ) → [] ≡ xs ++ ys → ys ≡ []
  nothing_left [] ys e = sym e
  nothing_left (x ∷ xs) ys e = cc

  new_parts : (text r rest : List ℕ) (m : ℕ) (before : List Line) → text ≡ head_text m ++ r → EndsAt 10 r → rest ≢ [] → drop 1 r ≡ lines_text d before ++ rest → text ≡ journal_text d (Some m) before ++ rest
  new_parts text [] rest m before e end more parts = absurd (more (nothing_left (lines_text d before) rest parts))
  new_parts text (b ∷ bs) rest m before e end more parts =
      let is : bs ≡ lines_text d before ++ rest = parts in
      e ∙ ap (λ x. head_text m ++ x ∷ bs) end ∙ sym (append_assoc (head_text m) (10 ∷ []) bs) ∙ ap (λ x. (head_text m ++ 10 ∷ []) ++ x) is ∙ sym (append_assoc (head_text m ++ 10 ∷ []) (lines_text d before) rest)

  new_at : (text r : List ℕ) (m n k : ℕ) (f : LineFault) → text ≡ head_text m ++ r → EndsAt 10 r → IsRoom m → n ≡ 1 + k → AreLinesAtFault d (drop 1 r) k f → IsPlainFaultAt d text n f
  new_at text r m n k f e end room is at = (
    at.line,
    record {
      room = Some m;
      before = at.before;
      rest = at.faulty.rest;
      count = let c = at.count in omega (arith, is, c);
      room_fits = room;
      fits = at.faulty.fits;
      parts = new_parts text r at.faulty.rest m at.before e end at.faulty.more at.faulty.parts;
      more = at.faulty.more;
      first = at.faulty.first;
      none = at.faulty.none;
      no_head = λ zero. absurd (omega (arith, is, zero));
    },
    at.fault,
  )

  pub new_fault : (text r : List ℕ) (m : ℕ) (e : TextFault) → text ≡ head_text m ++ r → EndsAt 10 r → IsRoom m → IsLinesFault d (drop 1 r) 1 e → IsPlainFault d text e
  new_fault text r m faults.TooLong is end room at = absurd at
  new_fault text r m (faults.BadLine n) is end room at = new_at text r m n at.0 line_faults.Bad is end room at.1 at.2
  new_fault text r m (faults.Undeclared n) is end room at = new_at text r m n at.0 line_faults.Undeclared is end room at.1 at.2
  new_fault text r m faults.OutOfMemory is end room at = tt

  -- the first line of a text that begins with a letter does too
  same_first : (line after text rest : List ℕ) → text ≡ 106 ∷ rest → EndsAt 10 after → text ≡ line ++ after → (x : List ℕ) × (line ≡ 106 ∷ x)
  same_first [] [] text rest e end f = let i : [] ≡ 106 ∷ rest = sym f ∙ e in cc
  same_first [] (b ∷ bs) text rest e end f = let i : b ∷ bs ≡ 106 ∷ rest = sym f ∙ e in let j : b ≡ 106 = cc in absurd (omega (arith, end, j))
  same_first (b ∷ line) after text rest e end f = let i : b ∷ (line ++ after) ≡ 106 ∷ rest = sym f ∙ e in let j : b ≡ 106 = cc in (line, ap (λ x. x ∷ line) j)

  -- a first line that begins so and is no head is bad
  pub bad_head : (text rest : List ℕ) → text ≡ 106 ∷ rest → ((m : ℕ) (r : List ℕ) → IsRoom m → EndsAt 10 r → text ≢ head_text m ++ r) → ((m : ℕ) (r : List ℕ) → IsRoom m → EndsAt 10 r → text ≢ kept_head m ++ r)
      → IsPlainFault d text (faults.BadLine 0)
  bad_head text rest e none other =
      let p = first_line text in
      let q = same_first p.0 p.1 text rest e p.3 p.4 in (
        p.0,
        record {
          room = None;
          before = [];
          rest = text;
          count = refl;
          room_fits = tt;
          fits = All-nil LineFits;
          parts = refl;
          more = λ i. (let j : 106 ∷ rest ≡ [] = sym e ∙ i in cc);
          first = is_first p.0 p.1 text p.2 p.3 p.4;
          none = λ l fits is. line_first l [] q.0 fits (append-nil (journal_line_text d l) ∙ sym is ∙ q.1);
          no_head = λ zero m room. (λ is. none m p.1 room p.3 (p.4 ∙ ap (λ x. x ++ p.1) is), λ is. other m p.1 room p.3 (p.4 ∙ ap (λ x. x ++ p.1) is));
        },
        undeclared_first p.0 q.0 q.1,
      )

  -- with its last line feed or without, a text with a head goes on behind it
  cut_head : (text : List ℕ) (m : ℕ) (ls : List Line) → text ++ 10 ∷ [] ≡ head_text m ++ 10 ∷ lines_text d ls → (r : List ℕ) × EndsAt 10 r × (text ≡ head_text m ++ r)
  cut_head text m [] e = ([], tt, append_cancel_right text (head_text m) (10 ∷ []) e ∙ sym (append-nil (head_text m)))
  cut_head text m (l ∷ ls) e =
      let p = ends_in_feed Line (journal_line_text d) LineFits l ls in
      (10 ∷ p.0, refl, append_cancel_right text (head_text m ++ 10 ∷ p.0) (10 ∷ []) (e ∙ ap (λ x. head_text m ++ 10 ∷ x) p.1 ∙ sym (append_assoc (head_text m) (10 ∷ p.0) (10 ∷ []))))

  pub bad_head_none : (text rest : List ℕ) → text ≡ 106 ∷ rest → ((m : ℕ) (r : List ℕ) → IsRoom m → EndsAt 10 r → text ≢ head_text m ++ r) → IsNoPlainText d text
  bad_head_none text rest e none None ls u = letter_no_lines text rest ls e (to_lines text ls u)
  bad_head_none text rest e none (Some m) ls u = elim u.spelled [
    | inl s ↦ none m (10 ∷ lines_text d ls) u.room_fits refl (s ∙ append_assoc (head_text m) (10 ∷ []) (lines_text d ls))
    | inr s ↦ (let p = cut_head text m ls (s ∙ append_assoc (head_text m) (10 ∷ []) (lines_text d ls)) in none m p.0 u.room_fits p.1 p.2)
  ]
