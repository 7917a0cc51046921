-- A text of version 3 has one journal and is none of version 1 or 2.
use Rattle.std.proofs.Common.{◌≡◌, ◌≢◌, ℕ, ◌+◌, ◌<◌, ◌^◌, true, false, List, [], ◌∷◌, ◌++◌, Option, Some, None, length, inl, inr, refl, sym, ap, ◌∙◌, subst, append_assoc, arith}
use Rattle.std.proofs.lemmas.List.{append-nil}
use Rattle.path_model.specs.declared.journal.Line.{Line}
use Rattle.path_model.specs.Declarations.{Declaration}
use Rattle.path_model.specs.Rooms.{IsRoom}
use Rattle.path_decl.specs.Lawful.{AreDistinctNames}
use Rattle.path_fields.specs.Splits.{EndsAt}
use Rattle.path_lines.specs.declared.entry.LineFault.{LineFault}
use Rattle.path_lines.specs.declared.entry.LineFault.TheVariants as line_faults
use Rattle.path_lines.specs.declared.texts.TextFault.{TextFault}
use Rattle.path_lines.specs.declared.texts.TextFault.TheVariants as faults
use Rattle.path_lines.specs.LineTexts.{operation_names, journal_line_text}
use Rattle.path_lines.specs.AttemptTexts.{fault_of}
use Rattle.path_journal.specs.JournalTexts.{head_text, lines_text, Kept, kept_head, kept_line, kept_text, lines_of, AreKeptLines, AreNoKeptLines, IsPlainText, IsNoPlainText, IsJournalText, IsNoJournalText}
use Rattle.path_journal.specs.JournalFaults.{BeginsNoLine, IsKeptLineFault, IsKeptLinesFault, IsPlainFault, IsJournalFault}
use Rattle.path_journal.specs.CutTexts.{AreLinesRead}
use Rattle.path_journal.proofs.CutLemmas.{reads_once}
use Rattle.path_journal.proofs.JournalLemmas.{letter_no_lines, to_lines}
use Rattle.path_journal.proofs.KeptHeads.{one_kept_head, other_number}

same_tail : {x y : ℕ} {xs ys : List ℕ} → x ∷ xs ≡ y ∷ ys → xs ≡ ys
same_tail e = cc

room_small : (m : ℕ) → IsRoom m → m < 2 ^ 64
room_small m h = let few = h.1 in omega (arith, few)

nothing_left : (xs ys : List ℕ) → [] ≡ xs ++ ys → ys ≡ []
nothing_left [] ys e = sym e
nothing_left (x ∷ xs) ys e = cc

not_empty : (d : Declaration) (k : Kept) (after : List ℕ) → [] ≢ kept_line d k ++ after
not_empty d (true, l) after e = cc
not_empty d (false, l) after e = let i : 10 ∷ after ≡ [] = nothing_left (journal_line_text d l) (10 ∷ after) (e ∙ append_assoc (journal_line_text d l) (10 ∷ []) after) in cc

nothing_begins : (d : Declaration) → BeginsNoLine d true []
nothing_begins d k after fits e = not_empty d k after e

-- what was read up to the end are the lines
pub all_kept : (d : Declaration) (text rest : List ℕ) (ls : List Line) → rest ≡ [] → AreLinesRead d true text ls rest → AreKeptLines d text ls
all_kept d text rest ls none r = record {
  kept = r.kept;
  lines = r.lines;
  fits = r.fits;
  spelled = r.parts ∙ ap (λ x. kept_text d r.kept ++ x) none ∙ append-nil (kept_text d r.kept);
}

length_lines : (ks : List Kept) → length (lines_of ks) ≡ length ks
length_lines [] = refl
length_lines (k ∷ ks) = omega (arith, length_lines ks)

-- what was read up to a line that is none
pub kept_fault : (d : Declaration) (text rest : List ℕ) (ls : List Line) (n : ℕ) (f : LineFault) → n ≡ 1 + length ls → rest ≢ [] → AreLinesRead d true text ls rest → BeginsNoLine d true rest → IsKeptLineFault d rest f → IsKeptLinesFault d text (fault_of n f)
kept_fault d text rest ls n line_faults.Bad is more r none fault = (length ls, is, record { before = r.kept; rest = rest; count = sym (length_lines r.kept) ∙ ap length r.lines; fits = r.fits; parts = r.parts; more = more; none = none; fault = fault })
kept_fault d text rest ls n line_faults.Undeclared is more r none fault = (length ls, is, record { before = r.kept; rest = rest; count = sym (length_lines r.kept) ∙ ap length r.lines; fits = r.fits; parts = r.parts; more = more; none = none; fault = fault })

module _ (d : Declaration) (names : AreDistinctNames (operation_names d)) where
  pub one_kept : (text : List ℕ) (ls : List Line) → AreKeptLines d text ls → (ms : List Line) → AreKeptLines d text ms → ms ≡ ls
  one_kept text ls t ms u =
      let same : kept_text d u.kept ++ [] ≡ kept_text d t.kept ++ [] = ap (λ x. x ++ []) (sym u.spelled ∙ t.spelled) in
      let p = reads_once d names true u.kept t.kept [] [] u.fits t.fits (nothing_begins d) (nothing_begins d) same in
      sym u.lines ∙ ap lines_of p.0 ∙ t.lines

  pub no_kept : (text rest : List ℕ) (ls : List Line) → rest ≢ [] → AreLinesRead d true text ls rest → BeginsNoLine d true rest → AreNoKeptLines d text
  no_kept text rest ls more r none ms u =
      let same : kept_text d r.kept ++ rest ≡ kept_text d u.kept ++ [] = sym r.parts ∙ u.spelled ∙ sym (append-nil (kept_text d u.kept)) in
      let p = reads_once d names true r.kept u.kept rest [] r.fits u.fits none (nothing_begins d) same in
      more p.1

  -- a head of version 3 begins no text of version 1 or 2
  pub not_plain : (text rest : List ℕ) (m : ℕ) (room : Option ℕ) (ls : List Line) → text ≡ kept_head m ++ rest → IsPlainText d text room ls → ⊥
  not_plain text rest m None ls e t = letter_no_lines d names text _ ls e (to_lines d names text ls t)
  not_plain text rest m (Some n) ls e t = elim t.spelled [
    | inl s ↦ other_number n m (10 ∷ lines_text d ls) rest (sym (append_assoc (head_text n) (10 ∷ []) (lines_text d ls)) ∙ sym s ∙ e)
    | inr s ↦ other_number n m (10 ∷ lines_text d ls) (rest ++ 10 ∷ []) (sym (append_assoc (head_text n) (10 ∷ []) (lines_text d ls)) ∙ sym s ∙ ap (λ x. x ++ 10 ∷ []) e ∙ append_assoc (kept_head m) rest (10 ∷ []))
  ]

  -- the body behind a head
  kept_body : (text body other : List ℕ) (m n : ℕ) → IsRoom m → IsRoom n → text ≡ kept_head m ++ 10 ∷ body → text ≡ kept_head n ++ 10 ∷ other → (n ≡ m) × (other ≡ body)
  kept_body text body other m n small few e f =
      let p = one_kept_head n m (10 ∷ other) (10 ∷ body) (room_small n few) refl (room_small m small) refl (sym f ∙ e) in
      (p.0, same_tail p.1)

  under_kept : (text body : List ℕ) (m : ℕ) (room : Option ℕ) (ls : List Line) → IsRoom m → text ≡ kept_head m ++ 10 ∷ body → IsJournalText d text room ls → (room ≡ Some m) × AreKeptLines d body ls
  under_kept text body m room ls small e t = by_room room t
    where
      by_room : (room : Option ℕ) → IsJournalText d text room ls → (room ≡ Some m) × AreKeptLines d body ls
      by_room None t = elim t.told [
        | inl plain ↦ absurd (not_plain text (10 ∷ body) m None ls e plain)
        | inr kept ↦ absurd kept
      ]
      by_room (Some n) t = elim t.told [
        | inl plain ↦ absurd (not_plain text (10 ∷ body) m (Some n) ls e plain)
        | inr kept ↦ (
            let p = kept_body text body kept.0 m n small t.room_fits e kept.1 in
            (ap (λ x. Some x) p.0, subst (λ x. AreKeptLines d x ls) p.1 kept.2))
      ]

  pub kept_once : (text body : List ℕ) (m : ℕ) (ls : List Line) → IsRoom m → text ≡ kept_head m ++ 10 ∷ body → AreKeptLines d body ls → (room : Option ℕ) (ms : List Line) → IsJournalText d text room ms → (room ≡ Some m) × (ms ≡ ls)
  kept_once text body m ls small e t room ms u =
      let p = under_kept text body m room ms small e u in
      (p.0, one_kept body ls t ms p.1)

  pub kept_none : (text body : List ℕ) (m : ℕ) → IsRoom m → text ≡ kept_head m ++ 10 ∷ body → AreNoKeptLines d body → IsNoJournalText d text
  kept_none text body m small e none room ms u = none ms (under_kept text body m room ms small e u).1

  -- a head without its line feed
  pub open_none : (text rest : List ℕ) (m : ℕ) → IsRoom m → EndsAt 10 rest → text ≡ kept_head m ++ rest → ((after : List ℕ) → rest ≢ 10 ∷ after) → IsNoJournalText d text
  open_none text rest m small end e none None ls u = elim u.told [
    | inl plain ↦ not_plain text rest m None ls e plain
    | inr kept ↦ kept
  ]
  open_none text rest m small end e none (Some n) ls u = elim u.told [
    | inl plain ↦ not_plain text rest m (Some n) ls e plain
    | inr kept ↦ (
        let p = one_kept_head m n rest (10 ∷ kept.0) (room_small m small) end (room_small n u.room_fits) refl (sym e ∙ kept.1) in
        none kept.0 p.1)
  ]

  -- and what has no such head is of version 1 or 2
  pub plain_once : (text : List ℕ) (named : Option ℕ) (ls : List Line) → ((m : ℕ) (rest : List ℕ) → IsRoom m → EndsAt 10 rest → text ≢ kept_head m ++ rest)
      → ((room : Option ℕ) (ms : List Line) → IsPlainText d text room ms → (room ≡ named) × (ms ≡ ls)) → (room : Option ℕ) (ms : List Line) → IsJournalText d text room ms → (room ≡ named) × (ms ≡ ls)
  plain_once text named ls other one None ms u = elim u.told [
    | inl plain ↦ one None ms plain
    | inr kept ↦ absurd kept
  ]
  plain_once text named ls other one (Some m) ms u = elim u.told [
    | inl plain ↦ one (Some m) ms plain
    | inr kept ↦ absurd (other m (10 ∷ kept.0) u.room_fits refl kept.1)
  ]

  pub plain_none : (text : List ℕ) → ((m : ℕ) (rest : List ℕ) → IsRoom m → EndsAt 10 rest → text ≢ kept_head m ++ rest) → IsNoPlainText d text → IsNoJournalText d text
  plain_none text other none None ms u = elim u.told [
    | inl plain ↦ none None ms plain
    | inr kept ↦ kept
  ]
  plain_none text other none (Some m) ms u = elim u.told [
    | inl plain ↦ none (Some m) ms plain
    | inr kept ↦ other m (10 ∷ kept.0) u.room_fits refl kept.1
  ]

pub plain_fault : (d : Declaration) (text : List ℕ) (e : TextFault) → IsPlainFault d text e → IsJournalFault d text e
plain_fault d text faults.TooLong at = absurd at
plain_fault d text (faults.BadLine n) at = inl at
plain_fault d text (faults.Undeclared n) at = inl at
plain_fault d text faults.OutOfMemory at = tt

pub kept_text_fault : (d : Declaration) (text body : List ℕ) (m : ℕ) (e : TextFault) → IsRoom m → text ≡ kept_head m ++ 10 ∷ body → IsKeptLinesFault d body e → IsJournalFault d text e
kept_text_fault d text body m faults.TooLong room is at = absurd at
kept_text_fault d text body m (faults.BadLine n) room is at = inr (inl (m, body, room, is, at))
kept_text_fault d text body m (faults.Undeclared n) room is at = inr (m, body, room, is, at)
kept_text_fault d text body m faults.OutOfMemory room is at = tt
