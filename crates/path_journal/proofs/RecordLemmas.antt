-- Each line of a journal has one text, which is a line, and any other text is at fault.
use Rattle.std.proofs.Common.{◌≡◌, ◌≢◌, ℕ, ◌+◌, ◌<◌, ◌≤◌, List, [], ◌∷◌, ◌++◌, length, inl, inr, All, codes, decimal, refl, sym, ap, ◌∙◌, subst, append_assoc, arith, length-append}
use Rattle.path_model.specs.declared.journal.Reply.{Reply}
use Rattle.path_model.specs.declared.journal.Line.{Line}
use Rattle.path_model.specs.Declarations.{Declaration}
use Rattle.path_lex.specs.Names.{IsName}
use Rattle.path_decl.specs.Lawful.{AreDistinctNames}
use Rattle.path_fields.specs.Splits.{HasNone, EndsAt}
use Rattle.path_fields.proofs.CallerLemmas.{cut_once, cut_none, none_joined, until_once}
use Rattle.path_lines.specs.declared.entry.LineFault.{LineFault}
use Rattle.path_lines.specs.declared.entry.LineFault.TheVariants as line_faults
use Rattle.path_lines.specs.LineTexts.{operation_names, attempt_text, line_text, reply_text, journal_line_text}
use Rattle.path_lines.specs.AttemptTexts.{Entry, IsNoEntry, IsUndeclaredLine, IsLineFault, IsFirstLine, IsFirstFault}
use Rattle.path_lines.proofs.CallerLemmas.{first_line, is_first, line_clean, undeclared_clean, number_is_some, entry_once}
use Rattle.path_journal.specs.JournalTexts.{ReplyFits, LineFits}
use Rattle.path_journal.specs.JournalFaults.{IsUndeclared, IsFirstRecordFault}
use Rattle.path_journal.proofs.ReplyLemmas.{reply_is_line, reply_once}

-- a line of an attempt is no longer than the text that begins with it, and ends before its line feed
pub whole_line : (line text : List ℕ) (n : ℕ) → IsFirstLine line text → n ≡ length line → length text ≤ n → text ≡ line
whole_line line text n (none, inl e) is le = e
whole_line line text n (none, inr (rest, e)) is le =
    let longer : length text ≡ length line + length (10 ∷ rest) = ap length e ∙ length-append line (10 ∷ rest) in
    absurd (omega (arith, is, le, longer))

broken_line : (line text : List ℕ) (n : ℕ) → IsFirstLine line text → n ≡ length line → n < length text → (rest : List ℕ) × (text ≡ line ++ 10 ∷ rest)
broken_line line text n (none, inl e) is lt = let same : length text ≡ length line = ap length e in absurd (omega (arith, is, lt, same))
broken_line line text n (none, inr p) is lt = p

alone : (line text : List ℕ) → HasNone 10 text → IsFirstLine line text → line ≡ text
alone line text clean (none, inl e) = sym e
alone line text clean (none, inr (rest, e)) = absurd (cut_none 10 line rest (subst (HasNone 10) e clean))

module _ (d : Declaration) (names : All IsName (operation_names d)) where
  -- a text with a line feed is no attempt, and no start of what isn't declared
  pub no_entry_broken : (text front rest : List ℕ) → text ≡ front ++ 10 ∷ rest → IsNoEntry d text
  no_entry_broken text front rest e w a small fits is = cut_none 10 front rest (subst (HasNone 10) (sym is ∙ e) (line_clean 10 (inl refl) d (w, a) names (small, fits)))

  pub bad_broken : (text front rest : List ℕ) → text ≡ front ++ 10 ∷ rest → IsLineFault d text line_faults.Bad
  bad_broken text front rest e u = cut_none 10 front rest (subst (HasNone 10) e (undeclared_clean 10 (inl refl) d text u))

  pub no_entry_short : (text line : List ℕ) (n : ℕ) → IsFirstLine line text → n ≡ length line → n < length text → IsNoEntry d text
  no_entry_short text line n first is lt = let p = broken_line line text n first is lt in no_entry_broken text line p.0 p.1

  pub bad_short : (text line : List ℕ) (n : ℕ) → IsFirstLine line text → n ≡ length line → n < length text → IsLineFault d text line_faults.Bad
  bad_short text line n first is lt = let p = broken_line line text n first is lt in bad_broken text line p.0 p.1

  -- the first line is all there is
  pub no_entry_alone : (text : List ℕ) (f : LineFault) → HasNone 10 text → IsFirstFault d text f → IsNoEntry d text
  no_entry_alone text f clean at = subst (IsNoEntry d) (alone at.0 text clean at.1) at.2

  pub fault_alone : (text : List ℕ) (f : LineFault) → HasNone 10 text → IsFirstFault d text f → IsLineFault d text f
  fault_alone text f clean at = subst (λ x. IsLineFault d x f) (alone at.0 text clean at.1) at.3

  -- a line of a journal has no line feed
  told_is_line : (r : Reply) → ReplyFits r → HasNone 10 (codes ": " ++ reply_text r)
  told_is_line r h = (λ e. omega (arith, e), (λ e. omega (arith, e), reply_is_line r h))

  pub record_is_line : (l : Line) → LineFits l → HasNone 10 (journal_line_text d l)
  record_is_line l h = none_joined 10 (line_text d l.worker l.attempt) (codes ": " ++ reply_text l.reply) (line_clean 10 (inl refl) d (l.worker, l.attempt) names (h.worker, h.attempt)) (told_is_line l.reply h.reply)

  pub record_is_some : (l : Line) → journal_line_text d l ≢ []
  record_is_some l e = number_is_some l.worker (attempt_text d l.attempt ++ (codes ": " ++ reply_text l.reply)) (sym (append_assoc-number l) ∙ e)
    where
      append_assoc-number : (l : Line) → journal_line_text d l ≡ decimal l.worker ++ (32 ∷ (attempt_text d l.attempt ++ (codes ": " ++ reply_text l.reply)))
      append_assoc-number l = append_assoc (decimal l.worker) (32 ∷ attempt_text d l.attempt) (codes ": " ++ reply_text l.reply)

  -- a line is cut at the first colon
  cut_at_colon : (text front rest a after : List ℕ) (r : Reply) → text ≡ front ++ rest → HasNone 58 front → EndsAt 58 rest → HasNone 58 a → text ≡ (a ++ (codes ": " ++ reply_text r)) ++ after → (front ≡ a) × (rest ≡ codes ": " ++ (reply_text r ++ after))
  cut_at_colon text front rest a after r e clean stop plain f = until_once 58 front a rest (codes ": " ++ (reply_text r ++ after)) clean plain stop refl (sym e ∙ f ∙ append_assoc a (codes ": " ++ reply_text r) after)

  -- what stands before the first line's end is a line of a journal only where its attempt stands before the colon
  line_cut : (text front rest line after : List ℕ) (l : Line) → text ≡ front ++ rest → HasNone 58 front → EndsAt 58 rest → text ≡ line ++ after → LineFits l → line ≡ journal_line_text d l → (front ≡ line_text d l.worker l.attempt) × (rest ≡ codes ": " ++ (reply_text l.reply ++ after))
  line_cut text front rest line after l e clean stop f fits is =
      cut_at_colon text front rest (line_text d l.worker l.attempt) after l.reply e clean stop (line_clean 58 (inr refl) d (l.worker, l.attempt) names (fits.worker, fits.attempt)) (f ∙ ap (λ x. x ++ after) is)

  undeclared_cut : (text front rest line after : List ℕ) → text ≡ front ++ rest → HasNone 58 front → EndsAt 58 rest → text ≡ line ++ after → (u : IsUndeclared d line) → (front ≡ u.attempt) × (rest ≡ codes ": " ++ (reply_text u.reply ++ after))
  undeclared_cut text front rest line after e clean stop f u =
      cut_at_colon text front rest u.attempt after u.reply e clean stop (undeclared_clean 58 (inr refl) d u.attempt u.undeclared) (f ∙ ap (λ x. x ++ after) u.spelled)

  -- no reply stands behind the colon
  pub untold : (text front rest : List ℕ) → text ≡ front ++ rest → HasNone 58 front → EndsAt 58 rest → ((r : Reply) (after : List ℕ) → ReplyFits r → EndsAt 10 after → rest ≢ codes ": " ++ (reply_text r ++ after)) → IsFirstRecordFault d text line_faults.Bad
  untold text front rest e clean stop none =
      let p = first_line text in (
        p.0,
        is_first p.0 p.1 text p.2 p.3 p.4,
        λ l fits is. none l.reply p.1 fits.reply p.3 (line_cut text front rest p.0 p.1 l e clean stop p.4 fits is).1,
        λ u. none u.reply p.1 u.fits p.3 (undeclared_cut text front rest p.0 p.1 e clean stop p.4 u).1,
      )

  -- a reply stands behind the colon, but no attempt before it
  told_bad : (text front rest : List ℕ) → text ≡ front ++ rest → HasNone 58 front → EndsAt 58 rest → IsNoEntry d front → (IsUndeclaredLine d front → ⊥) → IsFirstRecordFault d text line_faults.Bad
  told_bad text front rest e clean stop none bad =
      let p = first_line text in (
        p.0,
        is_first p.0 p.1 text p.2 p.3 p.4,
        λ l fits is. none l.worker l.attempt fits.worker fits.attempt (line_cut text front rest p.0 p.1 l e clean stop p.4 fits is).0,
        λ u. bad (subst (IsUndeclaredLine d) (sym (undeclared_cut text front rest p.0 p.1 e clean stop p.4 u).0) u.undeclared),
      )

  told_undeclared : (text front rest after : List ℕ) (r : Reply) → text ≡ front ++ rest → HasNone 58 front → EndsAt 58 rest → rest ≡ codes ": " ++ (reply_text r ++ after) → ReplyFits r → EndsAt 10 after → IsNoEntry d front → IsUndeclaredLine d front → IsFirstRecordFault d text line_faults.Undeclared
  told_undeclared text front rest after r e clean stop told fits end none u =
      let line = front ++ (codes ": " ++ reply_text r) in
      let whole : text ≡ line ++ after = e ∙ ap (λ x. front ++ x) told ∙ sym (append_assoc front (codes ": " ++ reply_text r) after) in
      let feedless : HasNone 10 line = none_joined 10 front (codes ": " ++ reply_text r) (undeclared_clean 10 (inl refl) d front u) (told_is_line r fits) in (
        line,
        is_first line after text feedless end whole,
        λ l fit is. none l.worker l.attempt fit.worker fit.attempt (line_cut text front rest line after l e clean stop whole fit is).0,
        record { attempt = front; reply = r; undeclared = u; fits = fits; spelled = refl },
      )

  pub no_attempt : (text front rest after : List ℕ) (r : Reply) (f : LineFault) → text ≡ front ++ rest → HasNone 58 front → EndsAt 58 rest → rest ≡ codes ": " ++ (reply_text r ++ after) → ReplyFits r → EndsAt 10 after → IsNoEntry d front → IsLineFault d front f → IsFirstRecordFault d text f
  no_attempt text front rest after r line_faults.Bad e clean stop told fits end none fault = told_bad text front rest e clean stop none fault
  no_attempt text front rest after r line_faults.Undeclared e clean stop told fits end none fault = told_undeclared text front rest after r e clean stop told fits end none fault

  -- both stand there
  pub spelled_whole : (text front rest after : List ℕ) (l : Line) → text ≡ front ++ rest → front ≡ line_text d l.worker l.attempt → rest ≡ codes ": " ++ (reply_text l.reply ++ after) → text ≡ journal_line_text d l ++ after
  spelled_whole text front rest after l e is told = e ∙ ap (λ x. x ++ rest) is ∙ ap (λ x. line_text d l.worker l.attempt ++ x) told ∙ sym (append_assoc (line_text d l.worker l.attempt) (codes ": " ++ reply_text l.reply) after)

  pub record_first : (text after : List ℕ) (l : Line) → text ≡ journal_line_text d l ++ after → LineFits l → EndsAt 10 after → IsFirstLine (journal_line_text d l) text
  record_first text after l e fits end = is_first (journal_line_text d l) after text (record_is_line l fits) end e

  same_line : (l m : Line) → l.worker ≡ m.worker → l.attempt ≡ m.attempt → l.reply ≡ m.reply → l ≡ m
  same_line l m i j k = ap (λ w. let x : Line = record l { worker = w } in x) i ∙ ap (λ a. let x : Line = record { worker = m.worker; attempt = a; reply = l.reply } in x) j ∙ ap (λ r. let x : Line = record { worker = m.worker; attempt = m.attempt; reply = r } in x) k

-- a text is of one line
pub record_once : (d : Declaration) (l m : Line) → AreDistinctNames (operation_names d) → LineFits l → LineFits m → journal_line_text d l ≡ journal_line_text d m → l ≡ m
record_once d l m names h k e =
    let p = cut_once 58 (line_text d l.worker l.attempt) (line_text d m.worker m.attempt) (32 ∷ reply_text l.reply) (32 ∷ reply_text m.reply) (line_clean 58 (inr refl) d (l.worker, l.attempt) names.each (h.worker, h.attempt)) (line_clean 58 (inr refl) d (m.worker, m.attempt) names.each (k.worker, k.attempt)) e in
    let entry : Entry = (l.worker, l.attempt) in
    let other : Entry = (m.worker, m.attempt) in
    let same : entry ≡ other = entry_once d entry other names (h.worker, h.attempt) (k.worker, k.attempt) p.0 in
    let tail : reply_text l.reply ≡ reply_text m.reply = let q = p.1 in cc in
    same_line d names.each l m (ap (λ (x : Entry). x.0) same) (ap (λ (x : Entry). x.1) same) (reply_once l.reply m.reply h.reply k.reply tail)
