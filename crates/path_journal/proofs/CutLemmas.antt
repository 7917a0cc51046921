-- Lines with marks: a text begins with one of them at most, and what stands behind the last is told apart.
use Rattle.std.proofs.Common.{◌≡◌, ◌≢◌, ℕ, ◌+◌, ◌<◌, ◌≤◌, ◌^◌, Bool, true, false, List, [], ◌∷◌, ◌++◌, length, take, drop, ◌-◌, Option, Some, None, ◌⊎◌, inl, inr, All, Contains, decimal, refl, sym, ap, ◌∙◌, subst, append_assoc, arith, length-append, length-drop}
use Rattle.std.proofs.lemmas.List.{append-nil, take_all, drop_at, length-map, map-append}
use Rattle.std.proofs.lemmas.List.Elements.{All-nil, All-head, All-tail, All-push}
use Rattle.std.proofs.lemmas.Grind.{flat_map-append}
use Rattle.std.proofs.lemmas.Bool.{cases_lt, OnTrue_at, OnFalse_at, OnTrue_from, OnFalse_from}
use Rattle.std.specs.Bool.{OnTrue, OnFalse}
use Rattle.std.specs.Option.{IfSome, IfNone, is_some}
use denote.Enum.Bare.{sameb}
use Rattle.path_lines.specs.contracts.entry.LineFault.{the_type}
use Rattle.std.proofs.lemmas.Option.{slice_get_past}
use Rattle.path_model.specs.declared.ids.OpId.{OpId}
use Rattle.path_model.specs.declared.journal.Attempt.{Attempt}
use Rattle.path_model.specs.declared.journal.Attempt.TheVariants.{Start, Apply, Finish}
use Rattle.path_model.specs.declared.journal.Line.{Line}
use Rattle.path_model.specs.Declarations.{Declaration}
use Rattle.path_lex.specs.Bytes.{is_word_byte, class_of}
use Rattle.path_lex.specs.Names.{IsName}
use Rattle.path_decl.specs.Lawful.{AreDistinctNames}
use Rattle.path_fields.specs.Splits.{HasNone, IsDigit, HasNoDigitNext}
use Rattle.path_fields.proofs.CallerLemmas.{cut_once, cut_none, none_joined, until_once, none_in_number, number_once}
use Rattle.path_lines.specs.declared.entry.LineFault.{LineFault}
use Rattle.path_lines.specs.declared.entry.LineFault.TheVariants as line_faults
use Rattle.path_lines.specs.LineTexts.{operation_names, operation_text, name_or_number, attempt_text, line_text, reply_text, journal_line_text, AttemptFits}
use Rattle.path_lines.specs.AttemptTexts.{IsFirstLine, StartsUndeclared}
use Rattle.path_lines.proofs.CallerLemmas.{named, ends_first, line_clean, undeclared_clean, name_without}
use Rattle.path_journal.specs.JournalTexts.{LineFits, journal_line, Kept, KeptFits, mark, kept_line, kept_text}
use Rattle.path_journal.specs.JournalFaults.{IsUndeclared, IsRecordFault, IsFirstRecordFault}
use Rattle.path_journal.specs.JournalFaults.{BeginsNoLine, HasUndeclaredFirst, BeginsUndeclared}
use Rattle.path_journal.specs.CutTexts.{AreLinesRead, HasLineBehind}
use Rattle.path_journal.proofs.ReplyLemmas.{reply_is_line}
use Rattle.path_journal.proofs.RecordLemmas.{record_is_line, record_once}

same_byte : {x y : ℕ} {xs ys : List ℕ} → x ∷ xs ≡ y ∷ ys → x ≡ y
same_byte e = cc

tail_one : {x y : ℕ} {xs ys : List ℕ} → x ∷ xs ≡ y ∷ ys → xs ≡ ys
tail_one e = cc

tail_six : {a b c x y z a' b' c' x' y' z' : ℕ} {xs ys : List ℕ} → a ∷ b ∷ c ∷ x ∷ y ∷ z ∷ xs ≡ a' ∷ b' ∷ c' ∷ x' ∷ y' ∷ z' ∷ ys → xs ≡ ys
tail_six e = cc

-- a number begins with no sign
sign_first : (ds xs rest : List ℕ) → HasNone 43 ds → ds ++ (32 ∷ xs) ≡ 43 ∷ rest → ⊥
sign_first [] xs rest h e = let i = same_byte e in omega (arith, i)
sign_first (x ∷ ds) xs rest h e = h.0 (let i : x ≡ 43 = cc in i)

no_sign : IsDigit 43 → ⊥
no_sign i = let low = i.0 in omega (arith, low)

number_first : (w : ℕ) (xs rest : List ℕ) → w < 2 ^ 32 → decimal w ++ (32 ∷ xs) ≡ 43 ∷ rest → ⊥
number_first w xs rest small e = sign_first (decimal w) xs rest (none_in_number 43 w no_sign (omega (arith, small))) e

-- a text is cut at a byte behind its first one, or there
pub cut_before : (sep : ℕ) (x after before z : List ℕ) → HasNone sep x → x ++ sep ∷ after ≡ before ++ sep ∷ z → ((before ≡ x) × (after ≡ z)) ⊎ ((b : List ℕ) × (before ≡ x ++ sep ∷ b) × (after ≡ b ++ sep ∷ z))
cut_before sep [] after [] z h e = inl (refl, tail_one e)
cut_before sep [] after (b ∷ bs) z h e =
    let first : sep ≡ b = same_byte e in
    inr (bs, ap (λ y. y ∷ bs) (sym first), tail_one e)
cut_before sep (x ∷ xs) after [] z h e = absurd (h.0 (same_byte e))
cut_before sep (x ∷ xs) after (b ∷ bs) z h e =
    let first : x ≡ b = same_byte e in
    elim (cut_before sep xs after bs z h.1 (tail_one e)) [
      | inl p ↦ inl (ap (λ y. y ∷ bs) (sym first) ∙ ap (λ y. x ∷ y) p.0, p.1)
      | inr p ↦ inr (p.0, ap (λ y. y ∷ bs) (sym first) ∙ ap (λ y. x ∷ y) p.1, p.2)
    ]

space_ends : (rest : List ℕ) → HasNoDigitNext (32 ∷ rest)
space_ends rest = λ d. let low = d.0 in omega (arith, low)

hash_outside : is_word_byte 35 ≡ false
unfolding class_of
hash_outside = refl

same_line_feed : (d : Declaration) (l : Line) (after : List ℕ) → journal_line d l ++ after ≡ journal_line_text d l ++ 10 ∷ after
same_line_feed d l after = append_assoc (journal_line_text d l) (10 ∷ []) after

-- what an answer says at its value, and where it is none
pub none_at : {T : Type 0} (o : Option T) (P : Type 0) → false ≡ is_some o → IfNone o P → P
none_at None P e h = h
none_at (Some v) P e h = cc

pub some_is : {T : Type 0} (o : Option T) → true ≡ is_some o → (v : T) × (o ≡ Some v)
some_is None e = cc
some_is (Some v) e = (v, refl)

pub none_to : {T : Type 0} (o : Option T) (P Q : Type 0) → (P → Q) → IfNone o P → IfNone o Q
none_to None P Q f h = f h
none_to (Some v) P Q f h = tt

pub some_to : {T : Type 0} (o : Option T) (P Q : T → Type 0) → ((v : T) → P v → Q v) → IfSome o P → IfSome o Q
some_to None P Q f h = tt
some_to (Some v) P Q f h = f v h

pub true_to : (b : Bool) (P Q : Type 0) → (P → Q) → OnTrue b P → OnTrue b Q
true_to b P Q f h = OnTrue_from b Q (λ e. f (OnTrue_at e h))

pub false_to : (b : Bool) (P Q : Type 0) → (P → Q) → OnFalse b P → OnFalse b Q
false_to b P Q f h = OnFalse_from b Q (λ e. f (OnFalse_at e h))

-- a fault that isn't the one is the other
pub other_fault : (f : LineFault) (r : Bool) (P : Type 0) → r ≡ sameb the_type f line_faults.Undeclared → (f ≡ line_faults.Bad → P) → OnFalse r P
other_fault line_faults.Bad r P e k = OnFalse_from r P (λ i. k refl)
other_fault line_faults.Undeclared r P e k = OnFalse_from r P (λ i. (let j : false ≡ true = sym i ∙ e in cc))

-- a slice up to the end
all_behind : (n : ℕ) (text : List ℕ) → take (length text - n) (drop n text) ≡ drop n text
all_behind n text = take_all (length text - n) (drop n text) (omega (arith, length-drop n text))

module _ (d : Declaration) (names : AreDistinctNames (operation_names d)) where
  clean : (l : Line) → LineFits l → HasNone 10 (journal_line_text d l)
  clean l h = record_is_line d names.each l h

  -- a text has one first line
  pub first_once : (line text : List ℕ) (l : Line) (after : List ℕ) → IsFirstLine line text → LineFits l → text ≡ journal_line d l ++ after → (line ≡ journal_line_text d l) × (text ≡ line ++ 10 ∷ after)
  first_once line text l after first fits e =
      let p = ends_first line text first in
      let whole : text ≡ journal_line_text d l ++ 10 ∷ after = e ∙ same_line_feed d l after in
      let q = until_once 10 line (journal_line_text d l) p.0 (10 ∷ after) first.0 (clean l fits) p.1 refl (sym p.2 ∙ whole) in
      (q.0, p.2 ∙ ap (λ x. line ++ x) q.1)

  -- no line stands at the beginning
  pub plain_err : (text : List ℕ) (f : LineFault) → IsFirstRecordFault d text f → (l : Line) (after : List ℕ) → LineFits l → text ≢ journal_line d l ++ after
  plain_err text f at l after fits e = at.2 l fits (first_once at.0 text l after at.1 fits e).0

  -- the first line has no line feed
  pub plain_short : (text : List ℕ) (m : Line) (n : ℕ) → IsFirstLine (journal_line_text d m) text → n ≡ length (journal_line_text d m) → ((rest : List ℕ) → take (length text - n) (drop n text) ≢ 10 ∷ rest) → (l : Line) (after : List ℕ) → LineFits l → text ≢ journal_line d l ++ after
  plain_short text m n first is none l after fits e =
      let p = first_once (journal_line_text d m) text l after first fits e in
      none after (all_behind n text ∙ ap (drop n) p.1 ∙ drop_at (journal_line_text d m) (10 ∷ after) n (sym is))

  -- it has one
  pub plain_parts : (text : List ℕ) (m : Line) (n : ℕ) (after : List ℕ) → IsFirstLine (journal_line_text d m) text → n ≡ length (journal_line_text d m) → take (length text - n) (drop n text) ≡ 10 ∷ after → text ≡ journal_line d m ++ after
  plain_parts text m n after first is left =
      let p = ends_first (journal_line_text d m) text first in
      let behind : 10 ∷ after ≡ p.0 = sym left ∙ all_behind n text ∙ ap (drop n) p.2 ∙ drop_at (journal_line_text d m) p.0 n (sym is) in
      p.2 ∙ ap (λ x. journal_line_text d m ++ x) (sym behind) ∙ sym (same_line_feed d m after)

  -- a line begins with no sign
  pub no_plus : (l : Line) (more rest : List ℕ) → LineFits l → journal_line d l ++ more ≡ 43 ∷ rest → ⊥
  no_plus l more rest h e =
      let regroup : journal_line_text d l ++ (10 ∷ more) ≡ decimal l.worker ++ (32 ∷ (attempt_text d l.attempt ++ (58 ∷ 32 ∷ (reply_text l.reply ++ (10 ∷ more))))) = simp append_assoc in
      number_first l.worker (attempt_text d l.attempt ++ (58 ∷ 32 ∷ (reply_text l.reply ++ (10 ∷ more)))) rest h.worker (sym regroup ∙ sym (same_line_feed d l more) ∙ e)

  pub undeclared_no_plus : (text rest : List ℕ) → text ≡ 43 ∷ rest → HasUndeclaredFirst d text → ⊥
  undeclared_no_plus text rest e first =
      let u = first.2 in
      let regroup : ((decimal u.undeclared.worker ++ (32 ∷ u.undeclared.attempt)) ++ (58 ∷ 32 ∷ reply_text u.reply)) ++ 10 ∷ first.1 ≡ decimal u.undeclared.worker ++ (32 ∷ (u.undeclared.attempt ++ (58 ∷ 32 ∷ (reply_text u.reply ++ 10 ∷ first.1)))) = simp append_assoc in
      let spelled : first.0 ≡ (decimal u.undeclared.worker ++ (32 ∷ u.undeclared.attempt)) ++ (58 ∷ 32 ∷ reply_text u.reply) = u.spelled ∙ ap (λ x. x ++ (58 ∷ 32 ∷ reply_text u.reply)) u.undeclared.spelled in
      number_first u.undeclared.worker _ rest u.undeclared.fits (sym regroup ∙ ap (λ x. x ++ 10 ∷ first.1) (sym spelled) ∙ sym first.3 ∙ e)

  -- a line that is right starts no name that isn't declared
  names_none : (a : OpId) (name : List ℕ) → a.0 < 2 ^ 32 → IsName name → operation_text d a ≡ name → a.0 < length d.operations ⊎ ⊥
  names_none a name small is e = elim (cases_lt a.0 (length d.operations)) [
    | inl lt ↦ inl lt
    | inr le ↦ inr (
        let past : length (operation_names d) ≤ a.0 = let n : length (operation_names d) ≡ length d.operations = length-map d.operations (λ o. o.name) in omega (arith, n, le) in
        let spelled : name ≡ 35 ∷ decimal a.0 = sym e ∙ ap (λ o. name_or_number o a.0) (slice_get_past (operation_names d) a.0 past) in
        (subst (HasNone 35) spelled (name_without 35 name hash_outside is.word)).0 refl)
  ]

  starts_none : (a : Attempt) (text : List ℕ) → AttemptFits a → StartsUndeclared d text → attempt_text d a ≡ text → ⊥
  starts_none (Start op) text h u e =
      let same : operation_text d op ≡ u.name = tail_six (e ∙ u.spelled) in
      elim (names_none op u.name h u.is_name same) [
        | inl lt ↦ u.undeclared (subst (Contains (operation_names d)) same (named d op lt).1)
        | inr none ↦ none
      ]
  starts_none (Apply n v) text h u e = let i = same_byte (e ∙ u.spelled) in omega (arith, i)
  starts_none (Finish n) text h u e = let i = same_byte (e ∙ u.spelled) in omega (arith, i)

  pub undeclared_apart : (line : List ℕ) (l : Line) → LineFits l → line ≡ journal_line_text d l → IsUndeclared d line → ⊥
  undeclared_apart line l fits is u =
      let p = cut_once 58 u.attempt (line_text d l.worker l.attempt) (32 ∷ reply_text u.reply) (32 ∷ reply_text l.reply) (undeclared_clean 58 (inr refl) d u.attempt u.undeclared) (line_clean 58 (inr refl) d (l.worker, l.attempt) names.each (fits.worker, fits.attempt)) (sym u.spelled ∙ is) in
      let small : u.undeclared.worker < 2 ^ 64 = let i = u.undeclared.fits in omega (arith, i) in
      let other : l.worker < 2 ^ 64 = let i = fits.worker in omega (arith, i) in
      let q = number_once u.undeclared.worker l.worker (32 ∷ u.undeclared.attempt) (32 ∷ attempt_text d l.attempt) small other (space_ends u.undeclared.attempt) (space_ends (attempt_text d l.attempt)) (sym u.undeclared.spelled ∙ p.0) in
      starts_none l.attempt u.undeclared.attempt fits.attempt u.undeclared.undeclared (sym (tail_one q.1))

  pub undeclared_is_line : (line : List ℕ) → IsUndeclared d line → HasNone 10 line
  undeclared_is_line line u = subst (HasNone 10) (sym u.spelled) (none_joined 10 u.attempt (58 ∷ 32 ∷ reply_text u.reply) (undeclared_clean 10 (inl refl) d u.attempt u.undeclared) ((λ e. omega (arith, e)), ((λ e. omega (arith, e)), reply_is_line u.reply u.fits)))

  alone : (line text : List ℕ) → HasNone 10 text → IsFirstLine line text → line ≡ text
  alone line text none (h, inl e) = sym e
  alone line text none (h, inr (rest, e)) = absurd (cut_none 10 line rest (subst (HasNone 10) e none))

  same_first : (text line after : List ℕ) → text ≡ line ++ 10 ∷ after → HasNone 10 line → (first : HasUndeclaredFirst d text) → first.0 ≡ line
  same_first text line after e none first = (cut_once 10 first.0 line first.1 after (undeclared_is_line first.0 first.2) none (sym first.3 ∙ e)).0

  pub undeclared_yes : (text line after : List ℕ) (f : LineFault) → text ≡ line ++ 10 ∷ after → HasNone 10 line → IsFirstRecordFault d line f → f ≡ line_faults.Undeclared → HasUndeclaredFirst d text
  undeclared_yes text line after f e none at is =
      let fault : IsRecordFault d at.0 line_faults.Undeclared = subst (IsRecordFault d at.0) is at.3 in
      (line, after, subst (IsUndeclared d) (alone at.0 line none at.1) fault, e)

  pub undeclared_bad : (text line after : List ℕ) (f : LineFault) → text ≡ line ++ 10 ∷ after → HasNone 10 line → IsFirstRecordFault d line f → f ≡ line_faults.Bad → HasUndeclaredFirst d text → ⊥
  undeclared_bad text line after f e none at is first =
      let fault : IsRecordFault d at.0 line_faults.Bad = subst (IsRecordFault d at.0) is at.3 in
      fault (subst (IsUndeclared d) (same_first text line after e none first ∙ sym (alone at.0 line none at.1)) first.2)

  pub undeclared_right : (text line after : List ℕ) (l : Line) → text ≡ line ++ 10 ∷ after → HasNone 10 line → IsFirstLine (journal_line_text d l) line → LineFits l → HasUndeclaredFirst d text → ⊥
  undeclared_right text line after l e none at fits first =
      undeclared_apart first.0 l fits (same_first text line after e none first ∙ sym (alone (journal_line_text d l) line none at)) first.2

  pub undeclared_never : (text : List ℕ) → HasNone 10 text → HasUndeclaredFirst d text → ⊥
  undeclared_never text none first = cut_none 10 first.0 first.1 (subst (HasNone 10) first.3 none)

  -- with a mark or without, a text begins with one line at most
  one_plain : (l m : Line) (x y : List ℕ) → LineFits l → LineFits m → journal_line d l ++ x ≡ journal_line d m ++ y → (l ≡ m) × (x ≡ y)
  one_plain l m x y h k e =
      let p = cut_once 10 (journal_line_text d l) (journal_line_text d m) x y (clean l h) (clean m k) (sym (same_line_feed d l x) ∙ e ∙ same_line_feed d m y) in
      (record_once d l m names h k p.0, p.1)

  pub one_whole : (marks : Bool) (k m : Kept) (x y : List ℕ) → KeptFits marks k → KeptFits marks m → kept_line d k ++ x ≡ kept_line d m ++ y → (k ≡ m) × (x ≡ y)
  one_whole marks (false, l) (false, m) x y h k e =
      let p = one_plain l m x y h.line k.line e in
      (ap (λ (z : Line). let w : Kept = (false, z) in w) p.0, p.1)
  one_whole marks (true, l) (true, m) x y h k e =
      let p = one_plain l m x y h.line k.line (tail_one e) in
      (ap (λ (z : Line). let w : Kept = (true, z) in w) p.0, p.1)
  one_whole marks (false, l) (true, m) x y h k e = absurd (no_plus l x (journal_line d m ++ y) h.line e)
  one_whole marks (true, l) (false, m) x y h k e = absurd (no_plus m y (journal_line d l ++ x) k.line (sym e))

  pub reads_once : (marks : Bool) (ks ms : List Kept) (rest end : List ℕ) → All (KeptFits marks) ks → All (KeptFits marks) ms → BeginsNoLine d marks rest → BeginsNoLine d marks end → kept_text d ks ++ rest ≡ kept_text d ms ++ end → (ks ≡ ms) × (rest ≡ end)
  reads_once marks [] [] rest end h k none last e = (refl, e)
  reads_once marks [] (m ∷ ms) rest end h k none last e = absurd (none m (kept_text d ms ++ end) (All-head (KeptFits marks) m ms k) (e ∙ append_assoc (kept_line d m) (kept_text d ms) end))
  reads_once marks (l ∷ ks) [] rest end h k none last e = absurd (last l (kept_text d ks ++ rest) (All-head (KeptFits marks) l ks h) (sym e ∙ append_assoc (kept_line d l) (kept_text d ks) rest))
  reads_once marks (l ∷ ks) (m ∷ ms) rest end h k none last e =
      let p = one_whole marks l m (kept_text d ks ++ rest) (kept_text d ms ++ end) (All-head (KeptFits marks) l ks h) (All-head (KeptFits marks) m ms k) (sym (append_assoc (kept_line d l) (kept_text d ks) rest) ∙ e ∙ append_assoc (kept_line d m) (kept_text d ms) end) in
      let q = reads_once marks ks ms rest end (All-tail (KeptFits marks) l ks h) (All-tail (KeptFits marks) m ms k) none last p.1 in
      (ap (λ (z : Kept). z ∷ ks) p.0 ∙ ap (λ (zs : List Kept). m ∷ zs) q.0, q.1)

  -- what a line without a mark says of a text that may have one
  pub whole_none : (marks : Bool) (text : List ℕ) → (marks ≡ true → (behind : List ℕ) → text ≢ 43 ∷ behind) → ((l : Line) (after : List ℕ) → LineFits l → text ≢ journal_line d l ++ after) → BeginsNoLine d marks text
  whole_none marks text sign none (true, l) after fits e = sign (fits.marked refl) (journal_line d l ++ after) e
  whole_none marks text sign none (false, l) after fits e = none l after fits.line e

  pub marked_none : (text behind : List ℕ) → text ≡ 43 ∷ behind → ((l : Line) (after : List ℕ) → LineFits l → behind ≢ journal_line d l ++ after) → BeginsNoLine d true text
  marked_none text behind e none (true, l) after fits f = none l after fits.line (tail_one (sym e ∙ f))
  marked_none text behind e none (false, l) after fits f = no_plus l after behind fits.line (sym f ∙ e)

  pub undeclared_marked : (text behind : List ℕ) → text ≡ 43 ∷ behind → (HasUndeclaredFirst d behind → ⊥) → BeginsUndeclared d true text → ⊥
  undeclared_marked text behind e none u = by_mark u.marked u.behind u.first u.parts
    where
      by_mark : (m : Bool) (rest : List ℕ) → HasUndeclaredFirst d rest → text ≡ mark m ++ rest → ⊥
      by_mark true rest first f = none (subst (HasUndeclaredFirst d) (tail_one (sym f ∙ e)) first)
      by_mark false rest first f = undeclared_no_plus rest behind (sym f ∙ e) first

  pub undeclared_plain : (marks : Bool) (text : List ℕ) → (marks ≡ true → (behind : List ℕ) → text ≢ 43 ∷ behind) → (HasUndeclaredFirst d text → ⊥) → BeginsUndeclared d marks text → ⊥
  undeclared_plain marks text sign none u = by_mark u.marked u.allowed u.behind u.first u.parts
    where
      by_mark : (m : Bool) → (m ≡ true → marks ≡ true) → (rest : List ℕ) → HasUndeclaredFirst d rest → text ≡ mark m ++ rest → ⊥
      by_mark true allowed rest first f = sign (allowed refl) rest f
      by_mark false allowed rest first f = none (subst (HasUndeclaredFirst d) (sym f) first)

-- lines are read one by one
pub read_none : (d : Declaration) (marks : Bool) (text : List ℕ) (ls : List Line) → ls ≡ [] → AreLinesRead d marks text ls text
read_none d marks text ls e = record { kept = []; lines = sym e; fits = All-nil (KeptFits marks); parts = refl }

pub read_more : (d : Declaration) (marks : Bool) (text rest after : List ℕ) (ls ms : List Line) (l : Line) (m : Bool) → KeptFits marks (m, l) → rest ≡ kept_line d (m, l) ++ after → ms ≡ ls ++ l ∷ [] → AreLinesRead d marks text ls rest → AreLinesRead d marks text ms after
read_more d marks text rest after ls ms l m fits e more r =
    let k : Kept = (m, l) in
    record {
      kept = r.kept ++ k ∷ [];
      lines = map-append (λ (z : Kept). z.1) r.kept (k ∷ []) ∙ ap (λ zs. zs ++ l ∷ []) r.lines ∙ sym more;
      fits = All-push (KeptFits marks) r.kept k r.fits fits;
      parts = r.parts ∙ ap (λ x. kept_text d r.kept ++ x) e ∙ sym (append_assoc (kept_text d r.kept) (kept_line d k) after) ∙ ap (λ x. x ++ after) (sym (pushed d r.kept k));
    }
  where
    pushed : (d : Declaration) (ks : List Kept) (k : Kept) → kept_text d (ks ++ k ∷ []) ≡ kept_text d ks ++ kept_line d k
    pushed d ks k = flat_map-append (kept_line d) ks (k ∷ []) ∙ ap (λ x. kept_text d ks ++ x) (append-nil (kept_line d k))

-- a line is shorter than a text that goes on behind it
pub shorter : (d : Declaration) (l : Line) (text after : List ℕ) → text ≡ journal_line d l ++ after → length after < length text
shorter d l text after e =
    let n : length text ≡ length (journal_line_text d l) + 1 + length after = ap length e ∙ length-append (journal_line d l) after ∙ ap (λ z. z + length after) (length-append (journal_line_text d l) (10 ∷ [])) in
    omega (arith, n)

-- what stands behind a line feed in the rest of a text stands so in the text
pub behind_more : (d : Declaration) (text front rest x after : List ℕ) (l : Line) (z : List ℕ) → text ≡ front ++ rest → rest ≡ x ++ 10 ∷ after → after ≡ journal_line d l ++ z → LineFits l → HasLineBehind d text
behind_more d text front rest x after l z e f g fits = record {
  before = front ++ x;
  line = l;
  after = z;
  fits = fits;
  parts = e ∙ ap (λ y. front ++ y) (f ∙ ap (λ y. x ++ 10 ∷ y) g) ∙ sym (append_assoc front x (10 ∷ (journal_line d l ++ z)));
}

pub behind_next : (d : Declaration) (rest x after : List ℕ) → rest ≡ x ++ 10 ∷ after → HasNone 10 x → ((l : Line) (z : List ℕ) → LineFits l → after ≢ journal_line d l ++ z) → HasLineBehind d rest → HasLineBehind d after
behind_next d rest x after e h none b = elim (cut_before 10 x after b.before (journal_line d b.line ++ b.after) h (sym e ∙ b.parts)) [
  | inl p ↦ absurd (none b.line b.after b.fits p.1)
  | inr p ↦ record { before = p.0; line = b.line; after = b.after; fits = b.fits; parts = p.2 }
]

pub behind_never : (d : Declaration) (rest : List ℕ) → HasNone 10 rest → HasLineBehind d rest → ⊥
behind_never d rest h b = cut_none 10 b.before (journal_line d b.line ++ b.after) (subst (HasNone 10) b.parts h)
