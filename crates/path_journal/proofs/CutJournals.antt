-- A text has one journal that was cut, and a damaged text has none.
use Rattle.std.proofs.Common.{◌≡◌, ℕ, ◌+◌, ◌-◌, ◌≤◌, Bool, List, [], ◌∷◌, ◌++◌, length, All, refl, sym, ap, ◌∙◌, subst, arith, length-append}
use Rattle.path_model.specs.declared.journal.Line.{Line}
use Rattle.path_model.specs.Declarations.{Declaration}
use Rattle.path_decl.specs.Lawful.{AreDistinctNames}
use Rattle.path_lines.specs.declared.entry.LineFault.{LineFault}
use Rattle.path_lines.specs.declared.entry.LineFault.TheVariants as line_faults
use Rattle.path_lines.specs.LineTexts.{operation_names}
use Rattle.path_lines.specs.AttemptTexts.{fault_of}
use Rattle.path_journal.specs.declared.version.Version.{Version}
use Rattle.path_journal.specs.declared.version.Version.TheVariants.{One, Two, Three}
use Rattle.path_journal.specs.JournalTexts.{Kept, KeptFits, kept_text, lines_of}
use Rattle.path_journal.specs.JournalFaults.{BeginsNoLine, BeginsUndeclared}
use Rattle.path_journal.specs.CutTexts.{AreLinesRead, HasLineBehind, IsTornEnd, AreCutLines, IsDamage}
use Rattle.path_journal.specs.CutTexts.{front_of, VersionFits, has_marks, heads, HasNoHead, IsCutJournal, IsDamagedAt, IsCutFault, IsNoCutJournal}
use Rattle.path_journal.proofs.CutLemmas.{reads_once}
use Rattle.path_journal.proofs.KeptHeads.{one_front}

pub version_once : (text : List ℕ) (v w : Version) (x y : List ℕ) → VersionFits v → VersionFits w → (v ≡ One → HasNoHead text) → (w ≡ One → HasNoHead text) → text ≡ front_of v ++ x → text ≡ front_of w ++ y → (v ≡ w) × (x ≡ y)
version_once text One One x y h k none last e f = (refl, sym e ∙ f)
version_once text One (Two m) x y h k none last e f = absurd (none refl (Two m) y k (λ i. cc) f)
version_once text One (Three m) x y h k none last e f = absurd (none refl (Three m) y k (λ i. cc) f)
version_once text (Two m) One x y h k none last e f = absurd (last refl (Two m) x h (λ i. cc) e)
version_once text (Three m) One x y h k none last e f = absurd (last refl (Three m) x h (λ i. cc) e)
version_once text (Two m) (Two n) x y h k none last e f = one_front (Two m) (Two n) x y h k (λ i. cc) (λ i. cc) (sym e ∙ f)
version_once text (Two m) (Three n) x y h k none last e f = one_front (Two m) (Three n) x y h k (λ i. cc) (λ i. cc) (sym e ∙ f)
version_once text (Three m) (Two n) x y h k none last e f = one_front (Three m) (Two n) x y h k (λ i. cc) (λ i. cc) (sym e ∙ f)
version_once text (Three m) (Three n) x y h k none last e f = one_front (Three m) (Three n) x y h k (λ i. cc) (λ i. cc) (sym e ∙ f)

module _ (d : Declaration) (names : AreDistinctNames (operation_names d)) where
  pub cut_ok : (text body rest : List ℕ) (v : Version) (ls : List Line) (bytes : ℕ) → VersionFits v → (v ≡ One → HasNoHead text) → text ≡ front_of v ++ body → AreLinesRead d (has_marks v) body ls rest → BeginsNoLine d (has_marks v) rest → (BeginsUndeclared d (has_marks v) rest → ⊥) → (HasLineBehind d rest → ⊥) → length rest ≤ length body → bytes ≡ length text - length rest → IsCutJournal d text v ls bytes
  cut_ok text body rest v ls bytes fits none e read first declared behind few is = record {
    kept = read.kept;
    rest = rest;
    cut = record {
      version_fits = fits;
      no_head = none;
      body = body;
      parts = e;
      lines = record { fits = read.fits; parts = read.parts; torn = record { first = first; declared = declared; behind = behind } };
    };
    lines = read.lines;
    counted = (let n : length text ≡ length (front_of v) + length body = ap length e ∙ length-append (front_of v) body in omega (arith, n, few, is));
  }

  -- what stands behind the lines of one version
  same_rest : (v w : Version) (x y : List ℕ) (ks ms : List Kept) (rest end : List ℕ) → v ≡ w → x ≡ y → All (KeptFits (has_marks v)) ks → BeginsNoLine d (has_marks v) rest → x ≡ kept_text d ks ++ rest → AreCutLines d (has_marks w) y ms end → (ks ≡ ms) × (rest ≡ end)
  same_rest v w x y ks ms rest end same e fits first parts cut =
      let here : AreCutLines d (has_marks v) y ms end = subst (λ z. AreCutLines d (has_marks z) y ms end) (sym same) cut in
      reads_once d names (has_marks v) ks ms rest end fits here.fits first here.torn.first (sym parts ∙ e ∙ here.parts)

  pub cut_one : (text : List ℕ) (v : Version) (ls : List Line) (bytes : ℕ) → IsCutJournal d text v ls bytes → (w : Version) (ms : List Line) (n : ℕ) → IsCutJournal d text w ms n → (w ≡ v) × (ms ≡ ls) × (n ≡ bytes)
  cut_one text v ls bytes j w ms n k =
      let p = version_once text v w j.cut.body k.cut.body j.cut.version_fits k.cut.version_fits j.cut.no_head k.cut.no_head j.cut.parts k.cut.parts in
      let q = same_rest v w j.cut.body k.cut.body j.kept k.kept j.rest k.rest p.0 p.1 j.cut.lines.fits j.cut.lines.torn.first j.cut.lines.parts k.cut.lines in
      let size : length j.rest ≡ length k.rest = ap length q.1 in
      let a = j.counted in
      let b = k.counted in
      (sym p.0, sym k.lines ∙ ap lines_of (sym q.0) ∙ j.lines, omega (arith, size, a, b))

  pub damaged : (text body rest : List ℕ) (v : Version) (ls : List Line) (f : LineFault) (n : ℕ) → VersionFits v → (v ≡ One → HasNoHead text) → text ≡ front_of v ++ body → AreLinesRead d (has_marks v) body ls rest → BeginsNoLine d (has_marks v) rest → IsDamage d (has_marks v) rest f → n ≡ heads v + length ls → IsDamagedAt d text n f
  damaged text body rest v ls f n fits none e read first damage is = record {
    version = v;
    version_fits = fits;
    no_head = none;
    body = body;
    parts = e;
    place = length ls;
    counted = is;
    lines = record { lines = read.kept; rest = rest; count = sym (length_lines read.kept) ∙ ap length read.lines; fits = read.fits; parts = read.parts; first = first; damage = damage };
  }
    where
      length_lines : (ks : List Kept) → length (lines_of ks) ≡ length ks
      length_lines [] = refl
      length_lines (k ∷ ks) = omega (arith, length_lines ks)

  no_damage : (marks : Bool) (rest : List ℕ) (f : LineFault) → IsDamage d marks rest f → IsTornEnd d marks rest → ⊥
  no_damage marks rest line_faults.Bad damage torn = torn.behind damage
  no_damage marks rest line_faults.Undeclared damage torn = torn.declared damage

  pub damaged_none : (text : List ℕ) (n : ℕ) (f : LineFault) → IsDamagedAt d text n f → IsNoCutJournal d text
  damaged_none text n f at w ms m k =
      let p = version_once text at.version w at.body k.cut.body at.version_fits k.cut.version_fits at.no_head k.cut.no_head at.parts k.cut.parts in
      let q = same_rest at.version w at.body k.cut.body at.lines.lines k.kept at.lines.rest k.rest p.0 p.1 at.lines.fits at.lines.first at.lines.parts k.cut.lines in
      let torn : IsTornEnd d (has_marks at.version) at.lines.rest = subst (λ z. IsTornEnd d (has_marks z) at.lines.rest) (sym p.0) (subst (IsTornEnd d (has_marks w)) (sym q.1) k.cut.lines.torn) in
      no_damage (has_marks at.version) at.lines.rest f at.lines.damage torn

pub cut_fault : (d : Declaration) (text : List ℕ) (n : ℕ) (f : LineFault) → IsDamagedAt d text n f → IsCutFault d text (fault_of n f)
cut_fault d text n line_faults.Bad at = at
cut_fault d text n line_faults.Undeclared at = at
