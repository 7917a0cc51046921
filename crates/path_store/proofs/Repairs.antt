-- What recovery leaves: the lines that were found, and a crash at any moment changes none of them.
use Rattle.std.proofs.Common.{◌≡◌, ◌≢◌, ◌↔◌, ◌<◌, ℕ, zero, suc, ◌+◌, ◌-◌, ◌≤◌, Bool, true, List, [], ◌∷◌, ◌++◌, length, take, drop, ◌⊎◌, inl, inr, All, refl, sym, ap, ◌∙◌, subst, arith, append_assoc, length-append, take-append-drop}
use Rattle.std.specs.Prelude.{IsErrOf, codes, decimal}
use Rattle.std.specs.declared.result.Result.{Result}
use Rattle.std.specs.declared.result.Result.TheVariants.{Ok, Err}
use Rattle.std.proofs.lemmas.Fmt.{length-decimal-le}
use Rattle.std.proofs.lemmas.List.{append-nil, length-take, take_at, take_all, nil_from_length}
use Rattle.std.proofs.lemmas.List.Elements.{All-nil}
use Rattle.path_model.specs.declared.journal.Line.{Line}
use Rattle.path_model.specs.Declarations.{Declaration}
use Rattle.path_model.specs.Rooms.{IsRoom}
use Rattle.path_decl.specs.Lawful.{AreDistinctNames}
use Rattle.path_lines.specs.LineTexts.{operation_names, journal_line_text}
use Rattle.path_journal.specs.declared.version.Version.{Version}
use Rattle.path_journal.specs.declared.version.Version.TheVariants.{Three}
use Rattle.path_journal.specs.JournalTexts.{kept_head, journal_line, Kept, KeptFits, mark, kept_line, kept_text, lines_of}
use Rattle.path_journal.specs.CutTexts.{IsCutFault, IsNoCutJournal, IsTornEnd, front_of, IsCutJournal}
use Rattle.path_lines.specs.declared.texts.TextFault.{TextFault}
use Rattle.path_lines.specs.declared.texts.TextFault.TheVariants as text_faults
use Rattle.path_store.specs.Devices.{IsImage, Cut, Only, Elapses, LeavesOnly}
use Rattle.path_store.specs.Stores.{Finds, FindsSome, HasLines, IsFile}
use Rattle.path_store.specs.Faults.{IsNoStore}
use Rattle.path_store.proofs.Images.{image_short, image_front, cut_front}
use Rattle.path_store.proofs.Left.{nothing_torn}
use Rattle.path_store.proofs.Moments.{started, goes_on, joined, weaker}

-- a front of a torn end is one
torn_front : (d : Declaration) (marks : Bool) (rest x y : List ℕ) → rest ≡ x ++ y → IsTornEnd d marks rest → IsTornEnd d marks x
torn_front d marks rest x y e torn = record {
  first = λ k after h f. torn.first k (after ++ y) h (e ∙ ap (λ z. z ++ y) f ∙ append_assoc (kept_line d k) after y);
  declared = λ u. torn.declared (record {
    marked = u.marked;
    allowed = u.allowed;
    behind = u.behind ++ y;
    first = (u.first.0, u.first.1 ++ y, u.first.2, ap (λ z. z ++ y) u.first.3 ∙ append_assoc u.first.0 (10 ∷ u.first.1) y);
    parts = e ∙ ap (λ z. z ++ y) u.parts ∙ append_assoc (mark u.marked) u.behind y;
  });
  behind = λ b. torn.behind (record {
    before = b.before;
    line = b.line;
    after = b.after ++ y;
    fits = b.fits;
    parts = e ∙ ap (λ z. z ++ y) b.parts ∙ append_assoc b.before (10 ∷ (journal_line d b.line ++ b.after)) y ∙ ap (λ z. b.before ++ 10 ∷ z) (append_assoc (journal_line d b.line) b.after y);
  });
}

line_some : (m x y z : List ℕ) → [] ≡ ((m ++ (x ++ 10 ∷ [])) ++ y) ++ z → ⊥
line_some [] [] y z e = cc
line_some [] (b ∷ x) y z e = cc
line_some (b ∷ m) x y z e = cc

no_lines : (d : Declaration) (ks : List Kept) (rest : List ℕ) → [] ≡ kept_text d ks ++ rest → ks ≡ []
no_lines d [] rest e = refl
no_lines d (k ∷ ks) rest e = absurd (line_some (mark k.0) (journal_line_text d k.1) (kept_text d ks) rest e)

-- behind a head that may be torn no line is found
pub image_none : (d : Declaration) (room : ℕ) (b : List ℕ) (ls : List Line) → IsImage (front_of (Three room)) b → Finds d room b ls → ls ≡ []
image_none d room b ls i (inl p) = p.1
image_none d room b ls i (inr p) =
    let j = p.1 in
    let short = image_short (front_of (Three room)) b i in
    let size = ap length j.cut.parts ∙ length-append (front_of (Three room)) j.cut.body in
    let none : j.cut.body ≡ [] = nil_from_length j.cut.body (omega (arith, short, size)) in
    sym j.lines ∙ ap lines_of (no_lines d j.kept j.rest (sym none ∙ j.cut.lines.parts))

first_none : (xs ys : List Line) → xs ++ ys ≡ [] → xs ≡ []
first_none [] ys e = refl
first_none (x ∷ xs) ys e = cc

pub image_some : (d : Declaration) (room : ℕ) (synced fresh : List Line) (c : List ℕ) → synced ++ fresh ≡ [] → IsImage (front_of (Three room)) c → FindsSome d room synced fresh c
image_some d room synced fresh c none i = (0, omega arith, inl (i, append-nil synced ∙ first_none synced fresh none))

pub some_all : (d : Declaration) (room : ℕ) (synced fresh : List Line) (c : List ℕ) → Finds d room c (synced ++ fresh) → FindsSome d room synced fresh c
some_all d room synced fresh c found = (length fresh, omega arith, subst (λ x. Finds d room c (synced ++ x)) (sym (take_all (length fresh) fresh (omega arith))) found)

-- a cut journal, in parts
pub cut_size : (d : Declaration) (b : List ℕ) (v : Version) (ls : List Line) (bytes : ℕ) → (j : IsCutJournal d b v ls bytes) → bytes ≡ length (front_of v ++ kept_text d j.kept)
cut_size d b v ls bytes j =
    let front = front_of v in
    let size = ap length j.cut.parts ∙ length-append front j.cut.body in
    let body = ap length j.cut.lines.parts ∙ length-append (kept_text d j.kept) j.rest in
    let both = length-append front (kept_text d j.kept) in
    let counted = j.counted in
    omega (arith, size, body, both, counted)

cut_parts : (d : Declaration) (b : List ℕ) (v : Version) (ls : List Line) (bytes : ℕ) → (j : IsCutJournal d b v ls bytes) → b ≡ (front_of v ++ kept_text d j.kept) ++ j.rest
cut_parts d b v ls bytes j = j.cut.parts ∙ ap (λ x. front_of v ++ x) j.cut.lines.parts ∙ sym (append_assoc (front_of v) (kept_text d j.kept) j.rest)

pub cut_taken : (d : Declaration) (b : List ℕ) (v : Version) (ls : List Line) (bytes : ℕ) → (j : IsCutJournal d b v ls bytes) → take bytes b ≡ front_of v ++ kept_text d j.kept
cut_taken d b v ls bytes j = ap (take bytes) (cut_parts d b v ls bytes j) ∙ take_at (front_of v ++ kept_text d j.kept) j.rest bytes (sym (cut_size d b v ls bytes j))

take_past : (xs ys : List ℕ) (m n : ℕ) → m ≡ length xs + n → take m (xs ++ ys) ≡ xs ++ take n ys
take_past [] ys m n e = let same : m ≡ n = omega (arith, e) in ap (λ (k : ℕ). take k ys) same
take_past (x ∷ xs) ys zero n e = absurd (omega (arith, e))
take_past (x ∷ xs) ys (suc m) n e = ap (λ (l : List ℕ). x ∷ l) (take_past xs ys m n (omega (arith, e)))

-- a front of it that has all lines is one with the same lines
pub cut_again : (d : Declaration) (b : List ℕ) (room : ℕ) (ls : List Line) (bytes m : ℕ) (c : List ℕ) → IsCutJournal d b (Three room) ls bytes → length b ≤ 134217728 → bytes ≤ m → c ≡ take m b → Finds d room c ls
cut_again d b room ls bytes m c j short le is =
    let front = front_of (Three room) in
    let lines = kept_text d j.kept in
    let size : bytes ≡ length (front ++ lines) = cut_size d b (Three room) ls bytes j in
    let n = m - length (front ++ lines) in
    let rest = take n j.rest in
    let parts : c ≡ (front ++ lines) ++ rest = is ∙ ap (take m) (cut_parts d b (Three room) ls bytes j) ∙ take_past (front ++ lines) j.rest m n (omega (arith, le, size)) in
    let torn = torn_front d true j.rest rest (drop n j.rest) (sym (take-append-drop n j.rest)) j.cut.lines.torn in
    let long = ap length parts ∙ length-append (front ++ lines) rest in
    let fewer = ap length is ∙ length-take m b in
    inr (
      bytes,
      record {
        kept = j.kept;
        rest = rest;
        cut = record {
          version_fits = j.cut.version_fits;
          no_head = λ e. cc;
          body = lines ++ rest;
          parts = parts ∙ append_assoc front lines rest;
          lines = record { fits = j.cut.lines.fits; parts = refl; torn = torn };
        };
        lines = j.lines;
        counted = omega (arith, long, size);
      },
      omega (arith, short, fewer),
    )

-- whether a head was torn, of the bytes that were read
pub torn_head : (written left front b : List ℕ) → written ≡ front → left ≡ b → IsImage written left × (left ≢ written) → IsImage front b × (b ≢ front)
torn_head written left front b is same (image, other) = (subst (IsImage front) same (subst (λ x. IsImage x left) is image), λ e. other (same ∙ e ∙ sym is))

pub whole_head : (written left front b : List ℕ) → written ≡ front → left ≡ b → (IsImage written left → left ≡ written) → IsImage front b → b ≡ front
whole_head written left front b is same whole i = sym same ∙ whole (subst (λ x. IsImage x left) (sym is) (subst (IsImage front) (sym same) i)) ∙ is

-- what was read as a journal isn't too long
pub not_too_long : {T : Type 0} (r : Result T TextFault) (text : List ℕ) (x : T) → r ≡ Ok x → (IsErrOf r text_faults.TooLong ↔ (134217728 < length text)) → length text ≤ 134217728
not_too_long r text x is long =
    let never : 134217728 < length text → ⊥ = λ l. (let e : Ok x ≡ Err text_faults.TooLong = sym is ∙ long.1 l in cc) in
    omega (arith, never)

-- a head names a room with seven digits at most
pub head_short : (room : ℕ) → IsRoom room → length (front_of (Three room)) ≤ 23
head_short room is =
    let least = is.0 in
    let most = is.1 in
    let digits = length-decimal-le 7 room (omega arith) (omega (arith, most)) (omega (arith, most)) in
    let head = length-append (kept_head room) (10 ∷ []) in
    let words = length-append (codes "journal 3 room ") (decimal room) in
    omega (arith, digits, head, words)

pub image_room : (room : ℕ) (b : List ℕ) → IsRoom room → IsImage (front_of (Three room)) b → length b ≤ 134217728
image_room room b is i = let few = image_short (front_of (Three room)) b i in let short = head_short room is in omega (arith, few, short)

module _ (d : Declaration) (names : AreDistinctNames (operation_names d)) (room : ℕ) (is : IsRoom room) where
  -- a head alone is a journal without lines
  head_journal : IsCutJournal d (front_of (Three room)) (Three room) [] (length (front_of (Three room)))
  head_journal = record {
    kept = [];
    rest = [];
    cut = record {
      version_fits = is;
      no_head = λ e. cc;
      body = [];
      parts = sym (append-nil (front_of (Three room)));
      lines = record { fits = All-nil (KeptFits true); parts = refl; torn = nothing_torn d names };
    };
    lines = refl;
    counted = omega arith;
  }

  pub only_journal : (b : List ℕ) (ls : List Line) → (IsImage (front_of (Three room)) b → b ≡ front_of (Three room)) → Finds d room b ls → (bytes : ℕ) × IsCutJournal d b (Three room) ls bytes × (length b ≤ 134217728)
  only_journal b ls whole (inl p) = (
    length (front_of (Three room)),
    subst (λ x. IsCutJournal d x (Three room) ls (length (front_of (Three room)))) (sym (whole p.0)) (subst (λ x. IsCutJournal d (front_of (Three room)) (Three room) x (length (front_of (Three room)))) (sym p.1) head_journal),
    image_room room b is p.0,
  )
  only_journal b ls whole (inr p) = p

  no_store : (b : List ℕ) → (IsImage (front_of (Three room)) b → b ≡ front_of (Three room)) → IsNoCutJournal d b → IsNoStore d room b
  no_store b whole none ls found = let p = only_journal b ls whole found in none (Three room) ls p.0 p.1

  too_long : (b : List ℕ) → 134217728 < length b → IsNoStore d room b
  too_long b long ls (inl p) = let short = image_room room b is p.0 in omega (arith, long, short)
  too_long b long ls (inr p) = let short = p.2 in omega (arith, long, short)

  -- a text that is refused has no store, unless memory lacked
  pub fault_none : (b : List ℕ) (fault : TextFault) → (IsImage (front_of (Three room)) b → b ≡ front_of (Three room)) → IsCutFault d b fault → (fault ≢ text_faults.TooLong → fault ≢ text_faults.OutOfMemory → IsNoCutJournal d b) → fault ≢ text_faults.OutOfMemory → IsNoStore d room b
  fault_none b text_faults.TooLong whole is_fault none memory = too_long b is_fault
  fault_none b (text_faults.BadLine n) whole is_fault none memory = no_store b whole (none (λ e. cc) (λ e. cc))
  fault_none b (text_faults.Undeclared n) whole is_fault none memory = no_store b whole (none (λ e. cc) (λ e. cc))
  fault_none b text_faults.OutOfMemory whole is_fault none memory = absurd (memory refl)

module _ {D : Type 0} (holds may_leave : D → List ℕ → Type 0) (d : Declaration) (room : ℕ) where
  -- lines that are all on the disk
  pub has_these : (device : D) (ks : List Kept) (ls : List Line) (b : List ℕ) (size : ℕ) → IsRoom room → AreDistinctNames (operation_names d) → lines_of ks ≡ ls → All (KeptFits true) ks → b ≡ front_of (Three room) ++ kept_text d ks → size ≡ length b → size ≤ 134217728 → holds device b → Only b (may_leave device) → HasLines holds may_leave d room device size ls []
  has_these device ks ls b size is names spelled fits e counts short holds_b only = record {
    is_room = is;
    names = names;
    on_disk = ks;
    not_yet = [];
    are_synced = spelled;
    are_fresh = refl;
    fits = subst (All (KeptFits true)) (sym (append-nil ks)) fits;
    marked = tt;
    text = subst (λ x. holds device (front_of (Three room) ++ kept_text d x)) (sym (append-nil ks)) (subst (holds device) e holds_b);
    counted = counts ∙ ap length e ∙ ap (λ x. length (front_of (Three room) ++ kept_text d x)) (sym (append-nil ks));
    short = short;
    left = λ c left. ([], only c left ∙ e ∙ sym (append-nil (front_of (Three room) ++ kept_text d ks)), tt);
  }

  module _ (moment : D → ℕ) (left_since : D → ℕ → List ℕ → Type 0) (only_now : (file : D) (c : List ℕ) → left_since file (moment file) c → may_leave file c) where
    pub read_leaves : (old mid : D) (synced fresh : List Line) → IsFile holds may_leave d room old synced fresh → ((c : List ℕ) → may_leave mid c → may_leave old c) → Elapses (moment old) (moment mid) (left_since old) (left_since mid) (may_leave mid) → LeavesOnly moment left_since old mid (FindsSome d room synced fresh)
    read_leaves old mid synced fresh file crash time =
        goes_on moment left_since old old mid (FindsSome d room synced fresh) (may_leave mid)
        (started moment left_since old (FindsSome d room synced fresh) (λ c left. file.left c (only_now old c left))) time
        (λ c left. file.left c (crash c left))

    -- a torn head is cut off, and written again
    pub head_cut : (old mid new : D) (synced fresh : List Line) → (file : IsFile holds may_leave d room old synced fresh) → ((c : List ℕ) → may_leave mid c → may_leave old c) → IsImage (front_of (Three room)) file.text → LeavesOnly moment left_since old mid (FindsSome d room synced fresh) → LeavesOnly moment left_since mid new (λ c. may_leave mid c ⊎ Cut 0 file.text c) → LeavesOnly moment left_since old new (FindsSome d room synced fresh)
    head_cut old mid new synced fresh file crash image first second =
        let none = image_none d room file.text (synced ++ fresh) image file.found in
        joined moment left_since old mid new (FindsSome d room synced fresh) first
        (weaker moment left_since mid new _ (FindsSome d room synced fresh) (λ c p. elim p [
          | inl left ↦ file.left c (crash c left)
          | inr cut ↦ (
              let q = cut_front 0 file.text c (omega arith) cut in
              image_some d room synced fresh c none (subst (IsImage (front_of (Three room))) (sym q.2) (image_front (front_of (Three room)) file.text q.0 image)))
        ]) second)

    pub head_written : (old mid new : D) (synced fresh : List Line) (front : List ℕ) → synced ++ fresh ≡ [] → front ≡ front_of (Three room) → LeavesOnly moment left_since old mid (FindsSome d room synced fresh) → LeavesOnly moment left_since mid new (IsImage front) → LeavesOnly moment left_since old new (FindsSome d room synced fresh)
    head_written old mid new synced fresh front none is first second =
        joined moment left_since old mid new (FindsSome d room synced fresh) first
        (weaker moment left_since mid new (IsImage front) (FindsSome d room synced fresh) (λ c i. image_some d room synced fresh c none (subst (λ x. IsImage x c) is i)) second)

    -- a torn end is cut off
    pub end_cut : (old mid new : D) (synced fresh : List Line) (bytes : ℕ) → (file : IsFile holds may_leave d room old synced fresh) → ((c : List ℕ) → may_leave mid c → may_leave old c) → IsCutJournal d file.text (Three room) (synced ++ fresh) bytes → length file.text ≤ 134217728 → LeavesOnly moment left_since old mid (FindsSome d room synced fresh) → LeavesOnly moment left_since mid new (λ c. may_leave mid c ⊎ Cut bytes file.text c) → LeavesOnly moment left_since old new (FindsSome d room synced fresh)
    end_cut old mid new synced fresh bytes file crash j short first second =
        joined moment left_since old mid new (FindsSome d room synced fresh) first
        (weaker moment left_since mid new _ (FindsSome d room synced fresh) (λ c p. elim p [
          | inl left ↦ file.left c (crash c left)
          | inr cut ↦ (
              let counted = j.counted in
              let q = cut_front bytes file.text c (omega (arith, counted)) cut in
              some_all d room synced fresh c (cut_again d file.text room (synced ++ fresh) bytes q.0 c j short q.1 q.2))
        ]) second)
