-- What the calls of a store leave, and what a crash does at any moment in them.
use Rattle.std.proofs.Common.{◌<◌, ◌+◌, ◌≡◌, ℕ, zero, suc, ◌≤◌, Bool, true, false, List, [], ◌∷◌, ◌++◌, length, take, drop, get_or, ◌⊎◌, inl, inr, All, refl, sym, ap, ◌∙◌, subst, arith, append_assoc, length-append, take-append-drop}
use Rattle.std.specs.List.{AllByRecursion}
use Rattle.std.proofs.lemmas.List.{append-nil, take_more, map-append}
use Rattle.std.proofs.lemmas.List.Elements.{All-push}
use Rattle.std.proofs.lemmas.Grind.{flat_map-append}
use Rattle.path_model.specs.declared.journal.Line.{Line}
use Rattle.path_model.specs.Declarations.{Declaration}
use Rattle.path_journal.specs.declared.version.Version.TheVariants.{Three}
use Rattle.path_journal.specs.JournalTexts.{LineFits, Kept, KeptFits, kept_line, kept_text, lines_of}
use Rattle.path_journal.specs.CutTexts.{front_of}
use Rattle.path_store.specs.Devices.{IsImage, Torn, Follows, Only, Elapses, LeavesOnly}
use Rattle.path_store.specs.Stores.{Finds, FindsSome, AreMarked, IsLeft, HasLines}
use Rattle.path_store.proofs.Images.{torn_behind}
use Rattle.path_store.proofs.Left.{finds_some}
use Rattle.path_store.proofs.Moments.{started, goes_on, joined, weaker}

text_more : (d : Declaration) (ks : List Kept) (k : Kept) → kept_text d (ks ++ k ∷ []) ≡ kept_text d ks ++ kept_line d k
text_more d ks k = flat_map-append (kept_line d) ks (k ∷ []) ∙ ap (λ x. kept_text d ks ++ x) (append-nil (kept_line d k))

text_cut : (d : Declaration) (front : List ℕ) (ks ms : List Kept) → front ++ kept_text d (ks ++ ms) ≡ (front ++ kept_text d ks) ++ kept_text d ms
text_cut d front ks ms = ap (λ x. front ++ x) (flat_map-append (kept_line d) ks ms) ∙ sym (append_assoc front (kept_text d ks) (kept_text d ms))

marked_more : (ms : List Kept) (k : Kept) → AreMarked ms → (ms ≡ []) ⊎ (k.0 ≡ true) → AreMarked (ms ++ k ∷ [])
marked_more [] k h mark = tt
marked_more (m ∷ ms) k h (inl none) = let i = none in cc
marked_more (m ∷ ms) k h (inr mark) = all_more ms h
  where
    all_more : (ns : List Kept) → AllByRecursion (λ n. n.0 ≡ true) ns → AllByRecursion (λ n. n.0 ≡ true) (ns ++ k ∷ [])
    all_more [] h = (mark, tt)
    all_more (n ∷ ns) h = (h.0, all_more ns h.1)

take_less : (n : ℕ) (xs : List Line) (x : Line) → n ≤ length xs → take n (xs ++ x ∷ []) ≡ take n xs
take_less zero xs x le = refl
take_less (suc n) [] x le = absurd (omega (arith, le))
take_less (suc n) (y ∷ xs) x le = ap (λ l. y ∷ l) (take_less n xs x (omega (arith, le)))

-- with one line more, some lines are some
pub found_more : (d : Declaration) (room : ℕ) (synced fresh : List Line) (line : Line) (c : List ℕ) → FindsSome d room synced fresh c → FindsSome d room synced (fresh ++ line ∷ []) c
found_more d room synced fresh line c found =
    let few = found.1 in
    let longer = length-append fresh (line ∷ []) in
    (found.0, omega (arith, few, longer), subst (λ x. Finds d room c (synced ++ x)) (sym (take_less found.0 fresh line found.1)) found.2)

-- so they are with any lines behind
pub found_longer : (d : Declaration) (room : ℕ) (synced fresh more all : List Line) (c : List ℕ) → all ≡ fresh ++ more → FindsSome d room synced fresh c → FindsSome d room synced all c
found_longer d room synced fresh more all c is found =
    let few = found.1 in
    let longer = ap length is ∙ length-append fresh more in
    (found.0, omega (arith, few, longer), subst (λ x. Finds d room c (synced ++ x)) (sym (ap (take found.0) is ∙ take_within found.0 fresh more found.1)) found.2)
  where
    take_within : (n : ℕ) (xs ys : List Line) → n ≤ length xs → take n (xs ++ ys) ≡ take n xs
    take_within zero xs ys le = refl
    take_within (suc n) [] ys le = absurd (omega (arith, le))
    take_within (suc n) (x ∷ xs) ys le = ap (λ l. x ∷ l) (take_within n xs ys (omega (arith, le)))

pub one_line : (fresh lines : List Line) (i : ℕ) (x : Line) → i < length lines → (fresh ++ take i lines) ++ get_or lines i x ∷ [] ≡ fresh ++ take (i + 1) lines
one_line fresh lines i x lt = append_assoc fresh (take i lines) (get_or lines i x ∷ []) ∙ ap (λ y. fresh ++ y) (sym (take_more lines i x lt))

cut_lines : (fresh lines : List Line) (i : ℕ) → fresh ++ lines ≡ (fresh ++ take i lines) ++ drop i lines
cut_lines fresh lines i = ap (λ y. fresh ++ y) (sym (take-append-drop i lines)) ∙ sym (append_assoc fresh (take i lines) (drop i lines))

all_lines : (fresh lines : List Line) (i : ℕ) (x : Line) → i < length lines → fresh ++ lines ≡ ((fresh ++ take i lines) ++ get_or lines i x ∷ []) ++ drop (i + 1) lines
all_lines fresh lines i x lt = cut_lines fresh lines (i + 1) ∙ ap (λ y. y ++ drop (i + 1) lines) (sym (one_line fresh lines i x lt))

no_lines : (ks : List Kept) → lines_of ks ≡ [] → ks ≡ []
no_lines [] e = refl
no_lines (k ∷ ks) e = cc

module _ {D : Type 0} (holds may_leave : D → List ℕ → Type 0) (d : Declaration) (room : ℕ) where
  short_text : (device : D) (size : ℕ) (synced fresh : List Line) → (h : HasLines holds may_leave d room device size synced fresh) → length (front_of (Three room) ++ kept_text d (h.on_disk ++ h.not_yet)) ≤ 134217728
  short_text device size synced fresh h = let counted = h.counted in let short = h.short in omega (arith, counted, short)

  pub left_found : (device : D) (size : ℕ) (synced fresh : List Line) → HasLines holds may_leave d room device size synced fresh → (c : List ℕ) → may_leave device c → FindsSome d room synced fresh c
  left_found device size synced fresh h c left = finds_some d h.names room h.on_disk h.not_yet synced fresh c h.is_room h.are_synced h.are_fresh h.fits h.marked (short_text device size synced fresh h) (h.left c left)

  -- one line more is left so
  left_more : (old new : D) (size : ℕ) (synced fresh : List Line) (k : Kept) (bytes : List ℕ) → (h : HasLines holds may_leave d room old size synced fresh) → bytes ≡ kept_line d k → ((b : List ℕ) → holds old b → Follows (Torn (length b) bytes) (may_leave old) (may_leave new)) → (c : List ℕ) → may_leave new c → IsLeft d room h.on_disk (h.not_yet ++ k ∷ []) c
  left_more old new size synced fresh k bytes h is crash c left =
      let front = front_of (Three room) in
      let from = crash _ h.text c left in
      let cut = text_cut d front h.on_disk h.not_yet in
      let torn : Torn (length ((front ++ kept_text d h.on_disk) ++ kept_text d h.not_yet)) (kept_line d k) from.0 c = subst (λ x. Torn (length x) (kept_line d k) from.0 c) cut (subst (λ x. Torn (length (front ++ kept_text d (h.on_disk ++ h.not_yet))) x from.0 c) is from.2) in
      let p = torn_behind (front ++ kept_text d h.on_disk) (kept_text d h.not_yet) (kept_line d k) c from.0 (h.left from.0 from.1) torn in
      (p.0, p.1, subst (λ x. IsImage x p.0) (sym (text_more d h.not_yet k)) p.2)

  whole_more : (ks ms : List Kept) (k : Kept) (bytes : List ℕ) → bytes ≡ kept_line d k → (front_of (Three room) ++ kept_text d (ks ++ ms)) ++ bytes ≡ front_of (Three room) ++ kept_text d (ks ++ (ms ++ k ∷ []))
  whole_more ks ms k bytes is =
      append_assoc (front_of (Three room)) (kept_text d (ks ++ ms)) bytes
      ∙ ap (λ x. front_of (Three room) ++ x) (ap (λ x. kept_text d (ks ++ ms) ++ x) is ∙ sym (text_more d (ks ++ ms) k) ∙ ap (kept_text d) (append_assoc ks ms (k ∷ [])))

  mark_of : (flag : Bool) (fresh : List Line) (ms : List Kept) → lines_of ms ≡ fresh → (flag ≡ true → fresh ≡ []) → (marked : Bool) → (flag ≡ false → marked ≡ true) → (ms ≡ []) ⊎ (marked ≡ true)
  mark_of true fresh ms is none marked mark = inl (no_lines ms (is ∙ none refl))
  mark_of false fresh ms is none marked mark = inr (mark refl)

  -- how many bytes there are with one line more
  size_more : (size : ℕ) (ks ms : List Kept) (k : Kept) (bytes : List ℕ) → size ≡ length (front_of (Three room) ++ kept_text d (ks ++ ms)) → bytes ≡ kept_line d k → size + length bytes ≡ length (front_of (Three room) ++ kept_text d (ks ++ (ms ++ k ∷ [])))
  size_more size ks ms k bytes counted is =
      let joined = length-append (front_of (Three room) ++ kept_text d (ks ++ ms)) bytes in
      let same = ap length (whole_more ks ms k bytes is) in
      omega (arith, counted, joined, same)

  pub has_more : (old new : D) (size next : ℕ) (synced fresh : List Line) (line : Line) (flag marked : Bool) (bytes : List ℕ) → HasLines holds may_leave d room old size synced fresh → LineFits line → (flag ≡ true → fresh ≡ []) → (flag ≡ false → marked ≡ true) → bytes ≡ kept_line d (marked, line) → next ≡ size + length bytes → next ≤ 134217728 → ((b : List ℕ) → holds old b → holds new (b ++ bytes)) → ((b : List ℕ) → holds old b → Follows (Torn (length b) bytes) (may_leave old) (may_leave new)) → HasLines holds may_leave d room new next synced (fresh ++ line ∷ [])
  has_more old new size next synced fresh line flag marked bytes h fits none mark is counts short written crash =
      let k : Kept = (marked, line) in
      record {
        is_room = h.is_room;
        names = h.names;
        on_disk = h.on_disk;
        not_yet = h.not_yet ++ k ∷ [];
        are_synced = h.are_synced;
        are_fresh = map-append (λ (z : Kept). z.1) h.not_yet (k ∷ []) ∙ ap (λ x. x ++ line ∷ []) h.are_fresh;
        fits = subst (All (KeptFits true)) (append_assoc h.on_disk h.not_yet (k ∷ [])) (All-push (KeptFits true) (h.on_disk ++ h.not_yet) k h.fits (record { line = fits; marked = λ e. refl }));
        marked = marked_more h.not_yet k h.marked (mark_of flag fresh h.not_yet h.are_fresh none marked mark);
        text = subst (holds new) (whole_more h.on_disk h.not_yet k bytes is) (written _ h.text);
        counted = counts ∙ size_more size h.on_disk h.not_yet k bytes h.counted is;
        short = short;
        left = left_more old new size synced fresh k bytes h is crash;
      }

  pub has_all : (old new : D) (size : ℕ) (synced fresh : List Line) → HasLines holds may_leave d room old size synced fresh → ((b : List ℕ) → holds old b → holds new b) → ((b : List ℕ) → holds old b → Only b (may_leave new)) → HasLines holds may_leave d room new size (synced ++ fresh) []
  has_all old new size synced fresh h same only =
      let ks = h.on_disk ++ h.not_yet in
      record {
        is_room = h.is_room;
        names = h.names;
        on_disk = ks;
        not_yet = [];
        are_synced = map-append (λ (z : Kept). z.1) h.on_disk h.not_yet ∙ ap (λ x. x ++ lines_of h.not_yet) h.are_synced ∙ ap (λ x. synced ++ x) h.are_fresh;
        are_fresh = refl;
        fits = subst (All (KeptFits true)) (sym (append-nil ks)) h.fits;
        marked = tt;
        text = subst (λ x. holds new (front_of (Three room) ++ kept_text d x)) (sym (append-nil ks)) (same _ h.text);
        counted = h.counted ∙ ap (λ x. length (front_of (Three room) ++ kept_text d x)) (sym (append-nil ks));
        short = h.short;
        left = λ c left. ([], only _ h.text c left ∙ sym (append-nil (front_of (Three room) ++ kept_text d ks)), tt);
      }

  -- found under an equal declaration and room
  found_as : (own : Declaration) (other : ℕ) (synced fresh : List Line) (c : List ℕ) → other ≡ room → own ≡ d → FindsSome own other synced fresh c → FindsSome d room synced fresh c
  found_as own other synced fresh c is same found = subst (λ (e : Declaration). FindsSome e room synced fresh c) same (subst (λ r. FindsSome own r synced fresh c) is found)

  module _ (moment : D → ℕ) (left_since : D → ℕ → List ℕ → Type 0) (only_now : (file : D) (c : List ℕ) → left_since file (moment file) c → may_leave file c) where
    pub at_start : (old : D) (size : ℕ) (synced fresh : List Line) → HasLines holds may_leave d room old size synced fresh → LeavesOnly moment left_since old old (FindsSome d room synced fresh)
    at_start old size synced fresh h = started moment left_since old (FindsSome d room synced fresh) (λ c left. left_found old size synced fresh h c (only_now old c left))

    pub more_at_start : (old : D) (size : ℕ) (synced fresh : List Line) (line : Line) → HasLines holds may_leave d room old size synced fresh → LeavesOnly moment left_since old old (FindsSome d room synced (fresh ++ line ∷ []))
    more_at_start old size synced fresh line h = started moment left_since old (FindsSome d room synced (fresh ++ line ∷ [])) (λ c left. found_more d room synced fresh line c (left_found old size synced fresh h c (only_now old c left)))

    -- a crash in an append leaves some lines, with the new one or without
    pub append_leaves : (old new : D) (size next : ℕ) (synced fresh : List Line) (line : Line) (flag marked : Bool) (bytes : List ℕ) → HasLines holds may_leave d room old size synced fresh → LineFits line → (flag ≡ true → fresh ≡ []) → (flag ≡ false → marked ≡ true) → bytes ≡ kept_line d (marked, line) → next ≡ size + length bytes → next ≤ 134217728 → ((b : List ℕ) → holds old b → Follows (Torn (length b) bytes) (may_leave old) (may_leave new)) → Elapses (moment old) (moment new) (left_since old) (left_since new) (may_leave new) → LeavesOnly moment left_since old new (FindsSome d room synced (fresh ++ line ∷ []))
    append_leaves old new size next synced fresh line flag marked bytes h fits none mark is counts short crash time =
        let k : Kept = (marked, line) in
        let more = size_more size h.on_disk h.not_yet k bytes h.counted is in
        goes_on moment left_since old old new (FindsSome d room synced (fresh ++ line ∷ [])) (may_leave new) (more_at_start old size synced fresh line h) time
        (λ c left. finds_some d h.names room h.on_disk (h.not_yet ++ k ∷ []) synced (fresh ++ line ∷ []) c h.is_room h.are_synced
        (map-append (λ (z : Kept). z.1) h.not_yet (k ∷ []) ∙ ap (λ x. x ++ line ∷ []) h.are_fresh)
        (subst (All (KeptFits true)) (append_assoc h.on_disk h.not_yet (k ∷ [])) (All-push (KeptFits true) (h.on_disk ++ h.not_yet) k h.fits (record { line = fits; marked = λ e. refl })))
        (marked_more h.not_yet k h.marked (mark_of flag fresh h.not_yet h.are_fresh none marked mark))
        (omega (arith, counts, short, more))
        (left_more old new size synced fresh k bytes h is crash c left))

    -- a crash in a sync leaves some of the lines
    pub sync_leaves : (old new : D) (size : ℕ) (synced fresh : List Line) → HasLines holds may_leave d room old size synced fresh → ((c : List ℕ) → may_leave new c → may_leave old c) → Elapses (moment old) (moment new) (left_since old) (left_since new) (may_leave new) → LeavesOnly moment left_since old new (FindsSome d room synced fresh)
    sync_leaves old new size synced fresh h crash time =
        goes_on moment left_since old old new (FindsSome d room synced fresh) (may_leave new) (at_start old size synced fresh h) time (λ c left. left_found old size synced fresh h c (crash c left))

    -- a run of appends goes on, and ends
    pub run_more : (old mid new : D) (synced fresh lines : List Line) (i other : ℕ) (own : Declaration) (x : Line) → other ≡ room → own ≡ d → i < length lines → LeavesOnly moment left_since old mid (FindsSome d room synced (fresh ++ lines)) → LeavesOnly moment left_since mid new (FindsSome own other synced ((fresh ++ take i lines) ++ get_or lines i x ∷ [])) → LeavesOnly moment left_since old new (FindsSome d room synced (fresh ++ lines))
    run_more old mid new synced fresh lines i other own x is same lt first second =
        joined moment left_since old mid new (FindsSome d room synced (fresh ++ lines)) first
        (weaker moment left_since mid new (FindsSome own other synced ((fresh ++ take i lines) ++ get_or lines i x ∷ [])) (FindsSome d room synced (fresh ++ lines))
        (λ c found. found_longer d room synced ((fresh ++ take i lines) ++ get_or lines i x ∷ []) (drop (i + 1) lines) (fresh ++ lines) c (all_lines fresh lines i x lt) (found_as own other synced ((fresh ++ take i lines) ++ get_or lines i x ∷ []) c is same found)) second)

    pub run_end : (old mid new : D) (synced fresh lines : List Line) (i other : ℕ) (own : Declaration) → other ≡ room → own ≡ d → LeavesOnly moment left_since old mid (FindsSome d room synced (fresh ++ lines)) → LeavesOnly moment left_since mid new (FindsSome own other synced (fresh ++ take i lines)) → LeavesOnly moment left_since old new (FindsSome d room synced (fresh ++ lines))
    run_end old mid new synced fresh lines i other own is same first second =
        joined moment left_since old mid new (FindsSome d room synced (fresh ++ lines)) first
        (weaker moment left_since mid new (FindsSome own other synced (fresh ++ take i lines)) (FindsSome d room synced (fresh ++ lines))
        (λ c found. found_longer d room synced (fresh ++ take i lines) (drop i lines) (fresh ++ lines) c (cut_lines fresh lines i) (found_as own other synced (fresh ++ take i lines) c is same found)) second)

    pub run_start : (old : D) (size : ℕ) (synced fresh lines : List Line) → HasLines holds may_leave d room old size synced fresh → LeavesOnly moment left_since old old (FindsSome d room synced (fresh ++ lines))
    run_start old size synced fresh lines h = weaker moment left_since old old (FindsSome d room synced fresh) (FindsSome d room synced (fresh ++ lines)) (λ c found. found_longer d room synced fresh lines (fresh ++ lines) c refl found) (at_start old size synced fresh h)
