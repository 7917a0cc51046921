-- What a crash leaves of lines that were written is some of them, and a torn end.
use Rattle.std.proofs.Common.{◌≡◌, ◌≢◌, ℕ, zero, suc, ◌+◌, ◌≤◌, Bool, true, false, List, [], ◌∷◌, ◌++◌, length, take, inl, inr, All, refl, sym, ap, ◌∙◌, subst, arith, append_assoc}
use Rattle.std.specs.List.{AllByRecursion}
use Rattle.std.proofs.lemmas.List.{map-append}
use Rattle.std.proofs.lemmas.List.Elements.{All-nil, All-cons, All-head, All-tail}
use Rattle.std.proofs.lemmas.Grind.{flat_map-append}
use Rattle.path_model.specs.declared.journal.Line.{Line}
use Rattle.path_model.specs.Declarations.{Declaration}
use Rattle.path_model.specs.Rooms.{IsRoom}
use Rattle.path_decl.specs.Lawful.{AreDistinctNames}
use Rattle.path_fields.specs.Splits.{HasNone}
use Rattle.path_fields.proofs.CallerLemmas.{cut_once}
use Rattle.path_lines.specs.LineTexts.{operation_names, journal_line_text}
use Rattle.path_journal.specs.declared.version.Version.TheVariants.{Three}
use Rattle.path_journal.specs.JournalTexts.{LineFits, journal_line, Kept, KeptFits, mark, kept_line, kept_text, lines_of}
use Rattle.path_journal.specs.JournalFaults.{IsUndeclared}
use Rattle.path_journal.specs.CutTexts.{IsTornEnd, front_of}
use Rattle.path_journal.proofs.CallerLemmas.{record_is_line, cut_before, undeclared_apart, undeclared_is_line, undeclared_no_plus, no_plus, one_whole}
use Rattle.path_store.specs.Devices.{IsImage}
use Rattle.path_store.specs.Stores.{FindsSome, HasSome, AreMarked, IsLeft}
use Rattle.path_store.proofs.Images.{image_behind, image_short, image_split, image_same, begins_or, length_joined}
use Rattle.path_store.proofs.NoZeros.{line_clean, kept_clean, undeclared_clean}

tail_one : {x y : ℕ} {xs ys : List ℕ} → x ∷ xs ≡ y ∷ ys → xs ≡ ys
tail_one e = cc

-- each line has a mark
abbrev Marked : List Kept → Type 0
Marked ks = AllByRecursion (λ m. m.0 ≡ true) ks

module _ (d : Declaration) (names : AreDistinctNames (operation_names d)) where
  -- a line, up to its line feed
  abbrev kept_front : Kept → List ℕ
  kept_front k = mark k.0 ++ journal_line_text d k.1

  front_feed : (k : Kept) (z : List ℕ) → kept_line d k ++ z ≡ kept_front k ++ 10 ∷ z
  front_feed (true, l) z = ap (λ y. 43 ∷ y) (append_assoc (journal_line_text d l) (10 ∷ []) z)
  front_feed (false, l) z = append_assoc (journal_line_text d l) (10 ∷ []) z

  front_line : (k : Kept) → LineFits k.1 → HasNone 10 (kept_front k)
  front_line (true, l) h = ((λ e. omega (arith, e)), record_is_line d names.each l h)
  front_line (false, l) h = record_is_line d names.each l h

  nothing_begins : (ys z : List ℕ) → [] ≡ (ys ++ 10 ∷ []) ++ z → ⊥
  nothing_begins [] z f = cc
  nothing_begins (y ∷ ys) z f = cc

  nothing_behind : (b z : List ℕ) → [] ≡ b ++ 10 ∷ z → ⊥
  nothing_behind [] z f = cc
  nothing_behind (y ∷ b) z f = cc

  begins_marked : (m : Kept) (y z : List ℕ) (l : Line) → m.0 ≡ true → LineFits l → kept_line d m ++ y ≡ journal_line d l ++ z → ⊥
  begins_marked (true, n) y z l e h f = no_plus d names l z (journal_line d n ++ y) h (sym f)
  begins_marked (false, n) y z l e h f = cc

  -- behind a line feed of marked lines stands a mark
  no_plain : (k : Kept) (ks : List Kept) (x z : List ℕ) (l : Line) → All (KeptFits true) (k ∷ ks) → Marked ks → LineFits l → kept_text d (k ∷ ks) ≡ x ++ 10 ∷ (journal_line d l ++ z) → ⊥
  no_plain k [] x z l fits marked h e =
      elim (cut_before 10 (kept_front k) [] x (journal_line d l ++ z) (front_line k (All-head (KeptFits true) k [] fits).line) (sym (front_feed k []) ∙ e)) [
        | inl p ↦ nothing_begins (journal_line_text d l) z p.1
        | inr p ↦ nothing_behind p.0 (journal_line d l ++ z) p.2
      ]
  no_plain k (m ∷ ms) x z l fits marked h e =
      elim (cut_before 10 (kept_front k) (kept_text d (m ∷ ms)) x (journal_line d l ++ z) (front_line k (All-head (KeptFits true) k (m ∷ ms) fits).line) (sym (front_feed k (kept_text d (m ∷ ms))) ∙ e)) [
        | inl p ↦ begins_marked m (kept_text d ms) z l marked.0 h p.1
        | inr p ↦ no_plain m ms p.0 z l (All-tail (KeptFits true) k (m ∷ ms) fits) marked.1 h p.2
      ]

  -- an undeclared line is none of those that are written
  not_undeclared : (k : Kept) (m : Bool) (line y z : List ℕ) → KeptFits true k → IsUndeclared d line → HasNone 10 line → kept_line d k ++ z ≡ mark m ++ (line ++ 10 ∷ y) → ⊥
  not_undeclared (true, l) true line y z h u clean e =
      undeclared_apart d names line l h.line (sym (cut_once 10 (journal_line_text d l) line z y (record_is_line d names.each l h.line) clean (sym (append_assoc (journal_line_text d l) (10 ∷ []) z) ∙ tail_one e)).0) u
  not_undeclared (false, l) false line y z h u clean e =
      undeclared_apart d names line l h.line (sym (cut_once 10 (journal_line_text d l) line z y (record_is_line d names.each l h.line) clean (sym (append_assoc (journal_line_text d l) (10 ∷ []) z) ∙ e)).0) u
  not_undeclared (true, l) false line y z h u clean e = undeclared_no_plus d names (line ++ 10 ∷ y) (journal_line d l ++ z) (sym e) (line, y, u, refl)
  not_undeclared (false, l) true line y z h u clean e = no_plus d names l z (line ++ 10 ∷ y) h.line e

  -- where a text of lines was left without its first one, no line is left
  torn_first : (k : Kept) (ks : List Kept) (t : List ℕ) → All (KeptFits true) (k ∷ ks) → Marked ks → IsImage (kept_text d (k ∷ ks)) t → ((y : List ℕ) → t ≢ kept_line d k ++ y) → IsTornEnd d true t
  torn_first k ks t fits marked image none = record {
    first = λ m after h e. (
        let p = image_same (kept_text d (k ∷ ks)) (kept_line d m) after (kept_clean d names true m h) (subst (IsImage (kept_text d (k ∷ ks))) e image) in
        let q = one_whole d names true k m (kept_text d ks) p.0 (All-head (KeptFits true) k ks fits) h p.1 in
        none after (e ∙ ap (λ x. kept_line d x ++ after) (sym q.0)));
    declared = λ u. (
        let line = u.first.0 in
        let spelled : t ≡ (mark u.marked ++ (line ++ 10 ∷ [])) ++ u.first.1 = u.parts ∙ ap (λ x. mark u.marked ++ x) (u.first.3 ∙ sym (append_assoc line (10 ∷ []) u.first.1)) ∙ sym (append_assoc (mark u.marked) (line ++ 10 ∷ []) u.first.1) in
        let p = image_same (kept_text d (k ∷ ks)) (mark u.marked ++ (line ++ 10 ∷ [])) u.first.1 (undeclared_clean d names u.marked line u.first.2) (subst (IsImage (kept_text d (k ∷ ks))) spelled image) in
        let whole : kept_line d k ++ kept_text d ks ≡ mark u.marked ++ (line ++ 10 ∷ p.0) = p.1 ∙ append_assoc (mark u.marked) (line ++ 10 ∷ []) p.0 ∙ ap (λ x. mark u.marked ++ x) (append_assoc line (10 ∷ []) p.0) in
        not_undeclared k u.marked line p.0 (kept_text d ks) (All-head (KeptFits true) k ks fits) u.first.2 (undeclared_is_line d names line u.first.2) whole);
    behind = λ b. (
        let p = image_split (kept_text d (k ∷ ks)) b.before (10 ∷ (journal_line d b.line ++ b.after)) (subst (IsImage (kept_text d (k ∷ ks))) b.parts image) in
        let q = image_same p.1 (10 ∷ journal_line d b.line) b.after ((λ e. omega (arith, e)), line_clean d names b.line b.fits) p.3 in
        no_plain k ks p.0 q.0 b.line fits marked b.fits (p.2 ∙ ap (λ x. p.0 ++ x) q.1));
  }

  -- nothing left is a torn end
  pub nothing_torn : IsTornEnd d true []
  nothing_torn = record {
    first = λ k after h e. starts_some (mark k.0) (journal_line_text d k.1) after e;
    declared = λ u. undeclared_some (mark u.marked) u.behind u.first.0 u.first.1 u.parts u.first.3;
    behind = λ b. before_some b.before (journal_line d b.line ++ b.after) b.parts;
  }
    where
      before_some : (x y : List ℕ) → [] ≡ x ++ 10 ∷ y → ⊥
      before_some [] y e = cc
      before_some (b ∷ x) y e = cc

      starts_some : (m x y : List ℕ) → [] ≡ (m ++ (x ++ 10 ∷ [])) ++ y → ⊥
      starts_some [] x y e = before_some x y (e ∙ append_assoc x (10 ∷ []) y)
      starts_some (b ∷ m) x y e = cc

      undeclared_some : (m behind line after : List ℕ) → [] ≡ m ++ behind → behind ≡ line ++ 10 ∷ after → ⊥
      undeclared_some [] behind line after e f = before_some line after (e ∙ f)
      undeclared_some (b ∷ m) behind line after e f = cc

  -- the lines that a crash has left of these
  pub record SomeLines (ks : List Kept) (t : List ℕ) : Type 0 where
    pub count : ℕ
    pub few : count ≤ length ks
    pub rest : List ℕ
    pub parts : t ≡ kept_text d (take count ks) ++ rest
    pub torn : IsTornEnd d true rest

  empty_image : (t : List ℕ) → IsImage [] t → t ≡ []
  empty_image [] i = refl
  empty_image (b ∷ t) i = absurd i

  marked_tail : (ks : List Kept) → Marked ks → AreMarked ks
  marked_tail [] h = tt
  marked_tail (k ∷ ks) h = h.1

  pub some_lines : (ks : List Kept) (t : List ℕ) → All (KeptFits true) ks → AreMarked ks → IsImage (kept_text d ks) t → SomeLines ks t
  some_lines [] t fits marked image = record { count = 0; few = omega arith; rest = []; parts = empty_image t image; torn = nothing_torn }
  some_lines (k ∷ ks) t fits marked image = elim (begins_or (kept_line d k) t) [
    | inl p ↦ (
        let behind = image_behind (kept_line d k) (kept_text d ks) p.0 (subst (IsImage (kept_text d (k ∷ ks))) p.1 image) in
        let q = some_lines ks p.0 (All-tail (KeptFits true) k ks fits) (marked_tail ks marked) behind in
        let few = q.few in
        record {
          count = suc q.count;
          few = omega (arith, few);
          rest = q.rest;
          parts = p.1 ∙ ap (λ x. kept_line d k ++ x) q.parts ∙ sym (append_assoc (kept_line d k) (kept_text d (take q.count ks)) q.rest);
          torn = q.torn;
        })
    | inr none ↦ record { count = 0; few = omega arith; rest = t; parts = refl; torn = torn_first k ks t fits marked image none }
  ]

  -- lines that were synced, and some of the fresh ones
  take_lines : (n : ℕ) (ks : List Kept) → lines_of (take n ks) ≡ take n (lines_of ks)
  take_lines zero ks = refl
  take_lines (suc n) [] = refl
  take_lines (suc n) (k ∷ ks) = ap (λ l. k.1 ∷ l) (take_lines n ks)

  take_fits : (n : ℕ) (ks : List Kept) → All (KeptFits true) ks → All (KeptFits true) (take n ks)
  take_fits zero ks h = All-nil (KeptFits true)
  take_fits (suc n) [] h = All-nil (KeptFits true)
  take_fits (suc n) (k ∷ ks) h = All-cons (KeptFits true) k (take n ks) (All-head (KeptFits true) k ks h) (take_fits n ks (All-tail (KeptFits true) k ks h))

  joined_fits : (ks ms : List Kept) (n : ℕ) → All (KeptFits true) (ks ++ ms) → All (KeptFits true) (ks ++ take n ms)
  joined_fits [] ms n h = take_fits n ms h
  joined_fits (k ∷ ks) ms n h = All-cons (KeptFits true) k (ks ++ take n ms) (All-head (KeptFits true) k (ks ++ ms) h) (joined_fits ks ms n (All-tail (KeptFits true) k (ks ++ ms) h))

  last_fits : (ks ms : List Kept) → All (KeptFits true) (ks ++ ms) → All (KeptFits true) ms
  last_fits [] ms h = h
  last_fits (k ∷ ks) ms h = last_fits ks ms (All-tail (KeptFits true) k (ks ++ ms) h)

  length_lines : (ks : List Kept) → length (lines_of ks) ≡ length ks
  length_lines [] = refl
  length_lines (k ∷ ks) = omega (arith, length_lines ks)

  pub has_some : (room : ℕ) (ks ms : List Kept) (synced fresh : List Line) (c : List ℕ) → IsRoom room → lines_of ks ≡ synced → lines_of ms ≡ fresh → All (KeptFits true) (ks ++ ms) → AreMarked ms → IsLeft d room ks ms c → HasSome d room synced fresh c
  has_some room ks ms synced fresh c is s f fits marked left =
      let q = some_lines ms left.0 (last_fits ks ms fits) marked left.2 in
      let front = front_of (Three room) in
      let some = ks ++ take q.count ms in
      let few = q.few in
      let n = length_lines ms in
      let m = ap length f in
      let body = kept_text d some ++ q.rest in
      let parts : c ≡ front ++ body =
      left.1 ∙ ap (λ x. (front ++ kept_text d ks) ++ x) q.parts
      ∙ append_assoc front (kept_text d ks) (kept_text d (take q.count ms) ++ q.rest)
      ∙ ap (λ x. front ++ x) (sym (append_assoc (kept_text d ks) (kept_text d (take q.count ms)) q.rest) ∙ ap (λ x. x ++ q.rest) (sym (flat_map-append (kept_line d) ks (take q.count ms)))) in
      let size : length c ≡ length front + (length (kept_text d some) + length q.rest) = ap length parts ∙ length_joined front body ∙ ap (λ x. length front + x) (length_joined (kept_text d some) q.rest) in (
        q.count,
        omega (arith, few, n, m),
        length front + length (kept_text d some),
        record {
          kept = some;
          rest = q.rest;
          cut = record {
            version_fits = is;
            no_head = λ e. cc;
            body = body;
            parts = parts;
            lines = record { fits = joined_fits ks ms q.count fits; parts = refl; torn = q.torn };
          };
          lines = map-append (λ (z : Kept). z.1) ks (take q.count ms) ∙ ap (λ x. x ++ lines_of (take q.count ms)) s ∙ ap (λ x. synced ++ x) (take_lines q.count ms ∙ ap (take q.count) f);
          counted = omega (arith, size);
        },
      )

  -- what is left is no longer than what was written
  left_short : (room : ℕ) (ks ms : List Kept) (c : List ℕ) → IsLeft d room ks ms c → length c ≤ length (front_of (Three room) ++ kept_text d (ks ++ ms))
  left_short room ks ms c left =
      let front = front_of (Three room) in
      let size = ap length left.1 ∙ length_joined (front ++ kept_text d ks) left.0 in
      let synced = length_joined front (kept_text d ks) in
      let all = length_joined front (kept_text d (ks ++ ms)) in
      let both = ap length (flat_map-append (kept_line d) ks ms) ∙ length_joined (kept_text d ks) (kept_text d ms) in
      let short = image_short (kept_text d ms) left.0 left.2 in
      omega (arith, size, synced, all, both, short)

  pub finds_some : (room : ℕ) (ks ms : List Kept) (synced fresh : List Line) (c : List ℕ) → IsRoom room → lines_of ks ≡ synced → lines_of ms ≡ fresh → All (KeptFits true) (ks ++ ms) → AreMarked ms → length (front_of (Three room) ++ kept_text d (ks ++ ms)) ≤ 134217728 → IsLeft d room ks ms c → FindsSome d room synced fresh c
  finds_some room ks ms synced fresh c is s f fits marked short left =
      let p = has_some room ks ms synced fresh c is s f fits marked left in
      let few = left_short room ks ms c left in
      (p.0, p.1, inr (p.2, p.3, omega (arith, few, short)))
