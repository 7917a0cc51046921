-- Texts of lines of any kind: how far one was read, that a faulty line refutes it, and that it has one reading.
use Rattle.std.proofs.Common.{◌≡◌, ◌≢◌, ℕ, ◌+◌, ◌-◌, ◌<◌, ◌≤◌, List, [], ◌∷◌, ◌++◌, length, drop, ◌⊎◌, inl, inr, refl, sym, ap, ◌∙◌, subst, append_assoc, arith, length-append, length-drop, All}
use Rattle.std.specs.List.{flat_map}
use Rattle.std.proofs.Math.Seq.{drop-append_seam}
use Rattle.std.proofs.lemmas.List.{append-nil, append_cancel_right, drop_all}
use Rattle.std.proofs.lemmas.List.Elements.{All-push, All-nil, All-head, All-tail}
use Rattle.std.proofs.lemmas.Grind.{flat_map-append}
use Rattle.path_fields.specs.Splits.{HasNone}
use Rattle.path_fields.proofs.CallerLemmas.{cut_once, cut_none}
use Rattle.path_lines.specs.AttemptTexts.{IsFirstLine}

-- what a step leaves of a text behind its first line
behind_last : (n : ℕ) (line rest : List ℕ) → rest ≡ line → n ≡ length line → drop (n + 1) rest ≡ []
behind_last n line rest e is = drop_all (n + 1) rest (let k : length rest ≡ length line = ap length e in omega (arith, k, is))

behind_line : (n : ℕ) (line rest more : List ℕ) → rest ≡ line ++ 10 ∷ more → n ≡ length line → drop (n + 1) rest ≡ more
behind_line n line rest more e is =
    let regroup : line ++ 10 ∷ more ≡ (line ++ 10 ∷ []) ++ more = sym (append_assoc line (10 ∷ []) more) in
    let count : n + 1 ≡ length (line ++ 10 ∷ []) = let k = length-append line (10 ∷ []) in omega (arith, k, is) in
    ap (λ k. drop k rest) count ∙ ap (drop (length (line ++ 10 ∷ []))) (e ∙ regroup) ∙ drop-append_seam (line ++ 10 ∷ []) more

nonempty_length : (rest : List ℕ) → rest ≢ [] → 0 < length rest
nonempty_length [] some = absurd (some refl)
nonempty_length (b ∷ bs) some = omega arith

nonempty_line : (line rest : List ℕ) → line ++ 10 ∷ rest ≡ [] → ⊥
nonempty_line [] rest e = cc
nonempty_line (x ∷ line) rest e = cc

feed_alone : (line rest : List ℕ) → line ≢ [] → 10 ∷ [] ≡ line ++ 10 ∷ rest → ⊥
feed_alone [] rest some e = some refl
feed_alone (x ∷ []) rest some e = cc
feed_alone (x ∷ y ∷ line) rest some e = cc

module _ (E : Type 0) (line_of : E → List ℕ) (Fits : E → Type 0) where
  -- a line and its line feed
  abbrev pub with_feed : E → List ℕ
  with_feed e = line_of e ++ 10 ∷ []

  -- the lines of all of them, in order
  abbrev pub text_of : List E → List ℕ
  text_of es = flat_map with_feed es

  -- the text has these lines; the last line feed may be missing
  abbrev pub Spells : List ℕ → List E → Type 0
  Spells text es = (text ≡ text_of es) ⊎ (text ++ 10 ∷ [] ≡ text_of es)

  -- how far a text was read: the last line may have had no line feed
  pub record ReadLines (text : List ℕ) (es : List E) (rest : List ℕ) : Type 0 where
    pub few : length es + length rest ≤ length text
    pub fits : All Fits es
    pub parts : (text ≡ text_of es ++ rest) ⊎ ((rest ≡ []) × (text ++ 10 ∷ [] ≡ text_of es))

  pub lines_none : (text : List ℕ) (es : List E) → es ≡ [] → ReadLines text es text
  lines_none text es e = record {
    few = let n : length es ≡ 0 = ap length e in omega arith;
    fits = subst (All Fits) (sym e) (All-nil Fits);
    parts = inl (ap (λ x. text_of x ++ text) (sym e));
  }

  push : (es : List E) (e : E) → text_of (es ++ e ∷ []) ≡ text_of es ++ with_feed e
  push es e = flat_map-append with_feed es (e ∷ []) ∙ ap (λ x. text_of es ++ x) (append-nil (with_feed e))

  more_parts : (text rest after : List ℕ) (es : List E) (e : E) (n : ℕ) → IsFirstLine (line_of e) rest → n ≡ length (line_of e) → after ≡ drop (n + 1) rest → text ≡ text_of es ++ rest
      → (text ≡ text_of (es ++ e ∷ []) ++ after) ⊎ ((after ≡ []) × (text ++ 10 ∷ [] ≡ text_of (es ++ e ∷ [])))
  more_parts text rest after es e n (none, inl is) count left parts =
      let spelled : text ++ 10 ∷ [] ≡ text_of es ++ with_feed e = ap (λ x. x ++ 10 ∷ []) (parts ∙ ap (λ x. text_of es ++ x) is) ∙ append_assoc (text_of es) (line_of e) (10 ∷ []) in
      inr (left ∙ behind_last n (line_of e) rest is count, spelled ∙ sym (push es e))
  more_parts text rest after es e n (none, inr (more, is)) count left parts =
      let regroup : text_of es ++ (line_of e ++ 10 ∷ more) ≡ (text_of es ++ with_feed e) ++ more = simp append_assoc in
      let same : more ≡ after = sym (left ∙ behind_line n (line_of e) rest more is count) in
      inl (parts ∙ ap (λ x. text_of es ++ x) is ∙ regroup ∙ ap (λ x. x ++ more) (sym (push es e)) ∙ ap (λ x. text_of (es ++ e ∷ []) ++ x) same)

  pub whole_parts : (text rest : List ℕ) (es : List E) → rest ≢ [] → ReadLines text es rest → text ≡ text_of es ++ rest
  whole_parts text rest es some r = elim r.parts [ inl parts ↦ parts | inr over ↦ absurd (some over.0) ]

  pub lines_more : (text rest after : List ℕ) (es fs : List E) (e : E) (n : ℕ) → rest ≢ [] → IsFirstLine (line_of e) rest → n ≡ length (line_of e) → after ≡ drop (n + 1) rest → Fits e → fs ≡ es ++ e ∷ []
      → ReadLines text es rest → ReadLines text fs after
  lines_more text rest after es fs e n some first count left fit more r =
      let longer : length fs ≡ length es + 1 = ap length more ∙ length-append es (e ∷ []) in
      let shorter : length after ≡ length rest - (n + 1) = ap length left ∙ length-drop (n + 1) rest in
      let positive : 0 < length rest = nonempty_length rest some in
      let parts = more_parts text rest after es e n first count left (whole_parts text rest es some r) in
      record {
        few = let few = r.few in omega (arith, few, longer, shorter, positive);
        fits = subst (All Fits) (sym more) (All-push Fits es e r.fits fit);
        parts = subst (λ x. (text ≡ text_of x ++ after) ⊎ ((after ≡ []) × (text ++ 10 ∷ [] ≡ text_of x))) (sym more) parts;
      }

  pub all_read : (text rest : List ℕ) (es : List E) → rest ≡ [] → ReadLines text es rest → Spells text es
  all_read text rest es none r = elim r.parts [ inl parts ↦ inl (parts ∙ ap (λ x. text_of es ++ x) none ∙ append-nil (text_of es)) | inr over ↦ inr over.1 ]

  pub first_of_text : (e : E) (es : List E) → text_of (e ∷ es) ≡ line_of e ++ 10 ∷ text_of es
  first_of_text e es = append_assoc (line_of e) (10 ∷ []) (text_of es)

  -- lines end with a line feed
  pub ends_in_feed : (e : E) (es : List E) → (x : List ℕ) × (text_of (e ∷ es) ≡ x ++ 10 ∷ [])
  ends_in_feed e [] = (line_of e, first_of_text e [])
  ends_in_feed e (f ∷ es) =
      let p = ends_in_feed f es in
      (line_of e ++ 10 ∷ p.0, first_of_text e (f ∷ es) ∙ ap (λ x. line_of e ++ 10 ∷ x) p.1 ∙ sym (append_assoc (line_of e) (10 ∷ p.0) (10 ∷ [])))

  module _ (clean : (e : E) → Fits e → HasNone 10 (line_of e)) where
    -- a text that begins with a line is cut behind it as its lines are
    spells_cut : (line rest : List ℕ) (es : List E) → All Fits es → HasNone 10 line → Spells (line ++ 10 ∷ rest) es → (e : E) × (fs : List E) × (es ≡ e ∷ fs) × (line ≡ line_of e) × Spells rest fs
    spells_cut line rest [] fits h (inl e) = absurd (nonempty_line line rest e)
    spells_cut line rest [] fits h (inr e) = absurd (nonempty_line line (rest ++ 10 ∷ []) (sym (append_assoc line (10 ∷ rest) (10 ∷ [])) ∙ e))
    spells_cut line rest (e ∷ fs) fits h (inl is) =
        let p = cut_once 10 line (line_of e) rest (text_of fs) h (clean e (All-head Fits e fs fits)) (is ∙ first_of_text e fs) in
        (e, fs, refl, p.0, inl p.1)
    spells_cut line rest (e ∷ fs) fits h (inr is) =
        let p = cut_once 10 line (line_of e) (rest ++ 10 ∷ []) (text_of fs) h (clean e (All-head Fits e fs fits)) (sym (append_assoc line (10 ∷ rest) (10 ∷ [])) ∙ is ∙ first_of_text e fs) in
        (e, fs, refl, p.0, inr p.1)

    -- a last line without its line feed
    spells_last : (line : List ℕ) (es : List E) → All Fits es → line ≢ [] → HasNone 10 line → Spells line es → (e : E) × (fs : List E) × (es ≡ e ∷ fs) × (line ≡ line_of e)
    spells_last line [] fits more h (inl e) = absurd (more e)
    spells_last line [] fits more h (inr e) = absurd (nonempty_line line [] e)
    spells_last line (e ∷ fs) fits more h (inl is) = absurd (cut_none 10 (line_of e) (text_of fs) (subst (HasNone 10) (is ∙ first_of_text e fs) h))
    spells_last line (e ∷ fs) fits more h (inr is) =
        let p = cut_once 10 line (line_of e) [] (text_of fs) h (clean e (All-head Fits e fs fits)) (is ∙ first_of_text e fs) in
        (e, fs, refl, p.0)

    line_at : (line : List ℕ) (es : List E) (e : E) (fs : List E) → ((e : E) → Fits e → line ≢ line_of e) → es ≡ e ∷ fs → line ≡ line_of e → All Fits es → ⊥
    line_at line es e fs none is spelled fits = none e (All-head Fits e fs (subst (All Fits) is fits)) spelled

    -- where a line is none, nothing spells the text
    pub refuted : (before : List E) (rest line : List ℕ) (es : List E) → All Fits before → All Fits es → rest ≢ [] → IsFirstLine line rest → ((e : E) → Fits e → line ≢ line_of e) → Spells (text_of before ++ rest) es → ⊥
    refuted [] rest line es fb fe more (h, inl is) none sp =
        let p = spells_last line es fe (λ e. more (is ∙ e)) h (subst (λ x. Spells x es) is sp) in
        line_at line es p.0 p.1 none p.2 p.3 fe
    refuted [] rest line es fb fe more (h, inr (left, is)) none sp =
        let p = spells_cut line left es fe h (subst (λ x. Spells x es) is sp) in
        line_at line es p.0 p.1 none p.2 p.3 fe
    refuted (b ∷ bs) rest line es fb fe more first none sp =
        let regroup : text_of (b ∷ bs) ++ rest ≡ line_of b ++ 10 ∷ (text_of bs ++ rest) = simp append_assoc in
        let p = spells_cut (line_of b) (text_of bs ++ rest) es fe (clean b (All-head Fits b bs fb)) (subst (λ x. Spells x es) regroup sp) in
        refuted bs rest line p.1 (All-tail Fits b bs fb) (All-tail Fits p.0 p.1 (subst (All Fits) p.2 fe)) more first none p.4

    module _ (some : (e : E) → line_of e ≢ []) (once : (e f : E) → Fits e → Fits f → line_of e ≡ line_of f → e ≡ f) where
      -- an empty text has no lines
      pub nothing_spelled : (es : List E) → Spells [] es → es ≡ []
      nothing_spelled [] s = refl
      nothing_spelled (e ∷ es) (inl s) = absurd (nonempty_line (line_of e) (text_of es) (sym (s ∙ first_of_text e es)))
      nothing_spelled (e ∷ es) (inr s) = absurd (feed_alone (line_of e) (text_of es) (some e) (s ∙ first_of_text e es))

      -- one line without its line feed has one reading
      last_once : (e : E) (fs : List E) → Fits e → All Fits fs → Spells (line_of e) fs → e ∷ [] ≡ fs
      last_once e [] h k (inl s) = absurd (some e s)
      last_once e [] h k (inr s) = absurd (nonempty_line (line_of e) [] s)
      last_once e (f ∷ fs) h k (inl s) = absurd (cut_none 10 (line_of f) (text_of fs) (subst (HasNone 10) (s ∙ first_of_text f fs) (clean e h)))
      last_once e (f ∷ fs) h k (inr s) =
          let fit = All-head Fits f fs k in
          let p = cut_once 10 (line_of e) (line_of f) [] (text_of fs) (clean e h) (clean f fit) (s ∙ first_of_text f fs) in
          let none : fs ≡ [] = nothing_spelled fs (inl p.1) in
          let same : e ≡ f = once e f h fit p.0 in
          cc

      -- a text has one reading
      pub spells_once : (es fs : List E) (text : List ℕ) → All Fits es → All Fits fs → Spells text es → Spells text fs → es ≡ fs
      spells_once [] fs text h k (inl s) t = sym (nothing_spelled fs (subst (λ x. Spells x fs) s t))
      spells_once [] fs text h k (inr s) t = absurd (nonempty_line text [] s)
      spells_once (e ∷ es) fs text h k (inl s) t =
          let fit = All-head Fits e es h in
          let p = spells_cut (line_of e) (text_of es) fs k (clean e fit) (subst (λ x. Spells x fs) (s ∙ first_of_text e es) t) in
          let fits : All Fits (p.0 ∷ p.1) = subst (All Fits) p.2 k in
          let same : e ≡ p.0 = once e p.0 fit (All-head Fits p.0 p.1 fits) p.3 in
          let rest : es ≡ p.1 = spells_once es p.1 (text_of es) (All-tail Fits e es h) (All-tail Fits p.0 p.1 fits) (inl refl) p.4 in
          let is = p.2 in cc
      spells_once (e ∷ []) fs text h k (inr s) t =
          let fit = All-head Fits e [] h in
          let is : text ≡ line_of e = append_cancel_right text (line_of e) (10 ∷ []) (s ∙ first_of_text e []) in
          last_once e fs fit k (subst (λ x. Spells x fs) is t)
      spells_once (e ∷ (g ∷ es)) fs text h k (inr s) t =
          let fit = All-head Fits e (g ∷ es) h in
          let q = ends_in_feed g es in
          let regroup : line_of e ++ 10 ∷ (q.0 ++ 10 ∷ []) ≡ (line_of e ++ 10 ∷ q.0) ++ 10 ∷ [] = sym (append_assoc (line_of e) (10 ∷ q.0) (10 ∷ [])) in
          let cut : text ≡ line_of e ++ 10 ∷ q.0 = append_cancel_right text (line_of e ++ 10 ∷ q.0) (10 ∷ []) (s ∙ first_of_text e (g ∷ es) ∙ ap (λ x. line_of e ++ 10 ∷ x) q.1 ∙ regroup) in
          let p = spells_cut (line_of e) q.0 fs k (clean e fit) (subst (λ x. Spells x fs) cut t) in
          let fits : All Fits (p.0 ∷ p.1) = subst (All Fits) p.2 k in
          let same : e ≡ p.0 = once e p.0 fit (All-head Fits p.0 p.1 fits) p.3 in
          let rest : g ∷ es ≡ p.1 = spells_once (g ∷ es) p.1 q.0 (All-tail Fits e (g ∷ es) h) (All-tail Fits p.0 p.1 fits) (inr (sym q.1)) p.4 in
          let is = p.2 in cc
