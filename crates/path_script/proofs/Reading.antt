-- How far a text was read, line by line, and that lines are read in one way.
use Rattle.std.proofs.Common.{◌≡◌, ◌≢◌, ℕ, ◌+◌, List, [], ◌∷◌, ◌++◌, length, drop, inl, inr, refl, sym, ap, ◌∙◌, subst, append_assoc, All}
use Rattle.std.proofs.lemmas.List.{append-nil, append_cancel_right}
use Rattle.std.proofs.lemmas.List.Elements.{All-head, All-tail}
use Rattle.std.proofs.lemmas.Grind.{flat_map-append}
use Rattle.path_lines.specs.AttemptTexts.{IsFirstLine}
use Rattle.path_fields.specs.Splits.{HasNone}
use Rattle.path_fields.proofs.CallerLemmas.{cut_once, cut_none, until_once}
use Rattle.path_lines.proofs.CallerLemmas.{ends_first, Spells, lines_none, lines_more, ends_in_feed, nothing_spelled}
use Rattle.path_script.specs.ScriptLines.{ScriptLine, line_text, LineFits, lines_text, Reads}
use Rattle.path_script.proofs.LineLemmas.{line_clean, line_some, line_once}

-- nothing was read
pub reads_none : (text : List ℕ) → Reads text [] text
reads_none text = inl refl

-- the first line was read
pub reads_first : (rest after : List ℕ) (l : ScriptLine) (n : ℕ) → rest ≢ [] → LineFits l → IsFirstLine (line_text l) rest → n ≡ length (line_text l) → after ≡ drop (n + 1) rest → Reads rest (l ∷ []) after
reads_first rest after l n some fit first count left =
    (lines_more ScriptLine line_text LineFits rest rest after [] (l ∷ []) l n some first count left fit refl (lines_none ScriptLine line_text LineFits rest [] refl)).parts

joined : (ls ms : List ScriptLine) → lines_text (ls ++ ms) ≡ lines_text ls ++ lines_text ms
joined ls ms = flat_map-append (λ l. line_text l ++ 10 ∷ []) ls ms

no_lines : (ls : List ScriptLine) → Spells ScriptLine line_text LineFits [] ls → ls ≡ []
no_lines ls s = nothing_spelled ScriptLine line_text LineFits line_clean line_some line_once ls s

split_nil : (xs ys : List ℕ) → [] ≡ xs ++ ys → (xs ≡ []) × (ys ≡ [])
split_nil [] ys e = (refl, sym e)
split_nil (x ∷ xs) ys e = cc

-- behind a text's end nothing is read
reads_nothing : (ls : List ScriptLine) (after : List ℕ) → Reads [] ls after → (ls ≡ []) × (after ≡ [])
reads_nothing ls after (inl e) = let p = split_nil (lines_text ls) after e in (no_lines ls (inl (sym p.0)), p.1)
reads_nothing ls after (inr (none, e)) = (no_lines ls (inr e), none)

-- more lines were read behind some
pub reads_joined : (text rest after : List ℕ) (ls ms : List ScriptLine) → Reads text ls rest → Reads rest ms after → Reads text (ls ++ ms) after
reads_joined text rest after ls ms (inl e) (inl f) =
    inl (e ∙ ap (λ x. lines_text ls ++ x) f ∙ sym (append_assoc (lines_text ls) (lines_text ms) after) ∙ ap (λ x. x ++ after) (sym (joined ls ms)))
reads_joined text rest after ls ms (inl e) (inr (none, f)) =
    inr (none, ap (λ x. x ++ 10 ∷ []) e ∙ append_assoc (lines_text ls) rest (10 ∷ []) ∙ ap (λ x. lines_text ls ++ x) f ∙ sym (joined ls ms))
reads_joined text rest after ls ms (inr (none, e)) r =
    let p = reads_nothing ms after (subst (λ x. Reads x ms after) none r) in
    inr (p.1, e ∙ ap lines_text (sym (append-nil ls) ∙ ap (λ x. ls ++ x) (sym p.0)))

-- a text of a first line: behind its line feed the others are read, or there is no line feed and nothing else
data Opened (text : List ℕ) (l : ScriptLine) (ls : List ScriptLine) (rest : List ℕ) : Type 0 where
  goes_on : (left : List ℕ) → text ≡ line_text l ++ 10 ∷ left → Reads left ls rest → Opened text l ls rest
  stops : text ≡ line_text l → ls ≡ [] → rest ≡ [] → Opened text l ls rest

opened : (text : List ℕ) (l : ScriptLine) (ls : List ScriptLine) (rest : List ℕ) → Reads text (l ∷ ls) rest → Opened text l ls rest
opened text l ls rest (inl e) = goes_on (lines_text ls ++ rest) (e ∙ append_assoc (line_text l ++ 10 ∷ []) (lines_text ls) rest ∙ append_assoc (line_text l) (10 ∷ []) (lines_text ls ++ rest)) (inl refl)
opened text l [] rest (inr (none, e)) = stops (append_cancel_right text (line_text l) (10 ∷ []) (e ∙ append-nil (line_text l ++ 10 ∷ []))) refl none
opened text l (m ∷ ls) rest (inr (none, e)) =
    let q = ends_in_feed ScriptLine line_text LineFits m ls in
    let regroup : line_text l ++ 10 ∷ (q.0 ++ 10 ∷ []) ≡ (line_text l ++ 10 ∷ q.0) ++ 10 ∷ [] = sym (append_assoc (line_text l) (10 ∷ q.0) (10 ∷ [])) in
    let whole : text ++ 10 ∷ [] ≡ (line_text l ++ 10 ∷ q.0) ++ 10 ∷ [] = e ∙ append_assoc (line_text l) (10 ∷ []) (lines_text (m ∷ ls)) ∙ ap (λ x. line_text l ++ 10 ∷ x) q.1 ∙ regroup in
    goes_on q.0 (append_cancel_right text (line_text l ++ 10 ∷ q.0) (10 ∷ []) whole) (inr (none, sym q.1))

-- two readings of a text: one goes further than the other, or they are the same
pub data Compared (ls ms : List ScriptLine) (rest left : List ℕ) : Type 0 where
  ahead : (l : ScriptLine) (more : List ScriptLine) → ms ≡ ls ++ l ∷ more → rest ≢ [] → LineFits l → IsFirstLine (line_text l) rest → Compared ls ms rest left
  level : ls ≡ ms → rest ≡ left → Compared ls ms rest left
  behind : (l : ScriptLine) (more : List ScriptLine) → ls ≡ ms ++ l ∷ more → left ≢ [] → LineFits l → IsFirstLine (line_text l) left → Compared ls ms rest left

further : (l : ScriptLine) (ls ms : List ScriptLine) (rest left : List ℕ) → Compared ls ms rest left → Compared (l ∷ ls) (l ∷ ms) rest left
further l ls ms rest left (ahead x more e some fit first) = ahead x more (ap (λ y. l ∷ y) e) some fit first
further l ls ms rest left (level e f) = level (ap (λ y. l ∷ y) e) f
further l ls ms rest left (behind x more e some fit first) = behind x more (ap (λ y. l ∷ y) e) some fit first

filled : (line rest : List ℕ) → line ++ 10 ∷ rest ≢ []
filled [] rest e = cc
filled (b ∷ bs) rest e = cc

-- the first of some lines is the first line
opened_first : (text rest : List ℕ) (l : ScriptLine) (ls : List ScriptLine) → LineFits l → Opened text l ls rest → (text ≢ []) × IsFirstLine (line_text l) text
opened_first text rest l ls fit (goes_on left e r) = (λ none. filled (line_text l) left (sym e ∙ none), (line_clean l fit, inr (left, e)))
opened_first text rest l ls fit (stops e none end) = (λ empty. line_some l (sym e ∙ empty), (line_clean l fit, inl e))

unread : (text rest : List ℕ) → Reads text [] rest → text ≡ rest
unread text rest (inl e) = e
unread text rest (inr (none, e)) = absurd (fed text e)
  where
    fed : (text : List ℕ) → text ++ 10 ∷ [] ≢ []
    fed text e = filled text [] e

pub reads_compare : (text rest left : List ℕ) (ls ms : List ScriptLine) → All LineFits ls → All LineFits ms → Reads text ls rest → Reads text ms left → Compared ls ms rest left
reads_compare text rest left [] [] h k r s = level refl (sym (unread text rest r) ∙ unread text left s)
reads_compare text rest left [] (m ∷ ms) h k r s =
    let fit = All-head LineFits m ms k in
    let same : text ≡ rest = unread text rest r in
    let p = opened_first text left m ms fit (opened text m ms left s) in
    ahead m ms refl (λ none. p.0 (same ∙ none)) fit (subst (IsFirstLine (line_text m)) same p.1)
reads_compare text rest left (l ∷ ls) [] h k r s =
    let fit = All-head LineFits l ls h in
    let same : text ≡ left = unread text left s in
    let p = opened_first text rest l ls fit (opened text l ls rest r) in
    behind l ls refl (λ none. p.0 (same ∙ none)) fit (subst (IsFirstLine (line_text l)) same p.1)
reads_compare text rest left (l ∷ ls) (m ∷ ms) h k r s =
    both (λ a u v. reads_compare a rest left ls ms (All-tail LineFits l ls h) (All-tail LineFits m ms k) u v) (opened text l ls rest r) (opened text m ms left s)
  where
    hl : LineFits l
    hl = All-head LineFits l ls h

    hm : LineFits m
    hm = All-head LineFits m ms k

    alike : line_text l ≡ line_text m → Compared ls ms rest left → Compared (l ∷ ls) (m ∷ ms) rest left
    alike e c = subst (λ x. Compared (l ∷ ls) (x ∷ ms) rest left) (line_once l m hl hm e) (further l ls ms rest left c)

    both : ((a : List ℕ) → Reads a ls rest → Reads a ms left → Compared ls ms rest left) → Opened text l ls rest → Opened text m ms left → Compared (l ∷ ls) (m ∷ ms) rest left
    both again (goes_on a e r) (goes_on b f s) =
        let p = cut_once 10 (line_text l) (line_text m) a b (line_clean l hl) (line_clean m hm) (sym e ∙ f) in
        alike p.0 (again a r (subst (λ x. Reads x ms left) (sym p.1) s))
    both again (goes_on a e r) (stops f none end) = absurd (cut_none 10 (line_text l) a (subst (HasNone 10) (sym f ∙ e) (line_clean m hm)))
    both again (stops e none end) (goes_on b f s) = absurd (cut_none 10 (line_text m) b (subst (HasNone 10) (sym e ∙ f) (line_clean l hl)))
    both again (stops e none end) (stops f nothing done) = alike (sym e ∙ f) (level (none ∙ sym nothing) (end ∙ sym done))

-- a text has one first line
pub first_once : (line other rest : List ℕ) → IsFirstLine line rest → IsFirstLine other rest → line ≡ other
first_once line other rest h k =
    let p = ends_first line rest h in
    let q = ends_first other rest k in
    (until_once 10 line other p.0 q.0 h.0 k.0 p.1 q.1 (sym p.2 ∙ q.2)).0

-- a text is of one list of lines
pub reads_once : (text : List ℕ) (ls ms : List ScriptLine) → All LineFits ls → All LineFits ms → Reads text ls [] → Reads text ms [] → ls ≡ ms
reads_once text ls ms h k r s = same (reads_compare text [] [] ls ms h k r s)
  where
    same : Compared ls ms [] [] → ls ≡ ms
    same (ahead l more e some fit first) = absurd (some refl)
    same (level e f) = e
    same (behind l more e some fit first) = absurd (some refl)
