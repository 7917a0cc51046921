-- Lines are passed one after the other, up to the line of a place.
use Rattle.std.proofs.Common.{◌≡◌, ℕ, ◌+◌, ◌<◌, ◌≤◌, List, [], ◌∷◌, ◌++◌, length, refl, sym, ap, ◌∙◌, subst, append_assoc, arith, length-append, Option, Some, None, IfNone, ◌⊎◌, inl, inr}
use Rattle.std.proofs.lemmas.List.{append-nil}
use Rattle.path_fields.specs.Splits.{HasNone, EndsAt}
use Rattle.path_fields.proofs.CallerLemmas.{cut_once, cut_none}
use Rattle.path_script.specs.declared.fault.ScriptFault.{ScriptFault}
use Rattle.path_script.specs.declared.fault.ScriptFault.TheVariants as scripts
use Rattle.tell_places.specs.declared.places.Spot.{Spot}
use Rattle.tell_places.specs.Places.{AreLines, none, more, IsBehind, IsSpot, IsSpotBehind, IsLineSpot, script_number}

lines_more : {n : ℕ} {front : List ℕ} (line : List ℕ) → AreLines n front → HasNone 10 line → AreLines (n + 1) (front ++ (line ++ 10 ∷ []))
lines_more line none one = more line one none
lines_more line (more {n} first {rest} h t) one =
    subst (AreLines (n + 1 + 1)) (sym (append_assoc first (10 ∷ rest) (line ++ 10 ∷ []))) (more first h (lines_more line t one))

lines_short : {n : ℕ} {front : List ℕ} → AreLines n front → n ≤ length front
lines_short none = omega arith
lines_short (more {n} first {rest} h t) =
    let k : n ≤ length rest = lines_short t in
    let e : length (first ++ 10 ∷ rest) ≡ length first + (length rest + 1) = simp length-append (omega arith) in
    omega arith

regroup : (front line rest : List ℕ) → (front ++ (line ++ 10 ∷ [])) ++ rest ≡ front ++ (line ++ 10 ∷ rest)
regroup front line rest = simp append_assoc

-- a text has no more lines than line feeds
no_more : {n m : ℕ} {a b : List ℕ} (r s : List ℕ) → AreLines n a → AreLines m b → n < m → HasNone 10 r → a ++ r ≡ b ++ s → ⊥
no_more r s none none less one e = omega arith
no_more r s none (more line {rest} h t) less one e =
    cut_none 10 line (rest ++ s) (subst (λ x. HasNone 10 x) (e ∙ append_assoc line (10 ∷ rest) s) one)
no_more r s (more line h t) none less one e = omega arith
no_more r s (more {n} line {rest} h t) (more {n = m} line2 {rest = rest2} h2 t2) less one e =
    let same : line ++ 10 ∷ (rest ++ r) ≡ line2 ++ 10 ∷ (rest2 ++ s) = sym (append_assoc line (10 ∷ rest) r) ∙ e ∙ append_assoc line2 (10 ∷ rest2) s in
    no_more r s t t2 (omega arith) one (cut_once 10 line line2 (rest ++ r) (rest2 ++ s) h h2 same).1

pub behind_none : (text : List ℕ) → IsBehind text 0 text
behind_none text = ([], none, refl)

pub behind_more : (text rest line after : List ℕ) (n next : ℕ) → IsBehind text n rest → rest ≡ line ++ 10 ∷ after → HasNone 10 line → next ≡ n + 1
    → IsBehind text next after
behind_more text rest line after n next b cuts one is = (
  b.0 ++ (line ++ 10 ∷ []),
  subst (λ k. AreLines k (b.0 ++ (line ++ 10 ∷ []))) (sym is) (lines_more line b.1 one),
  b.2 ∙ ap (λ x. b.0 ++ x) cuts ∙ sym (regroup b.0 line after),
)

pub behind_short : (text rest : List ℕ) (n m : ℕ) → IsBehind text n rest → HasNone 10 rest → n < m → (left : List ℕ) → IsBehind text m left → ⊥
behind_short text rest n m b one less left c = no_more rest left b.1 c.1 less one (sym b.2 ∙ c.2)

pub behind_few : (text rest : List ℕ) (n : ℕ) → IsBehind text n rest → n ≤ length text
behind_few text rest n b =
    let k : n ≤ length b.0 = lines_short b.1 in
    let e : length text ≡ length b.0 + length rest = ap length b.2 ∙ length-append b.0 rest in
    omega arith

-- some lines were passed, and the place is behind so many bytes of the rest
pub record Passed (text : List ℕ) (offset count : ℕ) (rest : List ℕ) (left : ℕ) : Type 0 where
  pub before : List ℕ
  pub lines : AreLines count before
  pub parts : text ≡ before ++ rest
  pub place : offset ≡ length before + left
  pub within : left ≤ length rest

pub passed_none : (text : List ℕ) (offset left : ℕ) → left ≡ offset → offset ≤ length text → Passed text offset 0 text left
passed_none text offset left is within =
    let place : offset ≡ 0 + left = omega arith in
    let fits : left ≤ length text = omega arith in
    record { before = []; lines = none; parts = refl; place = place; within = fits }

pub passed_few : (text : List ℕ) (offset count : ℕ) (rest : List ℕ) (left : ℕ) → Passed text offset count rest left → count ≤ length text
passed_few text offset count rest left p = behind_few text rest count (p.before, p.lines, p.parts)

pub passed_more : (text : List ℕ) (offset count next : ℕ) (rest line after : List ℕ) (left now : ℕ) → Passed text offset count rest left
    → rest ≡ line ++ 10 ∷ after → HasNone 10 line → length line < left → next ≡ count + 1 → now + (length line + 1) ≡ left → Passed text offset next after now
passed_more text offset count next rest line after left now p cuts one less is so =
    let n : length (p.before ++ (line ++ 10 ∷ [])) ≡ length p.before + (length line + 1) = simp length-append (omega arith) in
    let m : length rest ≡ length line + (length after + 1) = ap length cuts ∙ simp length-append (omega arith) in
    let place : offset ≡ length (p.before ++ (line ++ 10 ∷ [])) + now = omega (arith, n, p.place, so) in
    let within : now ≤ length after = omega (arith, m, p.within, so) in
    record {
      before = p.before ++ (line ++ 10 ∷ []);
      lines = subst (λ k. AreLines k (p.before ++ (line ++ 10 ∷ []))) (sym is) (lines_more line p.lines one);
      parts = p.parts ∙ ap (λ x. p.before ++ x) cuts ∙ sym (regroup p.before line after);
      place = place;
      within = within;
    }

-- the place is on the first line of the rest
pub spot_here : (text : List ℕ) (offset count : ℕ) (rest line after : List ℕ) (left number : ℕ) (bytes : List ℕ) (at : ℕ) → Passed text offset count rest left
    → rest ≡ line ++ after → HasNone 10 line → EndsAt 10 after → left ≤ length line → number ≡ count + 1 → bytes ≡ line → at ≡ left
    → IsSpot text offset number bytes at
spot_here text offset count rest line after left number bytes at p parts one ends within is same here =
    subst (λ x. IsSpot text offset number x at) (sym same)
    (subst (λ x. IsSpot text offset number line x) (sym here)
    (record {
      count = count;
      before = p.before;
      after = after;
      lines = p.lines;
      parts = p.parts ∙ ap (λ x. p.before ++ x) parts;
      one = one;
      ends = ends;
      place = p.place;
      within = within;
      numbered = is;
    }))

-- it is on the last line
pub spot_last : (text : List ℕ) (offset count : ℕ) (rest : List ℕ) (left number : ℕ) (bytes : List ℕ) (at : ℕ) → Passed text offset count rest left
    → HasNone 10 rest → number ≡ count + 1 → bytes ≡ rest → at ≡ left → IsSpot text offset number bytes at
spot_last text offset count rest left number bytes at p one is same here =
    spot_here text offset count rest rest [] left number bytes at p (sym (append-nil rest)) one tt p.within is same here

-- a place on the line behind so many others
pub spot_behind : (text rest line after : List ℕ) (n number : ℕ) (bytes : List ℕ) (at : ℕ) → IsBehind text n rest → rest ≡ line ++ after → HasNone 10 line
    → EndsAt 10 after → at ≤ length line → number ≡ n + 1 → bytes ≡ line → (offset : ℕ) × IsSpot text offset number bytes at
spot_behind text rest line after n number bytes at b parts one ends within is same = (
  length b.0 + at,
  subst (λ x. IsSpot text (length b.0 + at) number x at) (sym same)
      (record {
        count = n;
        before = b.0;
        after = after;
        lines = b.1;
        parts = b.2 ∙ ap (λ x. b.0 ++ x) parts;
        one = one;
        ends = ends;
        place = refl;
        within = within;
        numbered = is;
      }),
)

-- what holds anyway holds where there is nothing
pub if_none : {X : Type 0} (r : Option X) (P : Type 0) → P → IfNone r P
if_none None P p = p
if_none (Some x) P p = tt

-- the spot of a fault with this number
pub line_spot : (text : List ℕ) (o : Option ℕ) (n number : ℕ) (spot : Spot) → o ≡ Some n → number ≡ n → IsSpotBehind text number spot → IsLineSpot text o spot
line_spot text o n number spot is same h =
    subst (λ x. IsLineSpot text x spot) (sym is) (subst (λ x. IsSpotBehind text x spot) same h)

-- the same, of a number beside something else
pub line_spot_beside : {W : Type 0} (text : List ℕ) (o : Option ℕ) (n : ℕ) (other : W) (pair : ℕ × W) (spot : Spot) → o ≡ Some n → pair ≡ (n, other)
    → IsSpotBehind text pair.0 spot → IsLineSpot text o spot
line_spot_beside {W} text o n other pair spot is same h = line_spot text o n pair.0 spot is (ap (λ (x : ℕ × W). x.0) same) h

-- the spot of a fault of a script with this number
pub script_spot : (text : List ℕ) (f : ScriptFault) (n number : ℕ) (spot : Spot)
    → (f ≡ scripts.BadLine n) ⊎ (f ≡ scripts.Undeclared n) ⊎ (f ≡ scripts.Unbalanced n) ⊎ (f ≡ scripts.TooDeep n) ⊎ (f ≡ scripts.TooMany n)
    → number ≡ n → IsSpotBehind text number spot → IsLineSpot text (script_number f) spot
script_spot text f n number spot (inl e) same h = line_spot text _ n number spot (ap script_number e) same h
script_spot text f n number spot (inr (inl e)) same h = line_spot text _ n number spot (ap script_number e) same h
script_spot text f n number spot (inr (inr (inl e))) same h = line_spot text _ n number spot (ap script_number e) same h
script_spot text f n number spot (inr (inr (inr (inl e)))) same h = line_spot text _ n number spot (ap script_number e) same h
script_spot text f n number spot (inr (inr (inr (inr e)))) same h = line_spot text _ n number spot (ap script_number e) same h
