-- How far an input has been gone through, line by line, and that it is cut in one way.
use Rattle.std.proofs.Common.{◌≡◌, ◌≢◌, ℕ, ◌+◌, List, [], ◌∷◌, ◌++◌, length, take, refl, sym, ap, ◌∙◌, subst, append_assoc, arith, length-append}
use Rattle.std.proofs.lemmas.List.{append-nil}
use Rattle.std.proofs.Math.Seq.{take-append_seam}
use Rattle.path_fields.specs.Splits.{HasNone}
use Rattle.tell_base.specs.Inputs.{Cuts, at_mark, at_last_mark, past_line, past_last}
use Rattle.path_fields.proofs.CallerLemmas.{cut_once, cut_none}

pub record Passed (s : List ℕ) (at : ℕ) (rest : List ℕ) : Type 0 where
  pub front : List ℕ
  pub parts : s ≡ front ++ rest
  pub len : length front ≡ at
  pub cuts : (a b : List ℕ) → Cuts rest a b → Cuts s (front ++ a) b

pub passes : (s line rest after : List ℕ) (at end : ℕ) → rest ≡ line ++ 10 ∷ after → HasNone 10 line → line ≢ 37 ∷ [] → end ≡ at + (length line + 1) → Passed s at rest → Passed s end after
passes s line rest after at end e h other is p =
    let regroup : (x : List ℕ) → (p.front ++ (line ++ 10 ∷ [])) ++ x ≡ p.front ++ (line ++ 10 ∷ x) = λ x. simp append_assoc in
    record {
      front = p.front ++ (line ++ 10 ∷ []);
      parts = p.parts ∙ ap (λ x. p.front ++ x) e ∙ sym (regroup after);
      len = let n : length (p.front ++ (line ++ 10 ∷ [])) ≡ length p.front + (length line + 1) = simp length-append (omega arith) in n ∙ ap (λ x. x + (length line + 1)) p.len ∙ sym is;
      cuts = λ a b c. subst (λ x. Cuts s x b) (sym (regroup a)) (p.cuts (line ++ 10 ∷ a) b (subst (λ x. Cuts x (line ++ 10 ∷ a) b) (sym e) (past_line h other c)));
    }

front_is : (s rest : List ℕ) (at : ℕ) (p : Passed s at rest) → take at s ≡ p.front
front_is s rest at p = ap (λ n. take n s) (sym p.len) ∙ ap (λ x. take (length p.front) x) p.parts ∙ take-append_seam p.front rest

pub ends_at_mark : (s line rest after : List ℕ) (at : ℕ) → rest ≡ line ++ 10 ∷ after → line ≡ 37 ∷ [] → Passed s at rest → Cuts s (take at s) after
ends_at_mark s line rest after at e is p =
    let c : Cuts rest [] after = subst (λ x. Cuts x [] after) (sym (e ∙ ap (λ x. x ++ 10 ∷ after) is)) at_mark in
    subst (λ x. Cuts s x after) (append-nil p.front ∙ sym (front_is s rest at p)) (p.cuts [] after c)

pub ends_at_last : (s rest : List ℕ) (at : ℕ) → rest ≡ 37 ∷ [] → Passed s at rest → Cuts s (take at s) []
ends_at_last s rest at is p =
    let c : Cuts rest [] [] = subst (λ x. Cuts x [] []) (sym is) at_last_mark in
    subst (λ x. Cuts s x []) (append-nil p.front ∙ sym (front_is s rest at p)) (p.cuts [] [] c)

pub ends_past : (s rest : List ℕ) (at : ℕ) → HasNone 10 rest → rest ≢ 37 ∷ [] → Passed s at rest → Cuts s s []
ends_past s rest at h other p = subst (λ x. Cuts s x []) (sym p.parts) (p.cuts rest [] (past_last h other))

mark_none : HasNone 10 (37 ∷ [])
mark_none = (λ e. omega arith, tt)

pub cut_is_one : {s t a b a' b' : List ℕ} → Cuts s a b → Cuts t a' b' → s ≡ t → (a ≡ a') × (b ≡ b')
cut_is_one at_mark at_mark e = (refl, cc)
cut_is_one at_mark at_last_mark e = cc
cut_is_one (at_mark {after}) (past_line {line} {rest} {before} {after = after2} h other c) e = absurd (other (sym (cut_once 10 (37 ∷ []) line after rest mark_none h e).0))
cut_is_one (at_mark {after}) (past_last {line} h other) e = absurd (cut_none 10 (37 ∷ []) after (subst (λ x. HasNone 10 x) (sym e) h))
cut_is_one at_last_mark at_mark e = cc
cut_is_one at_last_mark at_last_mark e = (refl, refl)
cut_is_one at_last_mark (past_line {line} {rest} {before} {after = after2} h other c) e = absurd (cut_none 10 line rest (subst (λ x. HasNone 10 x) e mark_none))
cut_is_one at_last_mark (past_last {line} h other) e = absurd (other (sym e))
cut_is_one (past_line {line} {rest} {before} {after} h other c) (at_mark {after = after2}) e = absurd (other (cut_once 10 line (37 ∷ []) rest after2 h mark_none e).0)
cut_is_one (past_line {line} {rest} {before} {after} h other c) at_last_mark e = absurd (cut_none 10 line rest (subst (λ x. HasNone 10 x) (sym e) mark_none))
cut_is_one (past_line {line} {rest} {before} {after} h other c) (past_line {line = line2} {rest = rest2} {before = before2} {after = after2} h2 other2 c2) e =
    let p = cut_once 10 line line2 rest rest2 h h2 e in
    let q = cut_is_one c c2 p.1 in
    let first : line ≡ line2 = p.0 in
    let second : before ≡ before2 = q.0 in
    (cc, q.1)
cut_is_one (past_line {line} {rest} {before} {after} h other c) (past_last {line = line2} h2 other2) e = absurd (cut_none 10 line rest (subst (λ x. HasNone 10 x) (sym e) h2))
cut_is_one (past_last {line} h other) (at_mark {after}) e = absurd (cut_none 10 (37 ∷ []) after (subst (λ x. HasNone 10 x) e h))
cut_is_one (past_last {line} h other) at_last_mark e = absurd (other e)
cut_is_one (past_last {line} h other) (past_line {line = line2} {rest = rest2} {before = before2} {after = after2} h2 other2 c) e = absurd (cut_none 10 line2 rest2 (subst (λ x. HasNone 10 x) e h))
cut_is_one (past_last {line} h other) (past_last {line = line2} h2 other2) e = (e, refl)

-- any other cut is this one
pub only_cut : {s a b : List ℕ} → Cuts s a b → (a' b' : List ℕ) → Cuts s a' b' → (a' ≡ a) × (b' ≡ b)
only_cut c a' b' c' = cut_is_one c' c refl
