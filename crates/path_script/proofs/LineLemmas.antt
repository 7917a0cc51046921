-- Each line has one form, and no line feed.
use Rattle.std.proofs.Common.{◌≡◌, ◌≢◌, ℕ, List, [], ◌∷◌, ◌++◌, codes, refl, sym, ap, ◌∙◌, inl, subst, arith, rules}
use Rattle.std.proofs.lemmas.List.{append-nil}
use Rattle.path_model.specs.declared.journal.Verb.{Verb}
use Rattle.path_lex.specs.Names.{IsName}
use Rattle.path_lines.specs.LineTexts.{verb_text, VerbFits}
use Rattle.path_fields.specs.Splits.{HasNone, EndsAt}
use Rattle.path_fields.proofs.CallerLemmas.{cut_none, none_joined}
use Rattle.path_lines.proofs.CallerLemmas.{name_without, line_feed_outside, verb_clean, verb_once}
use Rattle.path_script.specs.ScriptLines.{ScriptLine, begins, enters, uses, leaves, ends, line_text, LineFits}

same_head : {x y : ℕ} {xs ys : List ℕ} → x ∷ xs ≡ y ∷ ys → x ≡ y
same_head e = cc

same_third : {a b c x y z : ℕ} {xs ys : List ℕ} → a ∷ b ∷ c ∷ xs ≡ x ∷ y ∷ z ∷ ys → c ≡ z
same_third e = cc

use_tail : {xs ys : List ℕ} → codes "use " ++ xs ≡ codes "use " ++ ys → xs ≡ ys
use_tail e = cc

enter_tail : {xs ys : List ℕ} → codes "enter " ++ xs ≡ codes "enter " ++ ys → xs ≡ ys
enter_tail e = cc

process_tail : {xs ys : List ℕ} → codes "process " ++ xs ≡ codes "process " ++ ys → xs ≡ ys
process_tail e = cc

no_short : {xs : List ℕ} → codes "end" ≡ codes "ent" ++ xs → ⊥
no_short e = let i = same_third e in omega arith

-- what begins as a use and has no verb behind it is no line
pub no_use : (line r : List ℕ) → line ≡ codes "use " ++ r → ((v : Verb) (rest : List ℕ) → VerbFits v → EndsAt 10 rest → r ≢ verb_text v ++ rest) → (l : ScriptLine) → LineFits l → line ≢ line_text l
no_use line r e none (uses v) fit i = none v [] fit tt (use_tail (sym e ∙ i) ∙ sym (append-nil (verb_text v)))
no_use line r e none l fit i = let h = same_head (sym e ∙ i) in omega (arith, h)

-- what begins with none of the words is no line
pub no_word : (line : List ℕ) → ((rest : List ℕ) → line ≢ codes "use" ++ 32 ∷ rest) → ((rest : List ℕ) → line ≢ codes "enter" ++ 32 ∷ rest) → ((rest : List ℕ) → line ≢ codes "process" ++ 32 ∷ rest)
    → ((rest : List ℕ) → EndsAt 10 rest → line ≢ codes "leave" ++ rest) → ((rest : List ℕ) → EndsAt 10 rest → line ≢ codes "end" ++ rest) → (l : ScriptLine) → LineFits l → line ≢ line_text l
no_word line used entered begun left ended (begins name) fit e = begun name e
no_word line used entered begun left ended (enters name) fit e = entered name e
no_word line used entered begun left ended (uses v) fit e = used (verb_text v) e
no_word line used entered begun left ended leaves fit e = left [] tt e
no_word line used entered begun left ended ends fit e = ended [] tt e

-- what stands at the end of a line is nothing
pub whole : (line front rest : List ℕ) → HasNone 10 line → line ≡ front ++ rest → EndsAt 10 rest → line ≡ front
whole line front [] clean e end = e ∙ append-nil front
whole line front (b ∷ bs) clean e end = absurd (cut_none 10 front bs (subst (HasNone 10) (e ∙ ap (λ k. front ++ k ∷ bs) end) clean))

process_clean : HasNone 10 (codes "process ")
process_clean = search rules

enter_clean : HasNone 10 (codes "enter ")
enter_clean = search rules

use_clean : HasNone 10 (codes "use ")
use_clean = search rules

name_clean : (name : List ℕ) → IsName name → HasNone 10 name
name_clean name is = name_without 10 name line_feed_outside is.word

-- a line has no line feed
pub line_clean : (l : ScriptLine) → LineFits l → HasNone 10 (line_text l)
line_clean (begins name) fit = none_joined 10 (codes "process ") name process_clean (name_clean name fit)
line_clean (enters name) fit = none_joined 10 (codes "enter ") name enter_clean (name_clean name fit)
line_clean (uses v) fit = none_joined 10 (codes "use ") (verb_text v) use_clean (verb_clean 10 (inl refl) v fit)
line_clean leaves fit = search rules
line_clean ends fit = search rules

-- no line is empty
pub line_some : (l : ScriptLine) → line_text l ≢ []
line_some (uses v) e = cc
line_some l e = cc

-- a text is that of one line
pub line_once : (l m : ScriptLine) → LineFits l → LineFits m → line_text l ≡ line_text m → l ≡ m
line_once (begins x) (begins y) h k e = ap begins (process_tail e)
line_once (enters x) (enters y) h k e = ap enters (enter_tail e)
line_once (enters x) ends h k e = absurd (no_short (sym e))
line_once (uses v) (uses w) h k e = ap uses (verb_once v w h k (use_tail e))
line_once leaves leaves h k e = refl
line_once ends (enters y) h k e = absurd (no_short e)
line_once ends ends h k e = refl
line_once l m h k e = let i = same_head e in absurd (omega (arith, i))
