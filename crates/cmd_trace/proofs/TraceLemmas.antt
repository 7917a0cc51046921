-- How far the attempts have been read and stepped.
use Rattle.std.proofs.Common.{◌≡◌, ◌≢◌, ℕ, ◌+◌, ◌-◌, ◌<◌, ◌≤◌, List, [], ◌∷◌, ◌++◌, length, length-drop, take, drop, codes, All, ◌⊎◌, inl, inr, refl, sym, ap, ◌∙◌, subst, append_assoc, arith, length-append}
use Rattle.std.proofs.lemmas.List.{append-nil, drop_all, take_all}
use Rattle.std.proofs.Math.Seq.{drop-append-add, take-append_seam}
use Rattle.std.proofs.lemmas.List.Elements.{All-push, All-nil}
use Rattle.std.proofs.lemmas.Grind.{flat_map-append}
use Rattle.path_model.specs.declared.journal.Attempt.{Attempt}
use Rattle.path_model.specs.declared.journal.Reply.{Reply}
use Rattle.path_model.specs.declared.journal.Line.{Line}
use Rattle.path_model.specs.Declarations.{Declaration}
use Rattle.path_model.specs.Journals.{with_line}
use Rattle.path_model.specs.Segments.{joined, OwedBehind}
use Rattle.path_lines.specs.LineTexts.{line_text, reply_text}
use Rattle.path_lines.specs.AttemptTexts.{Entry, EntryFits, entry_line, entries_text, IsAttemptsText, IsFirstLine, IsNoRest}
use Rattle.path_system.specs.Accounts.{Account}
use Rattle.cmd_trace.specs.Traces.{Traced, at_end, answers, reply_line, IsAnswered, IsTraceBy}

-- the text goes on with this after these attempts; or it ended with them, and had no last line feed
abbrev pub GoesOn : Declaration → List ℕ → List Entry → List ℕ → Type 0
GoesOn d text done rest = (text ≡ entries_text d done ++ rest) ⊎ ((rest ≡ []) × (text ++ 10 ∷ [] ≡ entries_text d done))

-- the first attempts of a text were answered by these bytes, and only the journal and the counts of failures have changed
pub record AnswersSoFar (may_fail : Type 0) (start now : Account) (text rest bytes : List ℕ) (number : ℕ) : Type 0 where
  pub done : List Entry
  pub few : number + length rest ≤ length text
  pub fits : All EntryFits done
  pub parts : GoesOn start.declaration text done rest
  pub rest_stays : now ≡ record start { journal = now.journal; failures = now.failures }
  pub forth : (es : List Entry) (end : List Line) (bs : List ℕ) → Traced start.declaration start.room start.openings (joined start.earlier) may_fail now.journal es end bs → Traced start.declaration start.room start.openings (joined start.earlier) may_fail start.journal (done ++ es) end (bytes ++ bs)

-- a text has grown by a line, and by the reply to it with a line feed
pub grown_by : (old line more all reply : List ℕ) → more ≡ old ++ line → all ≡ more ++ (codes ": " ++ (reply ++ 10 ∷ []))
    → all ≡ old ++ ((line ++ (codes ": " ++ reply)) ++ 10 ∷ [])
grown_by old line more all reply a b = rw (b, a) (simp append_assoc refl)

pub answers_none : (may_fail : Type 0) (start : Account) (text bytes : List ℕ) → bytes ≡ [] → AnswersSoFar may_fail start start text text bytes 0
answers_none may_fail start text bytes none = record {
  done = [];
  few = omega arith;
  fits = All-nil EntryFits;
  parts = inl refl;
  rest_stays = refl;
  forth = λ es end bs t. subst (λ x. Traced start.declaration start.room start.openings (joined start.earlier) may_fail start.journal es end (x ++ bs)) (sym none) t;
}

owed_at : (a b : Account) (w : ℕ) (t : Attempt) (r : Reply) → a ≡ b
    → OwedBehind a.declaration a.room a.openings (joined a.earlier) a.journal w t r → OwedBehind b.declaration b.room b.openings (joined b.earlier) b.journal w t r
owed_at a b w t r e h = subst (λ x. OwedBehind x.declaration x.room x.openings (joined x.earlier) x.journal w t r) e h

-- one more attempt gets its reply
forth_more : (may_fail : Type 0) (start old new : Account) (done : List Entry) (e : Entry) (bytes line more : List ℕ) → line ≡ line_text start.declaration e.0 e.1 → IsAnswered may_fail old new e.0 e.1 line bytes more → old ≡ record start { journal = old.journal; failures = old.failures }
    → ((es : List Entry) (end : List Line) (bs : List ℕ) → Traced start.declaration start.room start.openings (joined start.earlier) may_fail old.journal es end bs → Traced start.declaration start.room start.openings (joined start.earlier) may_fail start.journal (done ++ es) end (bytes ++ bs))
    → (es : List Entry) (end : List Line) (bs : List ℕ) → Traced start.declaration start.room start.openings (joined start.earlier) may_fail new.journal es end bs → Traced start.declaration start.room start.openings (joined start.earlier) may_fail start.journal ((done ++ e ∷ []) ++ es) end (more ++ bs)
forth_more may_fail start old new done e bytes line more is one stays forth es end bs t =
    let j : new.journal ≡ with_line old.journal e.0 e.1 one.reply = ap (λ a. a.journal) one.stepped in
    let reply : List ℕ = reply_line start.declaration e.0 e.1 one.reply in
    let grown : more ≡ bytes ++ reply = one.grown ∙ ap (λ x. bytes ++ ((x ++ (codes ": " ++ reply_text one.reply)) ++ 10 ∷ [])) is in
    let next : Traced start.declaration start.room start.openings (joined start.earlier) may_fail (with_line old.journal e.0 e.1 one.reply) es end bs = subst (λ x. Traced start.declaration start.room start.openings (joined start.earlier) may_fail x es end bs) j t in
    let owed : OwedBehind start.declaration start.room start.openings (joined start.earlier) old.journal e.0 e.1 one.reply = owed_at old (record start { journal = old.journal; failures = old.failures }) e.0 e.1 one.reply stays one.owed in
    let whole = forth (e ∷ es) end (reply ++ bs) (answers owed one.failed next) in
    let entries : done ++ (e ∷ es) ≡ (done ++ e ∷ []) ++ es = sym (append_assoc done (e ∷ []) es) in
    let text : bytes ++ (reply ++ bs) ≡ more ++ bs = sym (append_assoc bytes reply bs) ∙ ap (λ x. x ++ bs) (sym grown) in
    subst (λ x. Traced start.declaration start.room start.openings (joined start.earlier) may_fail start.journal ((done ++ e ∷ []) ++ es) end x) text (subst (λ x. Traced start.declaration start.room start.openings (joined start.earlier) may_fail start.journal x end (bytes ++ (reply ++ bs))) entries whole)

entries_push : (d : Declaration) (es : List Entry) (e : Entry) → entries_text d (es ++ e ∷ []) ≡ entries_text d es ++ entry_line d e
entries_push d es e = flat_map-append (entry_line d) es (e ∷ []) ∙ ap (λ x. entries_text d es ++ x) (append-nil (entry_line d e))

drop_line : (line rest : List ℕ) → drop (length line + 1) (line ++ 10 ∷ rest) ≡ rest
drop_line line rest = drop-append-add line (10 ∷ rest) 1

-- the text goes on behind its next line
goes_on : (d : Declaration) (text rest : List ℕ) (done : List Entry) (e : Entry) → rest ≢ [] → IsFirstLine (line_text d e.0 e.1) rest → GoesOn d text done rest → GoesOn d text (done ++ e ∷ []) (drop (length (line_text d e.0 e.1) + 1) rest)
goes_on d text rest done e more first (inr (none, is)) = absurd (more none)
goes_on d text rest done e more (h, inl last) (inl is) = inr (
  ap (λ x. drop (length (line_text d e.0 e.1) + 1) x) last ∙ drop_all (length (line_text d e.0 e.1) + 1) (line_text d e.0 e.1) (omega arith),
  ap (λ x. x ++ 10 ∷ []) (is ∙ ap (λ x. entries_text d done ++ x) last) ∙ append_assoc (entries_text d done) (line_text d e.0 e.1) (10 ∷ []) ∙ sym (entries_push d done e),
)
goes_on d text rest done e more (h, inr (after, next)) (inl is) =
    let left : drop (length (line_text d e.0 e.1) + 1) rest ≡ after = ap (λ x. drop (length (line_text d e.0 e.1) + 1) x) next ∙ drop_line (line_text d e.0 e.1) after in
    let regroup : entries_text d done ++ (line_text d e.0 e.1 ++ 10 ∷ after) ≡ (entries_text d done ++ entry_line d e) ++ after = simp append_assoc in
    inl (is ∙ ap (λ x. entries_text d done ++ x) next ∙ regroup ∙ ap (λ x. x ++ after) (sym (entries_push d done e)) ∙ ap (λ x. entries_text d (done ++ e ∷ []) ++ x) (sym left))

-- what stands before the end of the first line is the line
first_is : (line rest : List ℕ) → IsFirstLine line rest → take (length line) rest ≡ line
first_is line rest (h, inl is) = ap (λ x. take (length line) x) is ∙ take_all (length line) line (omega arith)
first_is line rest (h, inr (after, is)) = ap (λ x. take (length line) x) is ∙ take-append_seam line (10 ∷ after)

-- the next line is read, answered and passed
pub answers_more : (may_fail : Type 0) (start old new : Account) (d : Declaration) (text rest line after bytes more : List ℕ) (number n w : ℕ) (a : Attempt) → d ≡ old.declaration → 0 < length rest
    → IsFirstLine (line_text d w a) rest → EntryFits (w, a) → n ≡ length (line_text d w a) → line ≡ take n rest → after ≡ drop (n + 1) rest
    → IsAnswered may_fail old new w a line bytes more → AnswersSoFar may_fail start old text rest bytes number → AnswersSoFar may_fail start new text after more (number + 1)
answers_more may_fail start old new d text rest line after bytes more number n w a is some first fits count copied left one s =
    let same : d ≡ start.declaration = is ∙ ap (λ a. a.declaration) s.rest_stays in
    let first_here : IsFirstLine (line_text start.declaration w a) rest = subst (λ x. IsFirstLine (line_text x w a) rest) same first in
    let count_here : n ≡ length (line_text start.declaration w a) = subst (λ x. n ≡ length (line_text x w a)) same count in
    let line_is : line ≡ line_text start.declaration w a = copied ∙ ap (λ x. take x rest) count_here ∙ first_is (line_text start.declaration w a) rest first_here in
    let after_is : after ≡ drop (length (line_text start.declaration w a) + 1) rest = left ∙ ap (λ x. drop (x + 1) rest) count_here in
    let j : new.journal ≡ with_line old.journal w a one.reply = ap (λ a. a.journal) one.stepped in
    record {
      done = s.done ++ (w, a) ∷ [];
      few = let few = s.few in let short : length after ≡ length rest - (n + 1) = ap length left ∙ length-drop (n + 1) rest in omega arith;
      fits = All-push EntryFits s.done (w, a) s.fits fits;
      parts = subst (λ x. GoesOn start.declaration text (s.done ++ (w, a) ∷ []) x) (sym after_is) (goes_on start.declaration text rest s.done (w, a) (λ e. let none : length rest ≡ 0 = ap length e in omega arith) first_here s.parts);
      rest_stays = one.stepped ∙ ap (λ (x : Account). record x { journal = with_line old.journal w a one.reply; failures = new.failures }) s.rest_stays ∙ ap (λ x. record start { journal = x; failures = new.failures }) (sym j);
      forth = forth_more may_fail start old new s.done (w, a) bytes line more line_is one s.rest_stays s.forth;
    }

spelled_whole : (d : Declaration) (text : List ℕ) (done : List Entry) (rest : List ℕ) → rest ≡ [] → GoesOn d text done rest → (text ≡ entries_text d done) ⊎ (text ++ 10 ∷ [] ≡ entries_text d done)
spelled_whole d text done rest none (inl is) = inl (is ∙ ap (λ x. entries_text d done ++ x) none ∙ append-nil (entries_text d done))
spelled_whole d text done rest none (inr (last, is)) = inr is

-- all attempts of a text are answered
pub answers_all : (may_fail : Type 0) (start now : Account) (text rest bytes : List ℕ) (number : ℕ) → rest ≡ [] → AnswersSoFar may_fail start now text rest bytes number → IsTraceBy may_fail start text now.journal bytes
answers_all may_fail start now text rest bytes number none s = record {
  entries = s.done;
  attempts = record { fits = s.fits; spelled = spelled_whole start.declaration text s.done rest none s.parts };
  traced =
      let whole = s.forth [] now.journal [] at_end in
      subst (λ x. Traced start.declaration start.room start.openings (joined start.earlier) may_fail start.journal s.done now.journal x) (append-nil bytes) (subst (λ x. Traced start.declaration start.room start.openings (joined start.earlier) may_fail start.journal x now.journal (bytes ++ [])) (append-nil s.done) whole);
}

refuted : (d : Declaration) (text : List ℕ) (done : List Entry) (rest : List ℕ) → rest ≢ [] → IsNoRest d rest → All EntryFits done → GoesOn d text done rest → (es : List Entry) → IsAttemptsText d text es → ⊥
refuted d text done rest more none fits (inl is) es t = none done fits es (subst (λ x. IsAttemptsText d x es) is t)
refuted d text done rest more none fits (inr (last, is)) es t = more last

-- the next line is no attempt
pub answers_refuted : (may_fail : Type 0) (start now : Account) (d : Declaration) (text rest bytes : List ℕ) (number : ℕ) → d ≡ now.declaration → 0 < length rest → (rest ≢ [] → IsNoRest d rest) → AnswersSoFar may_fail start now text rest bytes number → (es : List Entry) → IsAttemptsText start.declaration text es → ⊥
answers_refuted may_fail start now d text rest bytes number is some none s =
    let same : d ≡ start.declaration = is ∙ ap (λ a. a.declaration) s.rest_stays in
    let more : rest ≢ [] = λ e. let l : length rest ≡ 0 = ap length e in omega arith in
    refuted start.declaration text s.done rest more (subst (λ x. IsNoRest x rest) same (none more)) s.fits s.parts

-- a first line is no longer than its text
pub first_fits : (line rest : List ℕ) → IsFirstLine line rest → length line ≤ length rest
first_fits line rest (h, inl is) = let l : length rest ≡ length line = ap length is in omega arith
first_fits line rest (h, inr (after, is)) = let l : length rest ≡ length line + length (10 ∷ after) = ap length is ∙ length-append line (10 ∷ after) in omega arith
