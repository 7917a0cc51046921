-- What a worker waits for behind one more line.
use Rattle.std.proofs.Common.{◌≡◌, ◌≢◌, ℕ, ◌+◌, ◌<◌, ◌⊎◌, List, [], ◌∷◌, ◌++◌, length, take, get_or, Option, None, Some, refl, sym, subst, ap, ◌∙◌, append_assoc, inl, inr}
use Rattle.std.specs.Prelude.{IfNone, IfSome}
use Rattle.std.proofs.lemmas.List.{take_more}
use Rattle.path_model.specs.declared.ids.OpId.{OpId}
use Rattle.path_model.specs.declared.ids.PathId.{PathId}
use Rattle.path_model.specs.declared.journal.Attempt.TheVariants.{Start}
use Rattle.path_model.specs.declared.journal.Reply.TheVariants.{Blocked, Finished}
use Rattle.path_model.specs.declared.journal.Line.{Line}
use Rattle.path_model.specs.declared.ids.ActId.{ActId}
use Rattle.path_model.specs.Stuck.{HasFinishLine, blocked_line, started_line}
use Rattle.path_model.specs.Trees.{WellFormed}
use Rattle.path_model.specs.Legal.{Every}
use Rattle.path_model.specs.Declarations.{Declaration, paths_of}
use Rattle.path_model.specs.Honest.{IsHonest}
use Rattle.path_model.proofs.CallerLemmas.{finishes_come_between}
use Rattle.tell_waiting.specs.Waiting.{WaitsFor, WaitsUntilAFinish}

not_nil : (ls : List Line) (l : Line) → ls ++ l ∷ [] ≢ []
not_nil [] l e = cc
not_nil (x ∷ ls) l e = cc

-- lists with the same last line
same_last : (xs ys : List Line) (k l : Line) → xs ++ k ∷ [] ≡ ys ++ l ∷ [] → (xs ≡ ys) × (k ≡ l)
same_last [] [] k l e = (refl, cc)
same_last [] (y ∷ ys) k l e = absurd (not_nil ys l (let rest : [] ≡ ys ++ l ∷ [] = cc in sym rest))
same_last (x ∷ xs) [] k l e = absurd (not_nil xs k (let rest : xs ++ k ∷ [] ≡ [] = cc in rest))
same_last (x ∷ xs) (y ∷ ys) k l e =
    let rest : xs ++ k ∷ [] ≡ ys ++ l ∷ [] = cc in
    let found = same_last xs ys k l rest in
    let front = found.0 in
    (cc, found.1)

-- whoever waits has attempted something
pub nobody_at_first : (w : ℕ) (a : OpId) (ls : List Line) → WaitsFor w a ls → ls ≡ [] → ⊥
nobody_at_first w a _ (WaitsFor.refused ls p) e = not_nil ls (blocked_line w a p) e
nobody_at_first w a _ (WaitsFor.others ls l before other unfinished) e = not_nil ls l e

-- the last line, of whoever waits: its refused start, or another's that is no finish
pub last_of_waiting : (w : ℕ) (a : OpId) (xs : List Line) → WaitsFor w a xs → (ls : List Line) (l : Line) → xs ≡ ls ++ l ∷ []
    → ((p : PathId) × (blocked_line w a p ≡ l)) ⊎ (WaitsFor w a ls × (l.worker ≢ w) × (l.reply ≢ Finished))
last_of_waiting w a _ (WaitsFor.refused ks p) ls l e = inl (p, (same_last ks ls (blocked_line w a p) l e).1)
last_of_waiting w a _ (WaitsFor.others ks k before other unfinished) ls l e =
    let same = same_last ks ls k l e in
    inr (subst (WaitsFor w a) same.0 before, subst (λ x. x.worker ≢ w) same.1 other, subst (λ x. x.reply ≢ Finished) same.1 unfinished)

-- its start was refused
pub waits_now : (l : Line) (a : OpId) (p : PathId) → l.attempt ≡ Start a → l.reply ≡ Blocked p → (ls : List Line) → WaitsFor l.worker a (ls ++ l ∷ [])
waits_now l a p attempted replied ls =
    subst (λ r. WaitsFor l.worker a (ls ++ record { worker = l.worker; attempt = l.attempt; reply = r } ∷ [])) (sym replied)
    (subst (λ x. WaitsFor l.worker a (ls ++ record { worker = l.worker; attempt = x; reply = Blocked p } ∷ [])) (sym attempted) (WaitsFor.refused ls p))

-- another worker's line is no finish
pub waits_on : (waits : Option OpId) (w : ℕ) (l : Line) → l.worker ≢ w → l.reply ≢ Finished
    → IfSome waits (λ a. (ls : List Line) → IfSome waits (λ b. WaitsFor w b ls) → WaitsFor w a (ls ++ l ∷ []))
waits_on None w l other unfinished = tt
waits_on (Some a) w l other unfinished = λ ls before. WaitsFor.others ls l before other unfinished

-- the step of the loop
pub one_more : (old new : Option OpId) (w i : ℕ) (lines : List Line) (l : Line) → i < length lines → get_or lines i l ≡ l
    → IfSome new (λ a. (ls : List Line) → IfSome old (λ b. WaitsFor w b ls) → WaitsFor w a (ls ++ l ∷ []))
    → IfSome old (λ b. WaitsFor w b (take i lines)) → IfSome new (λ a. WaitsFor w a (take (i + 1) lines))
one_more old None w i lines l within here step before = tt
one_more old (Some a) w i lines l within here step before =
    subst (WaitsFor w a) (sym (take_more lines i l within ∙ ap (λ x. take i lines ++ x ∷ []) here)) (step (take i lines) before)

-- behind a line that is no finish, a finish is farther on
farther : (l : Line) (ls : List Line) → l.reply ≢ Finished → HasFinishLine (l ∷ ls) → HasFinishLine ls
farther l ls unfinished found = elim found [
  | inl e ↦ absurd (unfinished e)
  | inr later ↦ later
]

module _ (d : Declaration) (room : ℕ) (openings : List (List ℕ)) (formed : Every WellFormed (paths_of d)) (v w : ℕ) (a : OpId) (n : ActId) where
  lasts : (x y : List Line) → WaitsFor v a x → IsHonest d room openings (x ++ (y ++ started_line w a n ∷ [])) → HasFinishLine y
  lasts _ y (WaitsFor.refused ls p) honest =
      finishes_come_between d room openings formed ls y v w a p n
      (subst (IsHonest d room openings) (append_assoc ls (blocked_line v a p ∷ []) (y ++ started_line w a n ∷ [])) honest)
  lasts _ y (WaitsFor.others ls l waited other unfinished) honest =
      farther l y unfinished
      (lasts ls (l ∷ y) waited (subst (IsHonest d room openings) (append_assoc ls (l ∷ []) (y ++ started_line w a n ∷ [])) honest))

pub until_a_finish : WaitsUntilAFinish
until_a_finish d room openings formed x y v w a n waits honest = lasts d room openings formed v w a n x y waits honest

-- a line of the worker's own that isn't a refused start
pub waits_no_more : (l : Line) → ((a : OpId) (p : PathId) → l.attempt ≡ Start a → l.reply ≡ Blocked p → ⊥)
    → (a : OpId) (ls : List Line) → WaitsFor l.worker a (ls ++ l ∷ []) → ⊥
waits_no_more l other a ls waits = elim (last_of_waiting l.worker a _ waits ls l refl) [
  | inl e ↦ other a e.0 (sym (ap (λ (x : Line). x.attempt) e.1)) (sym (ap (λ (x : Line). x.reply) e.1))
  | inr before ↦ before.1 refl
]

-- behind a finish nobody waits
pub none_behind_a_finish : (l : Line) → l.reply ≡ Finished → (w : ℕ) (a : OpId) (ls : List Line) → WaitsFor w a (ls ++ l ∷ []) → ⊥
none_behind_a_finish l finished w a ls waits = elim (last_of_waiting w a _ waits ls l refl) [
  | inl e ↦ (let both : Blocked e.0 ≡ Finished = ap (λ (x : Line). x.reply) e.1 ∙ finished in cc)
  | inr before ↦ before.2 finished
]

-- who didn't wait before another's line doesn't behind it
pub waits_as_little : (waits : Option OpId) (w : ℕ) (l : Line) → l.worker ≢ w
    → IfNone waits ((a : OpId) (ls : List Line) → IfNone waits ((b : OpId) → WaitsFor w b ls → ⊥) → WaitsFor w a (ls ++ l ∷ []) → ⊥)
waits_as_little (Some b) w l other = tt
waits_as_little None w l other = λ a ls nobody waits. elim (last_of_waiting w a _ waits ls l refl) [
  | inl e ↦ other (sym (ap (λ (x : Line). x.worker) e.1))
  | inr before ↦ nobody a before.0
]

-- the step of the loop
pub no_more : (old new : Option OpId) (w i : ℕ) (lines : List Line) (l : Line) → i < length lines → get_or lines i l ≡ l
    → IfNone new ((a : OpId) (ls : List Line) → IfNone old ((b : OpId) → WaitsFor w b ls → ⊥) → WaitsFor w a (ls ++ l ∷ []) → ⊥)
    → IfNone old ((b : OpId) → WaitsFor w b (take i lines) → ⊥) → IfNone new ((b : OpId) → WaitsFor w b (take (i + 1) lines) → ⊥)
no_more old (Some a) w i lines l within here step before = tt
no_more old None w i lines l within here step before = λ b waits.
    step b (take i lines) before (subst (WaitsFor w b) (take_more lines i l within ∙ ap (λ x. take i lines ++ x ∷ []) here) waits)
