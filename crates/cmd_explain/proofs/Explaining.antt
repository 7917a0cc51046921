-- How far attempts have been explained.
use Rattle.std.proofs.Common.{◌≡◌, ℕ, ◌+◌, ◌<◌, List, [], ◌∷◌, ◌++◌, length, get_or, take, refl, sym, ap, ◌∙◌, subst, arith, append_assoc}
use Rattle.std.proofs.lemmas.List.{take_more, take_all, length-take-le}
use Rattle.path_model.specs.declared.journal.Attempt.{Attempt}
use Rattle.path_model.specs.declared.journal.Reply.{Reply}
use Rattle.path_model.specs.declared.journal.Line.{Line}
use Rattle.path_model.specs.Declarations.{Declaration}
use Rattle.path_model.specs.Journals.{with_line}
use Rattle.path_model.specs.Segments.{joined, OwedBehind}
use Rattle.path_lines.specs.AttemptTexts.{Entry}
use Rattle.path_shelf.specs.States.{State, MayFail}
use Rattle.path_shelf.specs.Own.{own_state}
use Rattle.path_system.specs.Accounts.{Account, account_of}
use Rattle.tell_base.specs.Own.{own_states}
use Rattle.tell_base.proofs.CallerLemmas.{unfailing}
use Rattle.cmd_explain.specs.Explanations.{AreExplained, IsExplainedStep, IsExplanation, numbered_line}

-- these attempts are explained by this text, and only the journal and the counts of failures have changed
pub record SoFar (may_fail : Type 0) (start now : Account) (es : List Entry) (text : List ℕ) : Type 0 where
  pub stays : now ≡ record start { journal = now.journal; failures = now.failures }
  pub told : AreExplained may_fail start es now.journal text

pub none_yet : (may_fail : Type 0) (start : Account) (text : List ℕ) → text ≡ [] → SoFar may_fail start start [] text
none_yet may_fail start text none = record {
  stays = refl;
  told = subst (λ t. AreExplained may_fail start [] start.journal t) (sym none) AreExplained.none;
}

-- a text has grown by a number, a line and more, one after the other
pub grown_so : (old a b c all number sign line more : List ℕ) → a ≡ old ++ (number ++ sign) → b ≡ a ++ line → c ≡ b ++ 10 ∷ [] → all ≡ c ++ more
    → all ≡ old ++ ((number ++ (sign ++ (line ++ 10 ∷ []))) ++ more)
grown_so old a b c all number sign line more ea eb ec eall = rw (eall, ec, eb, ea) (simp (append_assoc) refl)

owed_at : (a b : Account) (w : ℕ) (t : Attempt) (r : Reply) → a ≡ b
    → OwedBehind a.declaration a.room a.openings (joined a.earlier) a.journal w t r → OwedBehind b.declaration b.room b.openings (joined b.earlier) b.journal w t r
owed_at a b w t r e h = subst (λ x. OwedBehind x.declaration x.room x.openings (joined x.earlier) x.journal w t r) e h

-- one attempt more gets its reply
pub one_more : (may_fail : Type 0) (start old new : Account) (es : List Entry) (number w : ℕ) (a : Attempt) (before after : List ℕ) → number ≡ length es + 1
    → IsExplainedStep may_fail old new number w a before after → SoFar may_fail start old es before → SoFar may_fail start new (es ++ (w, a) ∷ []) after
one_more may_fail start old new es number w a before after counted one s =
    let j : new.journal ≡ with_line old.journal w a one.reply = ap (λ x. x.journal) one.stepped in
    let same : old.declaration ≡ start.declaration = ap (λ x. x.declaration) s.stays in
    let owed : OwedBehind start.declaration start.room start.openings (joined start.earlier) old.journal w a one.reply = owed_at old (record start { journal = old.journal; failures = old.failures }) w a one.reply s.stays one.owed in
    let line : numbered_line old.declaration number w a one.reply ≡ numbered_line start.declaration (length es + 1) w a one.reply =
    ap (λ d. numbered_line d number w a one.reply) same ∙ ap (λ n. numbered_line start.declaration n w a one.reply) counted in
    let grown : after ≡ before ++ (numbered_line start.declaration (length es + 1) w a one.reply ++ one.why) = one.grown ∙ ap (λ x. before ++ (x ++ one.why)) line in
    record {
      stays = one.stepped ∙ ap (λ (x : Account). record x { journal = with_line old.journal w a one.reply; failures = new.failures }) s.stays ∙ ap (λ x. record start { journal = x; failures = new.failures }) (sym j);
      told = subst (AreExplained may_fail start (es ++ (w, a) ∷ []) new.journal) (sym grown)
          (subst (λ ls. AreExplained may_fail start (es ++ (w, a) ∷ []) ls (before ++ (numbered_line start.declaration (length es + 1) w a one.reply ++ one.why))) (sym j)
          (AreExplained.next w a one.reply one.why s.told owed one.failed));
    }

-- the next of these attempts
pub next_entry : (may_fail : Type 0) (start old new : Account) (es : List Entry) (i : ℕ) (z : Entry) (before after : List ℕ) → i < length es
    → IsExplainedStep may_fail old new (i + 1) (get_or es i z).0 (get_or es i z).1 before after → SoFar may_fail start old (take i es) before → SoFar may_fail start new (take (i + 1) es) after
next_entry may_fail start old new es i z before after within one s =
    let counted : length (take i es) ≡ i = length-take-le i es (omega (arith, within)) in
    subst (λ xs. SoFar may_fail start new xs after) (sym (take_more es i z within))
    (one_more may_fail start old new (take i es) (i + 1) (get_or es i z).0 (get_or es i z).1 before after (omega (arith, counted)) one s)

-- all of them
pub all_told : (may_fail : Type 0) (start now : Account) (es : List Entry) (i : ℕ) (text : List ℕ) → length es ≡ i → SoFar may_fail start now (take i es) text
    → AreExplained may_fail start es now.journal text
all_told may_fail start now es i text whole s =
    subst (λ xs. AreExplained may_fail start xs now.journal text) (take_all i es (omega (arith, whole))) s.told

-- what is explained so is explained so wherever devices may fail
pub explained_so : {may might : Type 0} {system : Account} {es : List Entry} {ls : List Line} {text : List ℕ}
    → (may → might) → AreExplained may system es ls text → AreExplained might system es ls text
explained_so so AreExplained.none = AreExplained.none
explained_so so (AreExplained.next w a r why before owed failed) = AreExplained.next w a r why (explained_so so before) owed (λ e. so (failed e))

pub explanation_so : (may might : Type 0) (system : Account) (es : List Entry) (text : List ℕ) → (may → might)
    → IsExplanation may system es text → IsExplanation might system es text
explanation_so may might system es text so x = record { journal = x.journal; steps = x.steps; standing = x.standing; told = explained_so so x.told; whole = x.whole }

-- over the program's own devices, which never fail
pub explains_own : {Y : Type 0} (d : Declaration) (states : List State) (room : ℕ) (es : List Entry) (text : List ℕ) → states ≡ own_states d
    → IsExplanation (MayFail (own_state {Y = Y})) (account_of d room states) es text → IsExplanation ⊥ (account_of d room (own_states d)) es text
explains_own {Y} d states room es text own x =
    explanation_so (MayFail (own_state {Y = Y})) ⊥ (account_of d room (own_states d)) es text unfailing
    (subst (λ ss. IsExplanation (MayFail (own_state {Y = Y})) (account_of d room ss) es text) own x)
