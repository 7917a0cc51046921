-- What answers a line, and why one is refused.
use Rattle.std.proofs.Common.{◌≡◌, ℕ, Bool, List, [], ◌∷◌, ◌++◌, append_assoc, codes, inl, inr, refl, sym, ap, ◌∙◌, subst}
use Rattle.std.proofs.lemmas.List.{append-nil}
use Rattle.path_model.specs.declared.journal.Attempt.{Attempt}
use Rattle.path_model.specs.declared.journal.Line.{Line}
use Rattle.path_model.specs.declared.journal.Reply.{Reply}
use Rattle.path_model.specs.declared.journal.Reply.TheVariants as reply_kinds
use Rattle.path_model.specs.Declarations.{Declaration}
use Rattle.path_model.specs.Journals.{with_line}
use Rattle.path_model.specs.Owed.{Owed}
use Rattle.path_model.specs.Segments.{joined, OwedBehind}
use Rattle.path_fields.specs.Splits.{HasNone}
use Rattle.path_fields.proofs.CallerLemmas.{cut_none}
use Rattle.path_lines.specs.declared.entry.LineFault.{LineFault}
use Rattle.path_lines.specs.LineTexts.{line_text, reply_text}
use Rattle.path_lines.specs.AttemptTexts.{EntryFits, IsFirstFault, IsFirstLine, IsNoEntry}
use Rattle.path_system.specs.Accounts.{Account}
use Rattle.tell_base.specs.ReportTexts.{IsReportText}
use Rattle.cmd_trace.specs.Traces.{reply_line, IsAnswered}
use Rattle.cmd_follow.specs.declared.answer.Answered.{Answered}
use Rattle.cmd_follow.specs.declared.answer.Answered.TheVariants as answered
use Rattle.cmd_follow.specs.Follows.{IsAnswer, replies, reports}
use Rattle.cmd_follow.specs.Inner.Taken.{Answers, IfAnswered, IfRefused, TookLine, added, outcome}

-- a line without a line feed is its own first line
own_first : (line text : List ℕ) → HasNone 10 text → IsFirstLine line text → text ≡ line
own_first line text one (none, inl is) = is
own_first line text one (none, inr (rest, is)) = absurd (cut_none 10 line rest (subst (λ x. HasNone 10 x) is one))

-- a text has grown by a line, and by the reply to it with a line feed
pub grown_by : (old line more all reply : List ℕ) → more ≡ old ++ line → all ≡ more ++ (codes ": " ++ (reply ++ 10 ∷ []))
    → all ≡ old ++ ((line ++ (codes ": " ++ reply)) ++ 10 ∷ [])
grown_by old line more all reply a b = rw (b, a) (simp append_assoc refl)

pub answers_report : (may_fail : Type 0) (a : Account) (line bytes : List ℕ) → line ≡ 63 ∷ [] → IsReportText a.declaration a.journal bytes
    → Answers may_fail a a line bytes
answers_report may_fail a line bytes is told = (refl, reports is told)

pub answers_attempt : (may_fail : Type 0) (old new : Account) (d : Declaration) (line before after : List ℕ) (w : ℕ) (a : Attempt) → old.earlier ≡ [] → d ≡ old.declaration
    → HasNone 10 line → IsFirstLine (line_text d w a) line → EntryFits (w, a) → before ≡ [] → IsAnswered may_fail old new w a line before after
    → Answers may_fail old new line after
answers_attempt may_fail old new d line before after w a whole same one first fits empty h =
    let here : line ≡ line_text old.declaration w a = own_first (line_text d w a) line one first ∙ ap (λ x. line_text x w a) same in
    let journal : new.journal ≡ with_line old.journal w a h.reply = ap (λ (x : Account). x.journal) h.stepped in
    let told : after ≡ reply_line old.declaration w a h.reply =
    h.grown ∙ ap (λ x. x ++ ((line ++ (codes ": " ++ reply_text h.reply)) ++ 10 ∷ [])) empty
    ∙ ap (λ x. (x ++ (codes ": " ++ reply_text h.reply)) ++ 10 ∷ []) here in
    let owed : Owed old.declaration old.room old.openings old.journal w a h.reply =
    subst (λ es. OwedBehind old.declaration old.room old.openings (joined es) old.journal w a h.reply) whole h.owed in
    let answer : IsAnswer old.declaration old.room old.openings may_fail old.journal line (with_line old.journal w a h.reply) (reply_line old.declaration w a h.reply) =
    replies w a h.reply here fits owed h.failed in (
      h.stepped ∙ ap (λ x. record old { journal = x; failures = new.failures }) (sym journal),
      subst (λ x. IsAnswer old.declaration old.room old.openings may_fail old.journal line x after) (sym journal)
          (subst (λ x. IsAnswer old.declaration old.room old.openings may_fail old.journal line (with_line old.journal w a h.reply) x) (sym told) answer),
    )

pub refused_line : (d e : Declaration) (line : List ℕ) (fault : LineFault) → d ≡ e → HasNone 10 line → IsFirstFault d line fault → IsNoEntry e line
refused_line d e line fault same one h =
    let here : IsNoEntry d line = subst (λ x. IsNoEntry d x) (sym (own_first h.0 line one h.1)) h.2 in
    subst (λ x. IsNoEntry x line) same here

-- an attempt is never refused, and adds its line
pub outcome_answered : (w : ℕ) (a : Attempt) (r : Reply) (P : Type 0) → P → IfAnswered (outcome w a r) P
outcome_answered w a (reply_kinds.Started n) P q = q
outcome_answered w a (reply_kinds.Blocked p) P q = q
outcome_answered w a reply_kinds.UnknownOperation P q = q
outcome_answered w a (reply_kinds.Used x) P q = q
outcome_answered w a reply_kinds.NotOffered P q = q
outcome_answered w a reply_kinds.Empty P q = q
outcome_answered w a reply_kinds.Full P q = q
outcome_answered w a reply_kinds.Overflow P q = q
outcome_answered w a reply_kinds.DeviceFailed P q = q
outcome_answered w a reply_kinds.Finished P q = q
outcome_answered w a reply_kinds.Stale P q = q
outcome_answered w a reply_kinds.NotYours P q = q
outcome_answered w a reply_kinds.NoRoom P q = q

pub outcome_right : (w : ℕ) (a : Attempt) (r : Reply) (P : Type 0) → IfRefused (outcome w a r) P
outcome_right w a (reply_kinds.Started n) P = tt
outcome_right w a (reply_kinds.Blocked p) P = tt
outcome_right w a reply_kinds.UnknownOperation P = tt
outcome_right w a (reply_kinds.Used x) P = tt
outcome_right w a reply_kinds.NotOffered P = tt
outcome_right w a reply_kinds.Empty P = tt
outcome_right w a reply_kinds.Full P = tt
outcome_right w a reply_kinds.Overflow P = tt
outcome_right w a reply_kinds.DeviceFailed P = tt
outcome_right w a reply_kinds.Finished P = tt
outcome_right w a reply_kinds.Stale P = tt
outcome_right w a reply_kinds.NotYours P = tt
outcome_right w a reply_kinds.NoRoom P = tt

pub outcome_added : (ls : List Line) (w : ℕ) (a : Attempt) (r : Reply) → with_line ls w a r ≡ ls ++ added (outcome w a r)
outcome_added ls w a (reply_kinds.Started n) = refl
outcome_added ls w a (reply_kinds.Blocked p) = refl
outcome_added ls w a reply_kinds.UnknownOperation = refl
outcome_added ls w a (reply_kinds.Used x) = refl
outcome_added ls w a reply_kinds.NotOffered = refl
outcome_added ls w a reply_kinds.Empty = refl
outcome_added ls w a reply_kinds.Full = refl
outcome_added ls w a reply_kinds.Overflow = refl
outcome_added ls w a reply_kinds.DeviceFailed = refl
outcome_added ls w a reply_kinds.Finished = refl
outcome_added ls w a reply_kinds.Stale = refl
outcome_added ls w a reply_kinds.NotYours = refl
outcome_added ls w a reply_kinds.NoRoom = sym (append-nil ls)

-- the journal has the line more that was answered
pub line_journal : (old new : List Line) (a : Answered) (line : Line) → a ≡ answered.Line line → new ≡ old ++ added a → new ≡ old ++ line ∷ []
line_journal old new a line is more = subst (λ x. new ≡ old ++ added x) is more

pub took_answered : (may_fail : Type 0) (old new : Account) (text bytes : List ℕ) (before : Bool) (a : Answered) (line : Line) (ls : List Line) → a ≡ answered.Line line
    → IfAnswered a (Answers may_fail old new text bytes) → ls ≡ new.journal → TookLine may_fail old text before ls
took_answered may_fail old new text bytes before a line ls is answers same =
    inr (new, before, bytes, inl (subst (λ x. IfAnswered x (Answers may_fail old new text bytes)) is answers, refl), same)
