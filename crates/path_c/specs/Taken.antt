-- What is answered of replies that are owed, of lines that others answered, and of handles that go on behind a journal.
use Rattle.std.specs.Prelude.{◌≡◌, ◌⊎◌, ℕ, Bool, List, Option, Some, None}
use Rattle.path_model.specs.declared.journal.Attempt.{Attempt}
use Rattle.path_model.specs.declared.journal.Reply.{Reply}
use Rattle.path_lines.specs.declared.texts.TextFault.{TextFault}
use Rattle.path_journal.specs.CutTexts.{IsCutFault}
use Rattle.path_system.specs.Accounts.{Account}
use Rattle.path_service.specs.declared.fault.ResumeRefusal.{ResumeRefusal}
use Rattle.path_service.specs.declared.taking.TakenText.{TakenText}
use Rattle.path_service.specs.Serving.{Serving}
use Rattle.path_service.specs.Taken.{IsOwedNow, IsResumeRefusal, TakesText}
use Rattle.path_c.specs.declared.answer.CodedAnswer.{CodedAnswer}
use Rattle.path_c.specs.declared.resume.Taken.{Taken}
use Rattle.path_c.specs.Answers.{journal_answer, plain, reply_answer, resume_answer, taken_answer}

-- the answer tells the reply that is owed
pub record IsOwedAnswer (account : Account) (worker : ℕ) (attempt : Attempt) (answer : CodedAnswer) : Type 0 where
  pub reply : Reply
  pub told : answer ≡ reply_answer reply
  pub owed : IsOwedNow account worker attempt reply

-- the reply that is owed to the line that wasn't taken, if there is one
abbrev pub owed_answer : Option Reply → CodedAnswer
owed_answer None = plain 0
owed_answer (Some reply) = reply_answer reply

abbrev pub amount_of : TakenText → Taken
amount_of t = record { lines = t.lines; bytes = t.bytes; owed = owed_answer t.owed }

abbrev pub nothing_taken : Taken
nothing_taken = record { lines = 0; bytes = 0; owed = plain 0 }

-- lines of the text are taken over, and the answer tells how many, or which is the first that isn't owed
pub record TakesLinesOver (old : Serving) (text : List ℕ) (answer : CodedAnswer) (taken : Taken) (new : Serving) : Type 0 where
  pub amount : TakenText
  pub takes : TakesText old text amount new
  pub told : answer ≡ taken_answer amount
  pub counted : taken ≡ amount_of amount

-- the text is no journal, and nothing changes
pub record TakesNothing (old : Serving) (text : List ℕ) (answer : CodedAnswer) (taken : Taken) (new : Serving) : Type 0 where
  pub fault : TextFault
  pub is : IsCutFault old.account.declaration text fault
  pub told : answer ≡ journal_answer fault
  pub none : taken ≡ nothing_taken
  pub kept : new ≡ old

abbrev pub TakesOver : Serving → List ℕ → CodedAnswer → Taken → Serving → Type 0
TakesOver old text answer taken new = TakesLinesOver old text answer taken new ⊎ TakesNothing old text answer taken new

-- nothing was opened, for a reason that the answer tells
abbrev pub IsUnresumed : List ℕ → ℕ → Bool → List ℕ → CodedAnswer → Type 0
IsUnresumed text room keeps journal answer =
    (refusal : ResumeRefusal) × (answer ≡ resume_answer refusal) × IsResumeRefusal text room keeps journal refusal
