-- What a call through a handle does, and what it answers.
use Rattle.std.specs.Prelude.{◌≡◌, ◌↔◌, ◌<◌, ◌≤◌, ◌+◌, ℕ, List, [], ◌∷◌, ◌++◌, length, drop, Option, Some, None, Result, IfOk, IfErr}
use Rattle.path_model.specs.declared.history.Event.{Event}
use Rattle.path_model.specs.declared.ids.OpId.{OpId}
use Rattle.path_model.specs.declared.journal.Attempt.{Attempt}
use Rattle.path_model.specs.declared.journal.Reply.{Reply}
use Rattle.path_model.specs.declared.journal.Verb.{Verb}
use Rattle.path_model.specs.declared.journal.Line.{Line}
use Rattle.path_model.specs.declared.journal.Activation.{Activation}
use Rattle.path_model.specs.Declarations.{Declaration}
use Rattle.path_decl.specs.Text.{IsDeclarationText}
use Rattle.path_audit.specs.declared.journals.Verdict.{Verdict}
use Rattle.path_system.specs.declared.calls.StartRefusal.{StartRefusal}
use Rattle.tell_base.specs.ReportTexts.{IsReportText}
use Rattle.path_system.specs.Accounts.{Account}
use Rattle.path_order.specs.declared.ruling.Ruling.{Ruling}
use Rattle.path_order.specs.declared.waiting.Waiter.{Waiter}
use Rattle.path_service.specs.declared.fault.OrderFault.{OrderFault}
use Rattle.path_service.specs.declared.fault.OrderFault.TheVariants as orders
use Rattle.path_service.specs.declared.fault.ServiceFault.{ServiceFault}
use Rattle.path_service.specs.declared.fault.AuditRefusal.{AuditRefusal}
use Rattle.path_service.specs.Ordered.{IsRuledIn, KeepsTheDoorIn, IsNextIn, IsUnopposedIn, IsFirstIn}
use Rattle.path_service.specs.Services.{IsServed, IsServiceFault, MayStart}
use Rattle.path_service.specs.Serving.{Serving}
use Rattle.path_service.specs.Verdicts.{IsAuditRefusal, IsVerdictOn}
use Rattle.path_c.specs.declared.answer.CodedAnswer.{CodedAnswer}
use Rattle.path_c.specs.declared.listed.Listed.{Listed}
use Rattle.path_c.specs.Answers.{fault_answer, may_answer, next_answer, numbered, refusal_answer, reply_answer, ruling_answer}
use Rattle.path_c.specs.Answers.{too_small, verdict_answer}

-- an attempt gets the answer of the reply that is owed to it, and the journal, if there is one, its line
pub record IsAnswered (old : Serving) (worker : ℕ) (attempt : Attempt) (answer : CodedAnswer) (new : Serving) : Type 0 where
  pub reply : Reply
  pub told : answer ≡ reply_answer reply
  pub step : IsServed old worker attempt reply new

-- where there is a verb, this holds of it
abbrev pub IsVerb : Option Verb → (Verb → Type 0) → Type 0
IsVerb None P = Unit {0}
IsVerb (Some v) P = P v

-- nothing was opened, for a fault that the answer tells
abbrev pub IsUnopened : List ℕ → ℕ → CodedAnswer → Type 0
IsUnopened text room answer = (fault : ServiceFault) × (answer ≡ fault_answer fault) × IsServiceFault text room fault

-- the answer tells the one verdict on the journal, or why there is none
abbrev pub IsJudged : List ℕ → ℕ → List ℕ → CodedAnswer → Type 0
IsJudged text room journal answer = (verdict : Verdict) × (answer ≡ verdict_answer verdict) × IsVerdictOn text room journal verdict

abbrev pub IsUnjudged : List ℕ → ℕ → List ℕ → CodedAnswer → Type 0
IsUnjudged text room journal answer =
    (refusal : AuditRefusal) × (answer ≡ refusal_answer refusal) × IsAuditRefusal text room journal refusal

-- the answer tells that the operation may start, or why it may not
abbrev pub IsStartable : Declaration → List Event → OpId → CodedAnswer → Type 0
IsStartable d h op answer = (told : Result (Unit {0}) StartRefusal) × (answer ≡ may_answer told) × MayStart d h op told

-- the answer tells what becomes of a start behind those who wait, or why it isn't told
pub record IsRuledBy (a : Account) (waiting : List Waiter) (running : List ℕ) (asking : Waiter) (answer : CodedAnswer) : Type 0 where
  pub told : Result Ruling OrderFault
  pub answered : answer ≡ ruling_answer told
  pub ruled : IfOk told (IsRuledIn a waiting running asking)
  pub door : IfOk told (KeepsTheDoorIn a waiting running asking)
  pub declared : IfOk told (λ _. asking.operation < length a.declaration.operations)
  pub unknown : IfErr told (λ fault. (fault ≡ orders.UnknownOperation) ↔ (length a.declaration.operations ≤ asking.operation))

-- the answer tells who is next, or why it isn't told
pub record IsNextBy (a : Account) (waiting : List Waiter) (running : List ℕ) (answer : CodedAnswer) : Type 0 where
  pub told : Result (Option ℕ) OrderFault
  pub answered : answer ≡ next_answer told
  pub next : IfOk told (IsNextIn a waiting running)
  pub door : IfOk told (IsUnopposedIn a waiting running)
  pub no_stall : running ≡ [] → IfOk told (IsFirstIn a waiting)

-- a buffer that begins with this text and a zero byte
abbrev pub with_text : List ℕ → List ℕ → List ℕ
with_text buffer text = text ++ (0 ∷ drop (length text + 1) buffer)

-- the buffer has the text now if it is large enough, which the answer tells by this code, and else stays; the answer tells the length of
-- the text
pub record IsGivenAs (code : ℕ) (text old : List ℕ) (answer : CodedAnswer) (new : List ℕ) : Type 0 where
  pub whole : length text < length old → (answer ≡ numbered code (length text)) × (new ≡ with_text old text)
  pub large : length old ≤ length text → (answer ≡ too_small (length text)) × (new ≡ old)

abbrev pub IsGiven : List ℕ → List ℕ → CodedAnswer → List ℕ → Type 0
IsGiven text old answer new = IsGivenAs 17 text old answer new

-- the buffer is given the text of the report on these lines
abbrev pub IsReportGiven : Declaration → List Line → List ℕ → CodedAnswer → List ℕ → Type 0
IsReportGiven d lines old answer new = (text : List ℕ) × IsReportText d lines text × IsGiven text old answer new

-- the buffer is given some text, an empty one if this is a declaration's
abbrev pub IsFindingGiven : List ℕ → List ℕ → CodedAnswer → List ℕ → Type 0
IsFindingGiven text old answer new =
    (told : List ℕ) × ((d : Declaration) → IsDeclarationText text d → told ≡ []) × IsGiven told old answer new

-- a live activation as C sees it
abbrev pub listed : Activation → Listed
listed a = record { activation = a.act.0; worker = a.worker; operation = a.op.0 }

-- the activation, if there is one, is there now, and else nothing has changed
abbrev pub IsListed : Option Activation → Listed → ℕ → Listed → Type 0
IsListed None old code new = (code ≡ 0) × (new ≡ old)
IsListed (Some a) old code new = (code ≡ 1) × (new ≡ listed a)
