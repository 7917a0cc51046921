-- The codes of the C interface, as `wanzoche.h` has them.
use Rattle.std.specs.Prelude.{ℕ, List, [], ◌∷◌, Option, Some, None, Result, Ok, Err, slice_index_or}
use Rattle.path_model.specs.declared.journal.Reply.{Reply}
use Rattle.path_model.specs.declared.journal.Reply.TheVariants as replies
use Rattle.path_model.specs.declared.journal.Verb.{Verb}
use Rattle.path_model.specs.declared.journal.Verb.TheVariants.{Put, Take, Look, Add}
use Rattle.path_lex.specs.declared.fault.DeclFault.{DeclFault}
use Rattle.path_lex.specs.declared.fault.DeclFault.TheVariants as declarations
use Rattle.path_lines.specs.declared.texts.TextFault.{TextFault}
use Rattle.path_lines.specs.declared.texts.TextFault.TheVariants as texts
use Rattle.path_script.specs.declared.fault.ScriptFault.{ScriptFault}
use Rattle.path_script.specs.declared.fault.ScriptFault.TheVariants as scripts
use Rattle.path_audit.specs.declared.journals.Verdict.{Verdict}
use Rattle.path_audit.specs.declared.journals.Verdict.TheVariants as verdicts
use Rattle.path_system.specs.declared.calls.StartRefusal.{StartRefusal}
use Rattle.path_system.specs.declared.calls.StartRefusal.TheVariants as starts
use Rattle.path_service.specs.declared.fault.ServiceFault.{ServiceFault}
use Rattle.path_service.specs.declared.fault.ServiceFault.TheVariants as services
use Rattle.path_service.specs.declared.fault.JournalFault.{JournalFault}
use Rattle.path_service.specs.declared.fault.JournalFault.TheVariants as journals
use Rattle.path_order.specs.declared.ruling.Ruling.{Ruling}
use Rattle.path_order.specs.declared.ruling.Ruling.TheVariants as rulings
use Rattle.path_service.specs.declared.fault.OrderFault.{OrderFault}
use Rattle.path_service.specs.declared.fault.OrderFault.TheVariants as orders
use Rattle.path_service.specs.declared.fault.AuditRefusal.{AuditRefusal}
use Rattle.path_service.specs.declared.fault.AuditRefusal.TheVariants as audits
use Rattle.path_service.specs.declared.fault.ExploreRefusal.{ExploreRefusal}
use Rattle.path_service.specs.declared.fault.ExploreRefusal.TheVariants as searches
use Rattle.path_service.specs.declared.fault.ResumeRefusal.{ResumeRefusal}
use Rattle.path_service.specs.declared.fault.ResumeRefusal.TheVariants as resumes
use Rattle.path_service.specs.declared.taking.TakenText.{TakenText}
use Rattle.path_c.specs.declared.answer.CodedAnswer.{CodedAnswer}

abbrev pub numbered : ℕ → ℕ → CodedAnswer
numbered code number = record { code = code; number = number }

abbrev pub plain : ℕ → CodedAnswer
plain code = numbered code 0

-- calls that get no reply
abbrev pub closed : CodedAnswer
closed = plain 0

abbrev pub no_verb : CodedAnswer
no_verb = plain 14

abbrev pub has_rotated : CodedAnswer
has_rotated = plain 16

abbrev pub opened : CodedAnswer
opened = plain 19

abbrev pub already_open : CodedAnswer
already_open = plain 20

abbrev pub out_of_memory : CodedAnswer
out_of_memory = plain 22

-- no lines are kept
abbrev pub no_journal : CodedAnswer
no_journal = plain 28

-- the buffer is too small for a text of this length
abbrev pub too_small : ℕ → CodedAnswer
too_small n = numbered 18 n

-- a reply
abbrev pub reply_answer : Reply → CodedAnswer
reply_answer (replies.Started n) = numbered 1 n.0
reply_answer (replies.Blocked p) = numbered 2 p.0
reply_answer replies.UnknownOperation = plain 3
reply_answer (replies.Used x) = numbered 4 x
reply_answer replies.NotOffered = plain 5
reply_answer replies.Empty = plain 6
reply_answer replies.Full = plain 7
reply_answer replies.Overflow = plain 8
reply_answer replies.DeviceFailed = plain 9
reply_answer replies.Finished = plain 10
reply_answer replies.Stale = plain 11
reply_answer replies.NotYours = plain 12
reply_answer replies.NoRoom = plain 13

-- whether an operation may start
abbrev pub may_answer : {U : Type 0} → Result U StartRefusal → CodedAnswer
may_answer (Ok u) = plain 15
may_answer (Err (starts.Blocked p)) = numbered 2 p.0
may_answer (Err starts.UnknownOperation) = plain 3
may_answer (Err starts.NoRoom) = plain 13

-- why it isn't told who comes next
abbrev pub order_answer : OrderFault → CodedAnswer
order_answer orders.UnknownOperation = plain 3
order_answer orders.NoRoom = plain 13
order_answer orders.OutOfMemory = out_of_memory

-- what becomes of a start
abbrev pub ruling_answer : Result Ruling OrderFault → CodedAnswer
ruling_answer (Ok rulings.Goes) = plain 15
ruling_answer (Ok (rulings.Refused p)) = numbered 2 p.0
ruling_answer (Ok (rulings.Withheld place)) = numbered 57 place
ruling_answer (Err fault) = order_answer fault

-- who is next
abbrev pub next_answer : Result (Option ℕ) OrderFault → CodedAnswer
next_answer (Ok (Some place)) = numbered 58 place
next_answer (Ok None) = plain 59
next_answer (Err fault) = order_answer fault

-- why a text isn't a declaration, with the place in it
abbrev pub declaration_answer : DeclFault → CodedAnswer
declaration_answer declarations.OutOfMemory = out_of_memory
declaration_answer declarations.TooLong = plain 32
declaration_answer (declarations.BadByte at) = numbered 33 at
declaration_answer (declarations.WordTooLong at) = numbered 34 at
declaration_answer (declarations.NumberTooLong at) = numbered 35 at
declaration_answer (declarations.Unexpected at) = numbered 36 at
declaration_answer (declarations.TooDeep at) = numbered 37 at
declaration_answer (declarations.DuplicateResource at) = numbered 38 at
declaration_answer (declarations.DuplicateOperation at) = numbered 39 at
declaration_answer (declarations.Undeclared at) = numbered 40 at
declaration_answer (declarations.RepeatedName at) = numbered 41 at
declaration_answer (declarations.NestedBraces at) = numbered 42 at
declaration_answer (declarations.BadCapacity at) = numbered 43 at
declaration_answer (declarations.BadCount at) = numbered 44 at
declaration_answer (declarations.TooMany at) = numbered 45 at

-- why a service can't be opened
abbrev pub fault_answer : ServiceFault → CodedAnswer
fault_answer (services.Declaration fault) = declaration_answer fault
fault_answer services.BadRoom = plain 21
fault_answer services.OutOfMemory = out_of_memory

-- why there is no text of a journal
abbrev pub text_answer : JournalFault → CodedAnswer
text_answer journals.NotKept = no_journal
text_answer journals.OutOfMemory = out_of_memory

-- a verdict, with the wrong line
abbrev pub verdict_answer : Verdict → CodedAnswer
verdict_answer verdicts.Sound = plain 23
verdict_answer (verdicts.WrongLine n) = numbered 24 n

-- why a text isn't a journal, with the line at fault
abbrev pub journal_answer : TextFault → CodedAnswer
journal_answer texts.TooLong = plain 25
journal_answer (texts.BadLine n) = numbered 26 n
journal_answer (texts.Undeclared n) = numbered 27 n
journal_answer texts.OutOfMemory = out_of_memory

-- why a text has no verdict
abbrev pub refusal_answer : AuditRefusal → CodedAnswer
refusal_answer (audits.Declaration fault) = declaration_answer fault
refusal_answer (audits.Journal fault) = journal_answer fault
refusal_answer audits.BadRoom = plain 21
refusal_answer audits.OutOfMemory = out_of_memory

-- how many lines of a text were taken over, or the first that isn't owed
abbrev pub stopped_answer : ℕ → Option Reply → CodedAnswer
stopped_answer n None = numbered 46 n
stopped_answer n (Some reply) = numbered 24 n

abbrev pub taken_answer : TakenText → CodedAnswer
taken_answer t = stopped_answer t.lines t.owed

-- why nothing goes on behind a journal
abbrev pub resume_answer : ResumeRefusal → CodedAnswer
resume_answer (resumes.Declaration fault) = declaration_answer fault
resume_answer (resumes.Journal fault) = journal_answer fault
resume_answer resumes.BadRoom = plain 21
resume_answer (resumes.WrongLine n reply) = numbered 24 n
resume_answer resumes.OutOfMemory = out_of_memory

-- why a text isn't a script, with the line at fault
abbrev pub script_answer : ScriptFault → CodedAnswer
script_answer scripts.TooLong = plain 51
script_answer (scripts.BadLine n) = numbered 52 n
script_answer (scripts.Undeclared n) = numbered 53 n
script_answer (scripts.Unbalanced n) = numbered 54 n
script_answer (scripts.TooDeep n) = numbered 55 n
script_answer (scripts.TooMany n) = numbered 56 n
script_answer scripts.OutOfMemory = out_of_memory

-- why no schedules are searched
abbrev pub search_answer : ExploreRefusal → CodedAnswer
search_answer (searches.Declaration fault) = declaration_answer fault
search_answer (searches.Script fault) = script_answer fault
search_answer searches.OutOfMemory = out_of_memory

-- the verbs with the number n, by their codes from 0
abbrev verbs : ℕ → List (Option Verb)
verbs n = Some (Put n) ∷ Some Take ∷ Some Look ∷ Some (Add n) ∷ []

-- the verb of a code, with its number
abbrev pub verb_at : ℕ → ℕ → Option Verb
verb_at code n = slice_index_or (verbs n) code None
