-- Answers that can't be mistaken for each other.
use Rattle.std.proofs.Common.{◌≡◌, ◌≢◌, ℕ, List, length, ap, sym, ◌∙◌, arith, inl, inr}
use Rattle.std.proofs.lemmas.Bool.{cases_lt}
use Rattle.path_lex.specs.declared.fault.DeclFault.{DeclFault}
use Rattle.path_lex.specs.declared.fault.DeclFault.TheVariants as declarations
use Rattle.path_service.specs.declared.fault.ServiceFault.{ServiceFault}
use Rattle.path_service.specs.declared.fault.ServiceFault.TheVariants as services
use Rattle.path_service.specs.declared.fault.ResumeRefusal.{ResumeRefusal}
use Rattle.path_service.specs.declared.fault.ResumeRefusal.TheVariants as resumes
use Rattle.path_lines.specs.declared.texts.TextFault.{TextFault}
use Rattle.path_lines.specs.declared.texts.TextFault.TheVariants as texts
use Rattle.path_c.specs.declared.answer.CodedAnswer.{CodedAnswer}
use Rattle.path_c.specs.Answers.{declaration_answer, fault_answer, journal_answer, opened, out_of_memory, resume_answer}
use Rattle.path_c.specs.Calls.{IsGiven}

abbrev pub code_of : CodedAnswer → ℕ
code_of a = a.code

-- no fault is told as opened
no_declaration_opens : (f : DeclFault) → declaration_answer f ≡ opened → ⊥
no_declaration_opens declarations.OutOfMemory e = let k : 22 ≡ 19 = ap code_of e in omega (arith, k)
no_declaration_opens declarations.TooLong e = let k : 32 ≡ 19 = ap code_of e in omega (arith, k)
no_declaration_opens (declarations.BadByte at) e = let k : 33 ≡ 19 = ap code_of e in omega (arith, k)
no_declaration_opens (declarations.WordTooLong at) e = let k : 34 ≡ 19 = ap code_of e in omega (arith, k)
no_declaration_opens (declarations.NumberTooLong at) e = let k : 35 ≡ 19 = ap code_of e in omega (arith, k)
no_declaration_opens (declarations.Unexpected at) e = let k : 36 ≡ 19 = ap code_of e in omega (arith, k)
no_declaration_opens (declarations.TooDeep at) e = let k : 37 ≡ 19 = ap code_of e in omega (arith, k)
no_declaration_opens (declarations.DuplicateResource at) e = let k : 38 ≡ 19 = ap code_of e in omega (arith, k)
no_declaration_opens (declarations.DuplicateOperation at) e = let k : 39 ≡ 19 = ap code_of e in omega (arith, k)
no_declaration_opens (declarations.Undeclared at) e = let k : 40 ≡ 19 = ap code_of e in omega (arith, k)
no_declaration_opens (declarations.RepeatedName at) e = let k : 41 ≡ 19 = ap code_of e in omega (arith, k)
no_declaration_opens (declarations.NestedBraces at) e = let k : 42 ≡ 19 = ap code_of e in omega (arith, k)
no_declaration_opens (declarations.BadCapacity at) e = let k : 43 ≡ 19 = ap code_of e in omega (arith, k)
no_declaration_opens (declarations.BadCount at) e = let k : 44 ≡ 19 = ap code_of e in omega (arith, k)
no_declaration_opens (declarations.TooMany at) e = let k : 45 ≡ 19 = ap code_of e in omega (arith, k)

pub no_fault_opens : (f : ServiceFault) → fault_answer f ≡ opened → ⊥
no_fault_opens (services.Declaration fault) e = no_declaration_opens fault e
no_fault_opens services.BadRoom e = let k : 21 ≡ 19 = ap code_of e in omega (arith, k)
no_fault_opens services.OutOfMemory e = let k : 22 ≡ 19 = ap code_of e in omega (arith, k)

-- nor is what isn't a journal, or not one of these
no_journal_opens : (f : TextFault) → code_of (journal_answer f) ≢ 19
no_journal_opens texts.TooLong e = omega (arith, e)
no_journal_opens (texts.BadLine n) e = omega (arith, e)
no_journal_opens (texts.Undeclared n) e = omega (arith, e)
no_journal_opens texts.OutOfMemory e = omega (arith, e)

no_text_opens : (f : DeclFault) → code_of (declaration_answer f) ≢ 19
no_text_opens declarations.OutOfMemory e = omega (arith, e)
no_text_opens declarations.TooLong e = omega (arith, e)
no_text_opens (declarations.BadByte at) e = omega (arith, e)
no_text_opens (declarations.WordTooLong at) e = omega (arith, e)
no_text_opens (declarations.NumberTooLong at) e = omega (arith, e)
no_text_opens (declarations.Unexpected at) e = omega (arith, e)
no_text_opens (declarations.TooDeep at) e = omega (arith, e)
no_text_opens (declarations.DuplicateResource at) e = omega (arith, e)
no_text_opens (declarations.DuplicateOperation at) e = omega (arith, e)
no_text_opens (declarations.Undeclared at) e = omega (arith, e)
no_text_opens (declarations.RepeatedName at) e = omega (arith, e)
no_text_opens (declarations.NestedBraces at) e = omega (arith, e)
no_text_opens (declarations.BadCapacity at) e = omega (arith, e)
no_text_opens (declarations.BadCount at) e = omega (arith, e)
no_text_opens (declarations.TooMany at) e = omega (arith, e)

pub no_refusal_opens : (r : ResumeRefusal) → code_of (resume_answer r) ≢ 19
no_refusal_opens (resumes.Declaration fault) e = no_text_opens fault e
no_refusal_opens (resumes.Journal fault) e = no_journal_opens fault e
no_refusal_opens resumes.BadRoom e = omega (arith, e)
no_refusal_opens (resumes.WrongLine n reply) e = omega (arith, e)
no_refusal_opens resumes.OutOfMemory e = omega (arith, e)

-- what is given is never told as a want of memory
pub no_want : (text old : List ℕ) (answer : CodedAnswer) (new : List ℕ) → IsGiven text old answer new → answer ≡ out_of_memory → ⊥
no_want text old answer new given e = elim (cases_lt (length text) (length old)) [
  | inl fits ↦ let k : 17 ≡ 22 = ap code_of (sym (given.whole fits).0 ∙ e) in omega (arith, k)
  | inr large ↦ let k : 18 ≡ 22 = ap code_of (sym (given.large large).0 ∙ e) in omega (arith, k)
]
