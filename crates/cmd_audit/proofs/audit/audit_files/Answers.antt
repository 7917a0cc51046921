-- The declaration or a file is refused, or the verdict on the segments is written.
use Rattle.std.proofs.Common.{◌≡◌, ◌<◌, ◌∙◌, [], ℕ, List, Some, length, get_or, refl, sym, ap, subst, arith}
use Rattle.std.specs.Prelude.{map}
use Rattle.std.specs.String.{string_bytes}
use Rattle.std.proofs.lemmas.List.{get_or-map, length-map}
use Rattle.path_audit.specs.declared.journals.Verdict.TheVariants as one
use Rattle.path_audit.specs.declared.journals.SegmentsVerdict.TheVariants as verdicts
use Rattle.tell_base.specs.Statuses.{declaration_status}
use Rattle.tell_base.proofs.CallerLemmas.{ends_told, ends_under, ends_written, may_refuse, may_undeclared, may_under, undeclared}
use Rattle.cmd_audit.specs.Files.{fault_status}
use Rattle.cmd_audit.specs.Audits.{verdict_line}
use Rattle.cmd_audit.specs.Segments.{AreAuditOf, SegmentsEnd, TellsSegments}
use Rattle.cmd_audit.proofs.SegmentLemmas.{tells}
use Rattle.cmd_audit.proofs.audit.audit_files.Goals as goal

pub returns-in-Ok-Sound : goal.returns-in-Ok-Sound
returns-in-Ok-Sound g c =
    let d = c.in-Ok.decl.declaration in
    let names : List (List ℕ) = map (λ f. string_bytes f.name) c.args.files.now in
    let texts : List (List ℕ) = map (λ f. f.text.items) c.args.files.now in
    ends_under _ (SegmentsEnd c.args.room names texts) d _ _ _ c.in-Ok.ensures.ok (λ out none. none)
    (ends_written (SegmentsEnd c.args.room names texts d) _ _ _ _ _ _ refl (tells d c.args.room names texts verdicts.Sound (subst (AreAuditOf d c.args.room texts) c.in-Ok-Sound.field-0-is c.in-Ok-Sound.ensures.ok)) c.tell_verdict.ensures)

pub returns-in-Ok-WrongLine : goal.returns-in-Ok-WrongLine
returns-in-Ok-WrongLine g c =
    let d = c.in-Ok.decl.declaration in
    let names : List (List ℕ) = map (λ f. string_bytes f.name) c.args.files.now in
    let texts : List (List ℕ) = map (λ f. f.text.items) c.args.files.now in
    let s = c.in-Ok-WrongLine.segment in
    let is : AreAuditOf d c.args.room texts (verdicts.WrongLine s c.in-Ok-WrongLine.line) = subst (AreAuditOf d c.args.room texts) c.in-Ok-WrongLine.field-0-is c.in-Ok-WrongLine.ensures.ok in
    let within : s < length c.args.files.now = omega (arith, is.judged.0, is.told.counted, length-map c.args.files.now (λ f. f.text.items)) in
    let name : c.as_str-name.result.now ≡ get_or names s [] = c.as_str-name.ensures.value ∙ sym (get_or-map (λ f. string_bytes f.name) c.args.files.now s c.index-files-segment.result [] within) in
    ends_under _ (SegmentsEnd c.args.room names texts) d _ _ _ c.in-Ok.ensures.ok (λ out none. none)
    (ends_written (SegmentsEnd c.args.room names texts d) _ _ _ _ _ _ (ap (λ x. verdict_line (Some x) (one.WrongLine c.in-Ok-WrongLine.line)) name)
    (tells d c.args.room names texts (verdicts.WrongLine s c.in-Ok-WrongLine.line) is) c.tell_verdict-in-Ok-WrongLine.ensures)

pub returns-in-Ok : goal.returns-in-Ok
returns-in-Ok g c =
    let d = c.in-Ok.decl.declaration in
    let names : List (List ℕ) = map (λ f. string_bytes f.name) c.args.files.now in
    let texts : List (List ℕ) = map (λ f. f.text.items) c.args.files.now in
    let fault = c.in-Err-verdict_on_files.fault in
    ends_told _ _ (fault_status fault) _
    (may_under _ (SegmentsEnd c.args.room names texts) d (fault_status fault) c.in-Ok.ensures.ok (λ out none. none)
    (may_refuse (TellsSegments d c.args.room names texts) _ _ _ _ (fault_status fault) (λ x. x) (λ x. x) c.in-Err-verdict_on_files.ensures.err))
    c.tell_of_file.ensures

pub returns : goal.returns
returns g c =
    let names : List (List ℕ) = map (λ f. string_bytes f.name) c.args.files.now in
    let texts : List (List ℕ) = map (λ f. f.text.items) c.args.files.now in
    ends_told _ _ (declaration_status c.in-Err.fault) _ (may_undeclared _ (SegmentsEnd c.args.room names texts) _ (undeclared c.args.declaration.now c.in-Err.fault c.in-Err.ensures.err)) c.tell.ensures
