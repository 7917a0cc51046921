-- A right segment goes on; the first wrong line ends the audit.
use Rattle.std.proofs.Common.{◌≡◌, ◌∷◌, [], ◌++◌, ◌∙◌, List, take, subst, ap, sym, arith}
use Rattle.std.specs.Prelude.{map}
use Rattle.std.proofs.lemmas.List.{take_all, length-map}
use Rattle.path_model.specs.declared.journal.Line.{Line}
use Rattle.path_model.specs.Segments.{AreHonest}
use Rattle.path_audit.specs.Judged.{HasJudged, IsFirstWrongBehind, IsJudgeFault}
use Rattle.path_audit.proofs.Segments.{place_in, segment_there, segment_more}
use Rattle.path_audit.proofs.journals.audit_segments.Goals as goal

pub loop-segment-init : goal.loop-segment-init
loop-segment-init g c = (c.in_ok-auditor.ensures.opened, c.in_ok-auditor.ensures.room)

pub judge-requires : goal.judge-requires
judge-requires g c = (_, _, c.loop-segment.invariant.0)

pub returns-in-Err-WrongLine-clause-verdict : goal.returns-in-Err-WrongLine-clause-verdict
returns-in-Err-WrongLine-clause-verdict g c =
    let d = c.args.decl.now.declaration in
    let i = c.loop-segment.segment in
    let v = c.index-segments-segment.result in
    let rows = map (λ opening. opening.items) c.args.openings.now in
    let segments = take i (map (λ lines. lines.items) c.args.segments.now) in
    let found = subst (IsJudgeFault d _ rows segments c.deref.result.now) c.in-Err-WrongLine.field-0-is (c.in-Err-WrongLine.ensures.wrong rows segments c.loop-segment.invariant.0) in
    let lines : c.deref.result.now ≡ _ = c.deref.ensures.value ∙ sym (segment_there c.args.segments.now i v c.loop-segment-test.true c.index-segments-segment.is) in
    let wrong = subst (λ xs. IsFirstWrongBehind d c.args.room rows segments xs c.in-Err-WrongLine.line) lines
    (subst (λ room. IsFirstWrongBehind d room rows segments c.deref.result.now c.in-Err-WrongLine.line) c.loop-segment.invariant.1 found) in (
      place_in c.args.segments.now i v c.loop-segment-test.true c.index-segments-segment.is,
      subst (IsFirstWrongBehind d c.args.room rows segments _) (sym c.in-Err-WrongLine.line-is) wrong,
    )

pub loop-segment-preserved : goal.loop-segment-preserved
loop-segment-preserved g c =
    let d = c.args.decl.now.declaration in
    let i = c.loop-segment.segment in
    let v = c.index-segments-segment.result in
    let rows = map (λ opening. opening.items) c.args.openings.now in
    let segments = take i (map (λ lines. lines.items) c.args.segments.now) in
    let next = c.in-Ok.ensures.right rows segments c.loop-segment.invariant.0 in (
      subst (HasJudged c.in-Ok.next d rows) (ap (λ xs. segments ++ xs ∷ []) c.deref.ensures.value ∙ sym (segment_more c.args.segments.now i v c.loop-segment-test.true c.index-segments-segment.is)) next,
      c.in-Ok.ensures.room ∙ c.loop-segment.invariant.1,
    )

pub returns-clause-verdict : goal.returns-clause-verdict
returns-clause-verdict g c =
    let d = c.args.decl.now.declaration in
    let rows = map (λ opening. opening.items) c.args.openings.now in
    let all : List (List Line) = map (λ lines. lines.items) c.args.segments.now in
    subst (λ room. AreHonest d room rows all) c.loop-segment.invariant.1
    (subst (AreHonest d c.loop-segment.auditor.room rows) (take_all c.loop-segment.segment all (let k = c.loop-segment-test.false in omega (arith, k, length-map c.args.segments.now (λ lines. lines.items)))) c.loop-segment.invariant.0.honest)
