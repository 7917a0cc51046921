-- The segments so far were judged.
use Rattle.std.proofs.Common.{◌≡◌, take}
use Rattle.std.specs.Prelude.{map}
use Rattle.path_audit.specs.Judged.{HasJudged}
use Rattle.path_audit.proofs.journals.audit_segments.Given as goal

abbrev pub invariant-loop-segment : goal.invariant-loop-segment
invariant-loop-segment g l =
    HasJudged l.auditor l.decl.declaration (map (λ opening. opening.items) l.openings) (take l.segment (map (λ lines. lines.items) l.segments)) × (l.auditor.room ≡ l.room)
