-- The lines so far are right behind the segments that were judged, and the replay agrees with them.
use Rattle.std.proofs.Common.{ℕ, List, take}
use Rattle.path_model.specs.declared.journal.Line.{Line}
use Rattle.path_audit.specs.Judged.{HasJudged}
use Rattle.path_audit.proofs.Segments.{IsReplayBehind}
use Rattle.path_audit.proofs.auditor.Auditor.examine.Given as goal

abbrev pub invariant-loop-n : goal.invariant-loop-n
invariant-loop-n g l = (openings : List (List ℕ)) (segments : List (List Line)) → HasJudged l.fn.self l.decl.declaration openings segments
    → IsReplayBehind l.replay l.decl.declaration l.room openings segments (take l.n l.lines)
